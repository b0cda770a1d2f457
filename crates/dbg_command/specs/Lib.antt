pub mod Tables
pub mod Boxes

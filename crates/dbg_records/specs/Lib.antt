pub mod Flat
pub mod Small

pub mod Pairs
pub mod Words
pub mod Boards
pub mod Rules

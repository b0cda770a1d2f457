pub mod Crews
pub mod Desks
pub mod Finding
pub mod Openings
pub mod Reserved
pub mod Settling

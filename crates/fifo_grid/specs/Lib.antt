pub mod Queues
pub mod Grids

pub mod Hindrances

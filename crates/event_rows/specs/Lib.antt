pub mod Settings
pub mod Exchanges
pub mod EventValues
pub mod Events
pub mod Truths

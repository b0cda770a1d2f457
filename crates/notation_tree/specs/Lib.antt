pub mod Places
pub mod ComputedValues

pub mod Origins
pub mod CausalPasts
pub mod Undoings

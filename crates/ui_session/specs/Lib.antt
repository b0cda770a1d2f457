pub mod Dialogues
pub mod Named
pub mod Verbs

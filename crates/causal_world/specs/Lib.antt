pub mod Pasts
pub mod Scenes
pub mod Deciding
pub mod Room
pub mod Worlds
pub mod Rollings

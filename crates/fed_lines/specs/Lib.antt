pub mod Feed
pub mod Held

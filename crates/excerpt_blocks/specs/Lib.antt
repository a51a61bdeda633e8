pub mod Below
pub mod Blocks
pub mod Labels

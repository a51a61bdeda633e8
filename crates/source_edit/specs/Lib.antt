pub mod Edits
pub mod Causes
pub mod Starts
pub mod Steps
pub mod Ready
pub mod Labels

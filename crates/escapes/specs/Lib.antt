pub mod Escape
pub mod Cuts

pub mod Texts
pub mod Labels
pub mod Wrong
pub mod Values

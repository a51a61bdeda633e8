pub mod Tokens
pub mod Patterns
pub mod Finding
pub mod Selection
pub mod Changed
pub mod Texts
pub mod Baseline

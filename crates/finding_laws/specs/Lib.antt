pub mod Baselines
pub mod Checkstyle
pub mod Problems
pub mod Logs

pub mod Repeats
pub mod Verdicts
pub mod Counts

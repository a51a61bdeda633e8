pub mod Entries
pub mod Filtered

pub mod Entries
pub mod Findings
pub mod Late
pub mod Parts

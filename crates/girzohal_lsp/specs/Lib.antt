pub mod Words
pub mod Logs
pub mod Found
pub mod Blocks
pub mod Kept
pub mod Served

pub mod Escape
pub mod Line
pub mod Parsed
pub mod Read
pub mod Lines
pub mod Report
pub mod Reported

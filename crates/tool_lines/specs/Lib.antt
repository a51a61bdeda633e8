pub mod Marks
pub mod Columns
pub mod Speaks
pub mod Lines
pub mod Paint
pub mod Details

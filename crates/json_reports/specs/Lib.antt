pub mod Marks
pub mod Spans
pub mod Reports
pub mod Cells

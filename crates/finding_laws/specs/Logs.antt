pub mod Meant
pub mod Back
pub mod Reports

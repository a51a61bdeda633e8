pub mod Cells
pub mod Gutter
pub mod Items
pub mod Kinds
pub mod Lines
pub mod Places
pub mod Runs
pub mod Tables

pub mod Marks
pub mod Parts
pub mod Values
pub mod Told
pub mod Input
pub mod Forms
pub mod Xml

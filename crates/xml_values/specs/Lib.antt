pub mod Words
pub mod Marks
pub mod Text
pub mod Tag
pub mod Element
pub mod Views
pub mod Document

pub mod Reading
pub mod MemorySource
pub mod Kinds
pub mod Document
pub mod Fields
pub mod Views
pub mod Generated
pub mod Written

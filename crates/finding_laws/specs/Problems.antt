pub mod Plain
pub mod Read

pub mod Read
pub mod Escaped
pub mod Ascii
pub mod Spans
pub mod Spots
pub mod Groups
pub mod Page
pub mod Laws

pub mod Texts
pub mod Causes
pub mod Laws
pub mod Lines
pub mod LineLaws
pub mod Places
pub mod Spans

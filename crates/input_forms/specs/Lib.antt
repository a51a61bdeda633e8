pub mod Begun
pub mod Object
pub mod Scanned
pub mod Sure

pub mod Told
pub mod Place
pub mod Named
pub mod Matching
pub mod Given

pub mod WordLemmas
pub mod TrueLemmas
pub mod RunLemmas

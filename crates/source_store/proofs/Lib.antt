pub mod PlaceLemmas
pub mod NamedLemmas
pub mod GivenLemmas

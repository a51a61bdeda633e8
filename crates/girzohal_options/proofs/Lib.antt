pub mod GivenLemmas
pub mod NearLemmas

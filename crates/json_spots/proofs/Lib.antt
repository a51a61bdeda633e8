pub mod SpotLemmas
pub mod SaidLemmas
pub mod SameLemmas

pub mod CharsLemmas
pub mod WordLemmas
pub mod FlagLemmas
pub mod SumLemmas
pub mod LaneLemmas
pub mod Counting

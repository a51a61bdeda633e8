pub mod TokenLemmas
pub mod MeaningLemmas
pub mod LawLemmas
pub mod BaselineLemmas
pub mod OrderLemmas

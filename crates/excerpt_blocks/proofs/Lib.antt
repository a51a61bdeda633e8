pub mod BlockLemmas
pub mod LabelLemmas

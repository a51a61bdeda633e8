pub mod EscapeLemmas
pub mod CutLemmas

pub mod BodyLemmas
pub mod CutLemmas

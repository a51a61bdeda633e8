pub mod AlignedLemmas
pub mod AlignmentLemmas
pub mod EditLemmas
pub mod EndLemmas
pub mod ExpansionLemmas
pub mod HunkLemmas
pub mod PlaceLemmas
pub mod SearchLemmas

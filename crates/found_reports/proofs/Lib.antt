pub mod KeptLemmas
pub mod ListedLemmas
pub mod FileLemmas
pub mod OnceLemmas

pub mod JsonLemmas
pub mod KeyLemmas
pub mod SpelledLemmas
pub mod SureLemmas

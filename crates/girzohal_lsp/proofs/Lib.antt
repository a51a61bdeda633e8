pub mod FoundLemmas
pub mod ServedLemmas
pub mod BlockLemmas
pub mod LogLemmas
pub mod KeptLemmas

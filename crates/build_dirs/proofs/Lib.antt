pub mod AgainLemmas
pub mod ChangeLemmas
pub mod DirLemmas
pub mod QuoteLemmas

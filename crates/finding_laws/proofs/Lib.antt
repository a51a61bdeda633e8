pub mod SharedLemmas
pub mod BaselineLemmas
pub mod CheckstyleLemmas
pub mod ProblemLemmas
pub mod LogLemmas

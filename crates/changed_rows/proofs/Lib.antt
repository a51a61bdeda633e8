pub mod NameLemmas
pub mod HeadLemmas
pub mod FileLemmas
pub mod QuotedLemmas
pub mod ReadingLemmas
pub mod DiffLemmas

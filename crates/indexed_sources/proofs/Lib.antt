pub mod IndexedLemmas

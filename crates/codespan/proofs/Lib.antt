pub mod Counting
pub mod LinesLemmas
pub mod TextsLemmas

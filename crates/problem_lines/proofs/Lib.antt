pub mod EscapeLemmas
pub mod UnescapeLemmas
pub mod BackLemmas
pub mod LinesLemmas
pub mod ReadLemmas
pub mod GivenBack
pub mod ReportLemmas

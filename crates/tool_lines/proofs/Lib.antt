pub mod LinesLemmas
pub mod InsetLemmas
pub mod PlainLemmas
pub mod PaintLemmas
pub mod DetailsLemmas
pub mod ClosingLemmas

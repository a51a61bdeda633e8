pub mod SpanLemmas
pub mod RowLemmas
pub mod OffsetLemmas

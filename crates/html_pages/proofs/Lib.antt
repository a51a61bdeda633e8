pub mod EscapedLemmas
pub mod SpanLemmas
pub mod StyleLemmas
pub mod SpotLemmas

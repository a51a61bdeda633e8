pub mod MarkLemmas
pub mod TextLemmas
pub mod TagLemmas
pub mod ContentLemmas
pub mod ValueLemmas
pub mod ElementLemmas
pub mod DocumentLemmas

pub mod Consuming
pub mod KeyLemmas
pub mod KindLemmas
pub mod GeneratedLemmas
pub mod PlacesLemmas
pub mod FormLemmas
pub mod WrittenLemmas
pub mod PlainLemmas

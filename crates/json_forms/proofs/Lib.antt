pub mod CountLemmas
pub mod CutLemmas
pub mod OrderLemmas
pub mod PosnLemmas
pub mod ReadLemmas
pub mod RefusalLemmas
pub mod ToldLemmas
pub mod ValueLemmas

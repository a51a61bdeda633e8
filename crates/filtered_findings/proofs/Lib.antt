pub mod CountLemmas
pub mod RepeatLemmas
pub mod KnownLemmas

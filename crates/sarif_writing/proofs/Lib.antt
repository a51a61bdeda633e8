pub mod PlainLemmas
pub mod ListLemmas
pub mod RuleLemmas
pub mod StandingLemmas
pub mod BesideLemmas

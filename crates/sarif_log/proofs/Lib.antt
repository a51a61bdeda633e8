pub mod FormLemmas
pub mod LogLemmas
pub mod AnswerLemmas
pub mod CutLemmas

mod StartsLemmas
mod StepsLemmas
mod FoundLemmas
mod AllLemmas
pub mod LabelsLemmas

pub mod CellLemmas
pub mod GutterLemmas
pub mod HungLemmas
pub mod ItemLemmas
pub mod PlaceLemmas
pub mod RunLemmas
pub mod TableLemmas
pub mod TextLemmas

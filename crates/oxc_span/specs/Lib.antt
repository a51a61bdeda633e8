pub mod Label
pub mod Views
pub mod LabelEq

pub mod Number
pub mod NameBack
pub mod PlaceBack
pub mod SaidBack
pub mod LineBack
pub mod TextBack
pub mod ProblemsBack

pub mod Spot
pub mod Said
pub mod Mark
pub mod Text
pub mod Same

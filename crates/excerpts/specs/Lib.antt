pub mod Body
pub mod Cuts
pub mod Roles

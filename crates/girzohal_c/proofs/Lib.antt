pub mod Replying
pub mod Written

pub mod Units
pub mod Places
pub mod Index
pub mod Parts
pub mod Bytes

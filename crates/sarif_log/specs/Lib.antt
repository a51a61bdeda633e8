pub mod Form
pub mod Faults
pub mod Log
pub mod Answer
pub mod Cut

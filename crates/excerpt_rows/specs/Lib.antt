pub mod Aligned
pub mod Alignment
pub mod Edits
pub mod Ends
pub mod Expansion
pub mod Hunk
pub mod Search

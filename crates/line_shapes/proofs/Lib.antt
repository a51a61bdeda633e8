pub mod BytesLemmas
pub mod PartLemmas
pub mod PlaceLemmas
pub mod FigureLemmas
pub mod LeastLemmas
pub mod ToolsLemmas

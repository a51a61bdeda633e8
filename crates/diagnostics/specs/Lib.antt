pub use Rattle.oxc_protocol.specs.Parts
pub use Rattle.oxc_protocol.specs.SourceViews
pub use Rattle.oxc_handlers.specs.Refusals
pub use Rattle.oxc_handlers.specs.Report
pub use Rattle.oxc_handlers.specs.Theme
pub mod Drawn
pub use Rattle.oxc_handlers.specs.Reports

-- What JSON shows of a view.
use Rattle.std.specs.Prelude.{ℕ, List, Option}
use Rattle.oxc_protocol.specs.Parts.{Parts}
use Rattle.oxc_handlers.specs.declared.view.DiagnosticView.{DiagnosticView}
use Rattle.oxc_handlers.specs.Report.{view_parts}

-- the parts of a view, with this url, which a view itself has not
abbrev pub with_url : DiagnosticView → Option (List ℕ) → Parts
with_url view url = record (view_parts view) { url = url }

use Rattle.std.specs.Prelude.{ℕ, List, Option, Some, None, []}
use Rattle.oxc_span.specs.Label.{Label}
use Rattle.oxc_protocol.specs.Source.{SourceParts}
use Rattle.oxc_protocol.specs.Code.{CodeParts, shown_of}
use Rattle.oxc_protocol.specs.declared.protocol.Severity.{Severity}

-- the meaning of a diagnostic: the parts that a report draws
pub record Parts : Type 0 where
  pub message : List ℕ
  pub code : Option (List ℕ)
  pub severity : Option Severity
  pub help : Option (List ℕ)
  pub note : Option (List ℕ)
  pub url : Option (List ℕ)
  pub source : Option SourceParts
  pub labels : List Label

-- what contracts see of an `OxcDiagnostic`: it always has a severity, and its code is two parts
pub record OxcParts : Type 0 where
  pub message : List ℕ
  pub labels : List Label
  pub help : Option (List ℕ)
  pub note : Option (List ℕ)
  pub severity : Severity
  pub code : CodeParts
  pub url : Option (List ℕ)

-- a diagnostic that has a message and a severity alone
abbrev pub bare_diagnostic : Severity → List ℕ → OxcParts
bare_diagnostic severity message = record { message = message; labels = []; help = None; note = None; severity = severity; code = record { scope = None; number = None }; url = None }

-- the meaning of an `OxcDiagnostic` with this source, or with none
abbrev pub parts_with : OxcParts → Option SourceParts → Parts
parts_with d source = record { message = d.message; code = shown_of d.code; severity = Some d.severity; help = d.help; note = d.note; url = d.url; source = source; labels = d.labels }

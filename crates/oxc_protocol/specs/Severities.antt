use Rattle.std.specs.Prelude.{Bool, ℕ, nat_eq}
use Rattle.oxc_protocol.specs.Parts.{OxcParts}
use Rattle.oxc_protocol.specs.declared.protocol.Severity.{Severity}
use Rattle.oxc_protocol.specs.declared.protocol.Severity.TheVariants.{Advice, Warning, Error}

-- severities in rising order
abbrev pub rank : Severity → ℕ
rank Advice = 0
rank Warning = 1
rank Error = 2

-- severities are equal by rank
abbrev pub severity_eq : Severity → Severity → Bool
severity_eq a b = nat_eq (rank a) (rank b)

-- whether a diagnostic has this severity
abbrev pub has_severity : Severity → OxcParts → Bool
has_severity severity d = severity_eq d.severity severity

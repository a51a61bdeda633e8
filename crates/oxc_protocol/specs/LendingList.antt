use Rattle.std.specs.Prelude.{List, take, drop, length, ◌++◌}
use Rattle.std.specs.Borrow.{Lends, MutBor, Fml, Array}
use Rattle.oxc_protocol.specs.Parts.{OxcParts}
use Rattle.oxc_protocol.specs.contracts.diagnostic.OxcDiagnostic as diagnostic
use Rattle.oxc_protocol.specs.contracts.diagnostics.Diagnostics.{the_row}

-- the list s ends as what is left in the slice r, which keeps its length
abbrev pub LendsItems : MutBor (List OxcParts) → MutBor (List OxcParts) → Fml
LendsItems s r = Lends the_row (Array diagnostic.the_row 0) s r (λ w. take (length s.now) (w ++ drop (length w) s.now))

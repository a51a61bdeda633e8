use Rattle.std.specs.Borrow.{Lends, MutBor, Fml}
use Rattle.oxc_protocol.specs.Parts.{OxcParts}
use Rattle.oxc_protocol.specs.Views.{inner_parts}
use Rattle.oxc_protocol.specs.declared.diagnostic.OxcDiagnosticInner.{OxcDiagnosticInner}
use Rattle.oxc_protocol.specs.contracts.diagnostic.OxcDiagnostic.{the_row}
use Rattle.oxc_protocol.specs.contracts.diagnostic.OxcDiagnosticInner as inner

-- the diagnostic s ends with the parts of what is left behind r
abbrev pub LendsInner : MutBor OxcParts → MutBor OxcDiagnosticInner → Fml
LendsInner s r = Lends the_row inner.the_row s r inner_parts

-- What contracts see of a `DiagnosticResult`: how many warnings and errors there were, and whether the warnings were too many.
use Rattle.std.specs.Prelude.{ℕ, Bool}

pub record Counts : Type 0 where
  pub warnings : ℕ
  pub errors : ℕ
  pub exceeded : Bool

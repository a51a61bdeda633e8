-- What a reporter of problem lines gives.
use Rattle.std.specs.Prelude.{◌≡◌, ℕ, Bool, true, false, List, [], ◌++◌, Option, Some, codes, decimal}
use Rattle.oxc_protocol.specs.Counts.{Counts}
use Rattle.oxc_protocol.specs.Info.{info_of}
use Rattle.oxc_protocol.specs.Parts.{Parts}
use Rattle.problem_lines.specs.Line.{IsInRange, problem_line}

-- the text of a diagnostic is the line of what an editor is told of it
pub record IsReported (p : Parts) (text : Option (List ℕ)) : Type 0 where
  pub line : text ≡ Some (problem_line (info_of p))
  pub in_range : IsInRange (info_of p)

abbrev pub excess_text : Bool → List ℕ
excess_text true = codes ", too many warnings"
excess_text false = []

-- how many errors and warnings there were, in one line
unfoldable pub counts_line : Counts → List ℕ
counts_line counts = decimal counts.errors ++ codes " errors, " ++ decimal counts.warnings ++ codes " warnings" ++ excess_text counts.exceeded ++ codes "\n"

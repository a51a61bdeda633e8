-- What a line is read as.
use Rattle.std.specs.Prelude.{◌≡◌, List, ℕ, Option, Some, IfSome}
use Rattle.oxc_protocol.specs.Info.{InfoParts}
use Rattle.problem_lines.specs.Line.{problem_line, IsInRange}

-- the answer is the problem whose line it is, and none where there is none
pub record IsRead (line : List ℕ) (answer : Option InfoParts) : Type 0 where
  pub back : (problem : InfoParts) → IsInRange problem → problem_line problem ≡ line → answer ≡ Some problem
  pub only : IfSome answer (λ problem. IsInRange problem × (problem_line problem ≡ line))

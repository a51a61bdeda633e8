-- The lines of a text.
use Rattle.std.specs.Prelude.{◌≡◌, ⊤, ℕ, ◌<◌, ◌==◌, if◌then◌else◌, List, [], ◌∷◌, length, slice_index_or, map, ◌++◌, Result, Ok, Err, Vec}
use Rattle.std.specs.List.{onto_first, All}
use Rattle.problem_lines.specs.declared.read.ProblemError.{ProblemError}
use Rattle.problem_lines.specs.declared.read.ProblemError.TheVariants.{NotALine, OutOfMemory}
use Rattle.std.specs.declared.alloc.Global.{Global}
use Rattle.oxc_protocol.specs.declared.reporter.Info.{Info}
use Rattle.oxc_protocol.specs.Info.{InfoParts, info_parts}
use Rattle.problem_lines.specs.Line.{problem_line, IsInRange}

-- a text, cut after each LF
unfoldable pub lines_of : List ℕ → List (List ℕ)
lines_of [] = []
lines_of (x ∷ xs) = if x == 0x0A then (x ∷ []) ∷ lines_of xs else onto_first x (lines_of xs)

-- the line of some problem
pub record IsProblemLine (line : List ℕ) : Type 0 where
  pub problem : InfoParts
  pub in_range : IsInRange problem
  pub same : problem_line problem ≡ line

-- of these lines, the one with this number is the first that is none
pub record IsFirstOther (lines : List (List ℕ)) (n : ℕ) : Type 0 where
  pub within : n < length lines
  pub before : (k : ℕ) → k < n → IsProblemLine (slice_index_or lines k [])
  pub here : IsProblemLine (slice_index_or lines n []) → ⊥

-- what a refusal says
abbrev pub IsCause : List (List ℕ) → ProblemError → Type 0
IsCause lines (NotALine n) = IsFirstOther lines n
IsCause lines OutOfMemory = ⊤

-- the problems whose lines come first in a text, and what is left of it
pub record AreRead (problems : List InfoParts) (rest text : List ℕ) : Type 0 where
  pub lines : map problem_line problems ++ lines_of rest ≡ lines_of text
  pub in_range : All IsInRange problems

-- a text is exactly the lines of these problems
pub record AreProblemsOf (problems : List InfoParts) (text : List ℕ) : Type 0 where
  pub lines : map problem_line problems ≡ lines_of text
  pub in_range : All IsInRange problems

-- the answer is these problems, or want of memory
abbrev pub GivesBack : Result (Vec Info Global) ProblemError → List InfoParts → Type 0
GivesBack (Ok infos) problems = map info_parts infos.items ≡ problems
GivesBack (Err e) problems = e ≡ OutOfMemory

-- a line is that of one problem
abbrev pub IsOneProblem : InfoParts → InfoParts → Type 0
IsOneProblem p q = IsInRange p → IsInRange q → problem_line p ≡ problem_line q → p ≡ q

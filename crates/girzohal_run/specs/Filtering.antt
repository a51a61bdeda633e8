-- What is written of the reports that filters leave.
use Rattle.std.specs.Prelude.{◌≡◌, ℕ, ◌==◌, ◌||◌, nat_eq, Bool, List, [], ◌∷◌, ◌++◌, length, Option, Some, None, if◌then◌else◌}
use Rattle.std.specs.List.{ends_with}
use Rattle.found_reports.specs.Kept.{FoundParts}
use Rattle.finding_summaries.specs.Counted.{one_reaches}
use Rattle.report_filters.specs.Filtered.{IsLeft}
use Rattle.report_filters.specs.declared.rules.Rules.{Rules}
use Rattle.girzohal_options.specs.declared.Asked.{Asked}
use Rattle.girzohal_run.specs.Texts.{IsText}

-- what filters leave, and the line about it; without filters all reports, and no line
abbrev pub IsLeftBy : Option Rules → Bool → FoundParts → FoundParts → List ℕ → Type 0
IsLeftBy None notes parts left line = (left ≡ parts) × (line ≡ [])
IsLeftBy (Some rules) notes parts left line = IsLeft rules notes parts left line

-- what is written of reports and their files, after filters; whether one that is left is at or above the level; and the line about them
pub record IsWritten (asked : Asked) (notes : Bool) (parts : FoundParts) (text line : List ℕ) (reached : Bool) : Type 0 where
  pub left : FoundParts
  pub filtered : IsLeftBy asked.rules notes parts left line
  pub text_is : IsText asked left text
  pub level : reached ≡ one_reaches asked.fail_on left.found

-- a text that is empty or ends in an LF, else with an LF: the next line begins after it
abbrev pub broken : List ℕ → List ℕ
broken text = if length text == 0 || ends_with nat_eq text (0x0A ∷ []) then text else text ++ 0x0A ∷ []

-- a text, and after it a line of its own, if there is one
abbrev pub with_line : List ℕ → List ℕ → List ℕ
with_line text [] = text
with_line text (byte ∷ line) = broken text ++ byte ∷ line

-- What is told of values beside their findings, and why they aren't read.
use Rattle.std.specs.Prelude.{◌≡◌, ℕ, List, [], ◌++◌, codes, decimal, Option, Some, None}
use Rattle.std.specs.List.{flat_map}
use Rattle.harmless.specs.declared.Kind.TheVariants.{Name, Prose}
use Rattle.harmless.specs.Harmless.{harmless}
use Rattle.json_spots.specs.declared.step.Wanted.TheVariants as wanted
use Rattle.json_spots.specs.Spot.{Spot}
use Rattle.json_forms.specs.Finding.{Beside, Finding, said, wrong_at}
use Rattle.json_forms.specs.Read.{Aside, Reading, Refusal, null_there, said as said_aside}
use Rattle.json_forms.specs.Refusal.{refusal_text}
use Rattle.json_forms.specs.Said.{Fault}

-- the beginning of a line, which names the row of a value where there are several
abbrev pub head_text : Option ℕ → List ℕ
head_text None = codes "girzohal: "
head_text (Some row) = codes "girzohal: line " ++ (decimal row ++ codes ": ")

-- names in a path are the input's own
abbrev pub refused_text : Spot → Fault → List ℕ
refused_text spot fault = harmless Name (refusal_text spot fault)

abbrev pub skipped_line : Option ℕ → Spot → Fault → List ℕ
skipped_line row spot fault = head_text row ++ refused_text spot fault ++ codes "; skipped\n"

-- what a tool says of its run, or that an element is null
abbrev pub aside_line : Option ℕ → Aside → List ℕ
aside_line row (said_aside text) = harmless Prose text ++ codes "\n"
aside_line row (null_there spot) = skipped_line row spot (record { path = None; wanted = wanted.Value })

-- what is wrong beside a finding
abbrev pub beside_line : Option ℕ → Beside → List ℕ
beside_line row (said it) = []
beside_line row (wrong_at spot fault) = skipped_line row spot fault

abbrev pub finding_lines : Option ℕ → Finding → List ℕ
finding_lines row it = flat_map (beside_line row) it.sides

abbrev pub asides_text : Option ℕ → List Aside → List ℕ
asides_text row asides = flat_map (aside_line row) asides

unfoldable pub told_of : Option ℕ → Reading → List ℕ
told_of row reading = asides_text row reading.aside ++ flat_map (finding_lines row) reading.found

-- ---- refusals

-- a refusal, and the row of its value where there are several
pub record Located : Type 0 where
  pub row : Option ℕ
  pub refusal : Refusal

-- the line of a refusal; what it adds is a hint, no clause says which
pub record IsRefusalLine (it : Located) (line : List ℕ) : Type 0 where
  pub hint : List ℕ
  pub is : line ≡ head_text it.row ++ refused_text it.refusal.spot it.refusal.fault ++ hint ++ codes "\n"

-- What inputs have, and what is written of it.
use Rattle.std.specs.Prelude.{◌≡◌, ℕ, Bool, List, [], map}
use Rattle.std.specs.List.{flat_map, fold}
use Rattle.found_reports.specs.Files.{files_of}
use Rattle.found_reports.specs.Found.{Found}
use Rattle.found_reports.specs.Kept.{FoundParts}
use Rattle.girzohal_options.specs.declared.Asked.{Asked}
use Rattle.girzohal_run.specs.Filtering.{IsWritten, with_line}
use Rattle.girzohal_run.specs.declared.finds.Finds.{Finds}

-- the findings of an input, and the rest
pub record FindsParts : Type 0 where
  pub found : List Found
  pub aside : List ℕ

abbrev pub finds_parts : Finds → FindsParts
finds_parts finds = record { found = finds.reports.found; aside = finds.aside.items }

-- the findings of all inputs, one input after another
abbrev pub found_in : List FindsParts → List Found
found_in its = flat_map (λ it. it.found) its

-- the rest of all inputs, each on lines of its own
abbrev pub aside_in : List FindsParts → List ℕ
aside_in its = fold with_line [] (map (λ it. it.aside) its)

-- what is written of all findings together, after filters, on the files that they are on; and the rest of the inputs, with the line about filters
pub record WritesFound (asked : Asked) (notes : Bool) (its : List FindsParts) (text aside : List ℕ) (reached : Bool) : Type 0 where
  pub parts : FoundParts
  pub found : parts.found ≡ found_in its
  pub files : parts.files ≡ files_of parts.found
  pub line : List ℕ
  pub written : IsWritten asked notes parts text line reached
  pub aside_is : aside ≡ with_line (aside_in its) line

-- What a report that was found means.
use Rattle.std.specs.Prelude.{◌≡◌, ℕ, ◌≤◌, List, [], length, slice_index_or, Option, All}
use Rattle.std.specs.Str.{IsCharBoundary}
use Rattle.oxc_span.specs.Label.{Label, label_end}
use Rattle.oxc_protocol.specs.Parts.{OxcParts}
use Rattle.found_reports.specs.Held.{Held, holds, lacks}
use Rattle.found_reports.specs.Fixes.{ChangeParts}
use Rattle.found_reports.specs.declared.places.GivenPlace.{GivenPlace}
use Rattle.found_reports.specs.declared.sources.Lack.TheVariants.{Missing}

-- a file: its name, and its text or why it has none
pub record NamedHeld : Type 0 where
  pub name : List ℕ
  pub held : Held

-- a report with its file's name and text, where the tool says that it stands, and its exact edits
pub record Found : Type 0 where
  pub name : List ℕ
  pub held : Held
  pub diagnostic : OxcParts
  pub place : Option GivenPlace
  pub fixes : List (List ChangeParts)

-- the file with a number; a nameless one that is missing past their end, which no report's number reaches
abbrev pub file_at : List NamedHeld → ℕ → NamedHeld
file_at files number = slice_index_or files number (record { name = []; held = lacks Missing })

-- a report on a file with its exact edits
abbrev pub found_fixed : NamedHeld → OxcParts → Option GivenPlace → List (List ChangeParts) → Found
found_fixed file diagnostic place fixes = record { name = file.name; held = file.held; diagnostic = diagnostic; place = place; fixes = fixes }

-- a report on a file without edits
abbrev pub found_on : NamedHeld → OxcParts → Option GivenPlace → Found
found_on file diagnostic place = found_fixed file diagnostic place []

-- a label ends within a text, and starts and ends between characters
pub record StandsIn (text : List ℕ) (label : Label) : Type 0 where
  pub within : label_end label ≤ length text
  pub start : IsCharBoundary text label.offset
  pub end : IsCharBoundary text (label_end label)

-- all labels do; without a text there is none
abbrev pub LabelsStand : Held → List Label → Type 0
LabelsStand (holds text) labels = All (StandsIn text) labels
LabelsStand (lacks why) labels = labels ≡ []

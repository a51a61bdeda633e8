-- Which edits are accepted, and why one is refused.
use Rattle.std.specs.Prelude.{◌≡◌, ℕ, ◌+◌, ◌<◌, ◌≤◌, ◌⊎◌, ⊤, List, [], ◌∷◌, length}
use Rattle.std.specs.Str.{IsCharBoundary}
use Rattle.source_location.specs.Index.{Fits}
use Rattle.source_edit.specs.Edits.{Change, edited}
use Rattle.source_edit.specs.declared.edit.EditError.{EditError}
use Rattle.source_edit.specs.declared.edit.EditError.TheVariants.{Outside, NotBoundary, TooLong, OutOfMemory}

-- the range lies in the text and parts no character, and the new text fits
pub record IsAcceptable (text : List ℕ) (change : Change) : Type 0 where
  pub within : change.end ≤ length text
  pub start : IsCharBoundary text change.start
  pub end : IsCharBoundary text change.end
  pub fits : Fits (edited text change)

-- the end of a range that is no boundary: its start, or else its end
abbrev pub IsPartedEnd : List ℕ → Change → ℕ → Type 0
IsPartedEnd text change at =
    (¬ IsCharBoundary text change.start × (at ≡ change.start))
    ⊎ (IsCharBoundary text change.start × ¬ IsCharBoundary text change.end × (at ≡ change.end))

-- the cause of a refusal of an edit that stands at a place of its list; want of memory is free
abbrev pub IsCause : ℕ → List ℕ → Change → EditError → Type 0
IsCause place text change (Outside edit end len) = (edit ≡ place) × (end ≡ change.end) × (len ≡ length text) × (length text < change.end)
IsCause place text change (NotBoundary edit at) = (edit ≡ place) × (change.end ≤ length text) × IsPartedEnd text change at
IsCause place text change (TooLong edit len) =
    (edit ≡ place) × IsCharBoundary text change.start × IsCharBoundary text change.end × (len ≡ length (edited text change)) × ¬ Fits (edited text change)
IsCause place text change (OutOfMemory edit) = (edit ≡ place) × IsAcceptable text change

-- each of the edits is accepted, on the text that the one before left
abbrev pub AreAcceptable : List ℕ → List Change → Type 0
AreAcceptable text [] = ⊤
AreAcceptable text (change ∷ changes) = IsAcceptable text change × AreAcceptable (edited text change) changes

-- the cause of a refusal of one of the edits, those before it being accepted; the first stands at a place
abbrev pub IsCauseAmong : ℕ → List ℕ → List Change → EditError → Type 0
IsCauseAmong place text [] error = ⊥
IsCauseAmong place text (change ∷ changes) error =
    IsCause place text change error ⊎ (IsAcceptable text change × IsCauseAmong (place + 1) (edited text change) changes error)

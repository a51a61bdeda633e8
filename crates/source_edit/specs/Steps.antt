-- What is kept of an edit, and how it leads back.
use Rattle.std.specs.Prelude.{◌≡◌, ℕ, ◌+◌, ◌≤◌, ⊤, List, [], ◌∷◌, ◌++◌, length, reverse, string_bytes, string_capacity, vec_capacity}
use Rattle.source_location.specs.Breaks.{breaks_of}
use Rattle.source_location.specs.Rows.{line_starts}
use Rattle.source_location.specs.Index.{Fits}
use Rattle.source_edit.specs.Edits.{Change, Editing, edited}
use Rattle.source_edit.specs.Causes.{IsAcceptable}
use Rattle.source_edit.specs.Starts.{starts_between}
use Rattle.source_edit.specs.declared.edit_text.Step.{Step}
use Rattle.source_edit.specs.declared.edit_text.EditText.TheInside.{Inside}

-- the edit that undoes a step
abbrev pub backwards : Step → Change
backwards step = record { start = step.written.0; end = step.written.1; insert = string_bytes step.removed }

-- a step can be undone in a text, and in the room that the text and its row starts have
pub record LeadsBack (text_room starts_room : ℕ) (text : List ℕ) (step : Step) : Type 0 where
  pub acceptable : IsAcceptable text (backwards step)
  pub starts : step.starts.items ≡ starts_between (edited text (backwards step)) step.written.0 (step.written.0 + length (string_bytes step.removed))
  pub text_fits : length text + length (string_bytes step.removed) ≤ text_room
  pub starts_fit : length (line_starts (breaks_of text)) + length step.starts.items ≤ starts_room

-- so can all steps, the latest first
abbrev pub LeadBack : ℕ → ℕ → List ℕ → List Step → Type 0
LeadBack text_room starts_room text [] = ⊤
LeadBack text_room starts_room text (step ∷ earlier) =
    LeadsBack text_room starts_room text step × LeadBack text_room starts_room (edited text (backwards step)) earlier

-- the texts to which they lead, the latest last
abbrev pub history_of : List ℕ → List Step → List (List ℕ)
history_of text [] = []
history_of text (step ∷ earlier) = history_of (edited text (backwards step)) earlier ++ edited text (backwards step) ∷ []

abbrev pub editing_of : Inside → Editing
editing_of inside = record { text = string_bytes inside.text; history = history_of (string_bytes inside.text) (reverse inside.steps.items) }

-- the text fits, its row starts are known, and each step leads back
pub record IsKept (inside : Inside) : Type 0 where
  pub fits : Fits (string_bytes inside.text)
  pub starts : inside.line_starts.items ≡ line_starts (breaks_of (string_bytes inside.text))
  pub steps : LeadBack (string_capacity inside.text) (vec_capacity inside.line_starts) (string_bytes inside.text) (reverse inside.steps.items)

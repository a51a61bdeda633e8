-- What an edit needs before it is made.
use Rattle.std.specs.Prelude.{◌≡◌, ℕ, ◌+◌, ◌≤◌, List, length, slice_range, string_bytes}
use Rattle.source_location.specs.Breaks.{breaks_of}
use Rattle.source_location.specs.Rows.{line_starts}
use Rattle.source_edit.specs.Edits.{Change, edited}
use Rattle.source_edit.specs.Starts.{starts_between}
use Rattle.source_edit.specs.declared.edit_text.Step.{Step}

-- a step has what it takes to undo an edit
pub record KeepsWhatGoes (text : List ℕ) (change : Change) (step : Step) : Type 0 where
  pub ordered : change.start ≤ change.end
  pub written : step.written ≡ (change.start, change.start + length change.insert)
  pub removed : string_bytes step.removed ≡ slice_range text change.start change.end
  pub gone : step.starts.items ≡ starts_between text change.start change.end

-- that, the row starts near what is inserted, and room for them and for the text
pub record IsReady (text_room starts_room : ℕ) (text : List ℕ) (change : Change) (starts : List ℕ) (step : Step) : Type 0 where
  pub near : starts ≡ starts_between (edited text change) change.start (change.start + length change.insert)
  pub keeps : KeepsWhatGoes text change step
  pub text_fits : length text + length change.insert ≤ text_room
  pub starts_fit : length (line_starts (breaks_of text)) + length starts ≤ starts_room

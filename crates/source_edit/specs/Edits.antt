-- What an edit makes of a text, and of a text with its history.
use Rattle.std.specs.Prelude.{ℕ, List, [], ◌∷◌, ◌++◌, string_bytes}
use Rattle.std.specs.List.{replace_range}
use Rattle.source_edit.specs.declared.edit.Edit.{Edit}

-- an edit as contracts see it: the bytes from start to end give way to the inserted ones
pub record Change : Type 0 where
  pub start : ℕ
  pub end : ℕ
  pub insert : List ℕ

abbrev pub change_of : Edit → Change
change_of edit = record { start = edit.range.0; end = edit.range.1; insert = string_bytes edit.insert }

-- the bytes before the range, the inserted ones, and the bytes behind the range
abbrev pub edited : List ℕ → Change → List ℕ
edited text change = replace_range text change.start change.end change.insert

-- a text, and the texts to which undoing goes back, the latest last
pub record Editing : Type 0 where
  pub text : List ℕ
  pub history : List (List ℕ)

-- after an accepted edit
abbrev pub after_edit : Editing → Change → Editing
after_edit before change = record { text = edited before.text change; history = before.history ++ before.text ∷ [] }

-- after accepted edits, each on the text that the one before left
abbrev pub after_edits : Editing → List Change → Editing
after_edits before [] = before
after_edits before (change ∷ changes) = after_edits (after_edit before change) changes

use Rattle.std.proofs.Common.{◌≡◌, ◌-◌, List, length, take}
use Rattle.source_edit.specs.Edits.{Change, Editing, after_edits}
use Rattle.source_edit.proofs.edit_text.EditText.step_back_by.Given as goal

-- the edits that are left are the first of the list
abbrev pub invariant-loop : goal.invariant-loop
invariant-loop l =
    (before : Editing) (changes : List Change) → length changes ≡ l.count → l.initial.self ≡ after_edits before changes → l.self ≡ after_edits before (take (l.count - l.counter) changes)

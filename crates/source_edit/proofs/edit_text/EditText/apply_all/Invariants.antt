use Rattle.std.proofs.Common.{map, drop}
use Rattle.source_edit.specs.Edits.{change_of}
use Rattle.source_edit.proofs.AllLemmas.{HasApplied}
use Rattle.source_edit.proofs.edit_text.EditText.apply_all.Given as goal

abbrev pub invariant-loop-place : goal.invariant-loop-place
invariant-loop-place l = HasApplied l.initial.self l.self (map change_of l.edit-items) (map change_of (drop l.place l.edit-items)) l.place

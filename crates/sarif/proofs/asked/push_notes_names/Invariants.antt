-- The names of the notifications so far.
use Rattle.std.proofs.Common.{◌≡◌, ◌++◌, flat_map, map, string_bytes, take}
use Rattle.sarif_log.specs.Log.{notification_view, names_view}
use Rattle.sarif.specs.Asked.{note_names}
use Rattle.sarif.proofs.asked.push_notes_names.Given as goal

abbrev pub invariant-loop-note : goal.invariant-loop-note
invariant-loop-note l = map string_bytes l.names.items ≡ map string_bytes l.initial.names.items ++ flat_map (note_names (names_view l.those)) (map notification_view (take l.note-index l.notes))

-- Those so far, behind those before.
use Rattle.std.proofs.Common.{◌≡◌, ◌++◌, map, take}
use Rattle.sarif_log.specs.Log.{notification_view}
use Rattle.sarif.specs.Findings.{finding_view, noted_by}
use Rattle.sarif.specs.Seen.{strings_view}
use Rattle.sarif.proofs.findings.push_notes.Given as goal

abbrev pub invariant-loop-note : goal.invariant-loop-note
invariant-loop-note l = map finding_view l.found.items ≡ map finding_view l.initial.found.items ++ map (noted_by (strings_view l.strings)) (map notification_view (take l.note-index l.notes))

-- The lines before are written.
use Rattle.std.proofs.Common.{◌≡◌, ◌++◌, length, string_bytes}
use Rattle.std.specs.List.{flat_map}
use Rattle.report_texts.specs.LongRows.{label_line}
use Rattle.report_texts.proofs.long_rows.long_note.Given as goal

abbrev pub invariant-loop-rest : goal.invariant-loop-rest
invariant-loop-rest l =
    string_bytes l.text ++ flat_map (label_line l.name l.source) l.rest ≡ string_bytes l.initial.text ++ flat_map (label_line l.name l.source) l.labels

abbrev pub decreases-loop-rest : goal.decreases-loop-rest
decreases-loop-rest l = length l.rest

use Rattle.std.proofs.Common.{◌≡◌, ◌++◌, None, map, length}
use Rattle.oxc_span.specs.Views.{text_bytes}
use Rattle.line_reports.specs.Asides.{elsewhere_from}
use Rattle.line_reports.specs.Pieces.{line_chars}
use Rattle.line_reports.proofs.asides.elsewhere.Given as goal

abbrev pub invariant-loop-rest : goal.invariant-loop-rest
invariant-loop-rest l = let lines = map line_chars (map (λ line. line.now) l.body) in
    map text_bytes l.all.items ++ elsewhere_from l.own lines (text_bytes l.there) l.rest ≡ elsewhere_from l.own lines None l.parts

abbrev pub decreases-loop-rest : goal.decreases-loop-rest
decreases-loop-rest l = length l.rest

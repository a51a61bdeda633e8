use Rattle.std.proofs.Common.{◌≡◌, ◌++◌, true, map, length}
use Rattle.line_reports.specs.Fixes.{suggested_from}
use Rattle.line_reports.specs.Pieces.{line_chars}
use Rattle.line_reports.proofs.fixes.flags_of.Given as goal

abbrev pub invariant-loop-rest : goal.invariant-loop-rest
invariant-loop-rest l = let lines = map line_chars (map (λ line. line.now) l.body) in
    l.flags.items ++ suggested_from l.own lines l.here l.rest ≡ suggested_from l.own lines true l.parts

abbrev pub decreases-loop-rest : goal.decreases-loop-rest
decreases-loop-rest l = length l.rest

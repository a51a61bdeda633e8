use Rattle.std.proofs.Common.{◌≡◌, ◌++◌, map, length}
use Rattle.excerpts.specs.Body.{block_of}
use Rattle.found_reports.specs.Fixes.{fix_view}
use Rattle.line_reports.specs.Fixes.{fixes_from}
use Rattle.line_reports.proofs.fixes.fixes_at.Given as goal

abbrev pub invariant-loop-rest : goal.invariant-loop-rest
invariant-loop-rest l = let lines = map (λ line. line.now) l.lines in
    map fix_view l.fixes.items ++ fixes_from l.source.text.now lines l.flags_left (map block_of l.rest) ≡ fixes_from l.source.text.now lines l.flags (map block_of l.blocks)

abbrev pub decreases-loop-rest : goal.decreases-loop-rest
decreases-loop-rest l = length l.rest

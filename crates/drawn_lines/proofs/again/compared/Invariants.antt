use Rattle.std.proofs.Common.{◌≡◌, ◌++◌, map, length}
use Rattle.build_dirs.specs.Again.{seen_in}
use Rattle.tool_lines.specs.Lines.{piece_parts}
use Rattle.drawn_lines.specs.Again.{flags_from, no_run, run_parts, seen_from, signs}
use Rattle.drawn_lines.proofs.again.compared.Given as goal

-- the flags so far and those of the pieces that are left
abbrev pub invariant-loop-rest : goal.invariant-loop-rest
invariant-loop-rest l = record {
  flags :
      l.flags.items ++ flags_from (seen_in l.seen) (run_parts l.run) (signs (map (λ line. line.now) l.left) (map piece_parts l.rest))
      ≡ flags_from (seen_in l.initial.seen) no_run (signs (map (λ line. line.now) l.lines) (map piece_parts l.pieces));
  seen :
      seen_from (seen_in l.seen) (run_parts l.run) (signs (map (λ line. line.now) l.left) (map piece_parts l.rest))
      ≡ seen_from (seen_in l.initial.seen) no_run (signs (map (λ line. line.now) l.lines) (map piece_parts l.pieces));
}

abbrev pub decreases-loop-rest : goal.decreases-loop-rest
decreases-loop-rest l = length l.rest

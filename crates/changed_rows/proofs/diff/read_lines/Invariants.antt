use Rattle.std.proofs.Common.{◌≡◌, ◌+◌, map, length}
use Rattle.changed_rows.specs.Reading.{nothing, read_from, seen_of}
use Rattle.changed_rows.proofs.diff.read_lines.Given as goal

-- what is left goes on with what was read
abbrev pub invariant-loop-rest : goal.invariant-loop-rest
invariant-loop-rest l = record {
  read : read_from l.strip l.row (seen_of l.reader) 0 (map (λ line. line.now) l.rest) ≡ read_from l.strip 1 nothing 0 (map (λ line. line.now) l.lines);
  row : l.row + length l.rest ≡ length l.lines + 1;
}

abbrev pub decreases-loop-rest : goal.decreases-loop-rest
decreases-loop-rest l = length l.rest

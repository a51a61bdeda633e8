use Rattle.std.proofs.Common.{◌≡◌, ◌+◌, map, length}
use Rattle.changed_rows.specs.Rows.{hunk_length as length_of}
use Rattle.changed_rows.proofs.reader.hunk_length.Given as goal

-- the lines that are left go on with the hunk
abbrev pub invariant-loop-rest : goal.invariant-loop-rest
invariant-loop-rest l = record {
  value : length_of l.count l.old l.new (map (λ line. line.now) l.rest) ≡ length_of 0 l.fn.old l.fn.new (map (λ line. line.now) l.lines);
  within : l.count + length l.rest ≡ length l.lines;
}

abbrev pub decreases-loop-rest : goal.decreases-loop-rest
decreases-loop-rest l = length l.rest

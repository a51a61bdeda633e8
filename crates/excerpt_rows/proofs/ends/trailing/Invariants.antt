use Rattle.std.proofs.Common.{◌≡◌, ◌+◌, ◌≤◌, take, length}
use Rattle.std.specs.List.{suffix_len}
use Rattle.excerpt_rows.specs.Ends.{is_in}
use Rattle.excerpt_rows.proofs.ends.trailing.Given as goal

abbrev pub invariant-loop-end : goal.invariant-loop-end
invariant-loop-end l = record {
  within : l.end ≤ length l.text;
  value : l.end + suffix_len (is_in l.edge) l.text ≡ length l.text + suffix_len (is_in l.edge) (take l.end l.text);
}

abbrev pub decreases-loop-end : goal.decreases-loop-end
decreases-loop-end l = l.end

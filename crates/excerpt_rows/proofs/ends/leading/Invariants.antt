use Rattle.std.proofs.Common.{◌≡◌, ◌+◌, drop}
use Rattle.std.specs.List.{prefix_len}
use Rattle.excerpt_rows.specs.Ends.{is_in}
use Rattle.excerpt_rows.proofs.ends.leading.Given as goal

abbrev pub invariant-loop-k : goal.invariant-loop-k
invariant-loop-k l = l.k + prefix_len (is_in l.edge) (drop l.k l.text) ≡ prefix_len (is_in l.edge) l.text

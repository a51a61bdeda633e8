use Rattle.std.proofs.Common.{◌≡◌, ◌==◌, drop}
use Rattle.std.specs.List.{list_any}
use Rattle.excerpt_lines.proofs.cells.is_among.Given as goal

abbrev pub invariant-loop-one : goal.invariant-loop-one
invariant-loop-one l = list_any (λ one. one == l.cell) (drop l.one-index l.cells) ≡ list_any (λ one. one == l.cell) l.cells

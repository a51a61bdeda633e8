use Rattle.std.proofs.Common.{◌≡◌, ◌++◌, drop, map, filter}
use Rattle.excerpt_blocks.specs.declared.below.Hang.{Hang}
use Rattle.excerpt_blocks.specs.Below.{hung_cells, is_said_at, state_of}
use Rattle.excerpt_blocks.proofs.below.Below.hung.Given as goal
use Rattle.std.specs.Prelude.{not}

abbrev pub invariant-loop-hang : goal.invariant-loop-hang
invariant-loop-hang l =
    l.cells.items ++ map (λ (hang : Hang). hang.cell) (filter (λ hang. not (is_said_at hang (state_of l.self))) (drop l.hang-index l.hang-items)) ≡ hung_cells (state_of l.self)

use Rattle.std.proofs.Common.{◌≡◌, ◌==◌, drop}
use Rattle.std.specs.List.{find}
use Rattle.excerpt_blocks.specs.declared.below.Hang.{Hang}
use Rattle.excerpt_blocks.proofs.below.Below.taker.Given as goal

abbrev pub invariant-loop-hang : goal.invariant-loop-hang
invariant-loop-hang l =
    find (λ (hang : Hang). hang.cell == l.cell) (drop l.hang-index l.hang-items) ≡ find (λ (hang : Hang). hang.cell == l.cell) (drop l.self.hangs_before l.self.hangs.items)

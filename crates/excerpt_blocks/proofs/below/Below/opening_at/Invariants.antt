use Rattle.std.proofs.Common.{◌≡◌, ◌==◌, drop}
use Rattle.std.specs.List.{position_from}
use Rattle.excerpt_blocks.specs.declared.below.Opening.{Opening}
use Rattle.excerpt_blocks.proofs.below.Below.opening_at.Given as goal

abbrev pub invariant-loop-k : goal.invariant-loop-k
invariant-loop-k l =
    position_from (λ (opening : Opening). opening.place == l.place) l.k (drop l.k l.self.opens.items) ≡ position_from (λ (opening : Opening). opening.place == l.place) 0 l.self.opens.items

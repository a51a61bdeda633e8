use Rattle.std.proofs.Common.{ℕ, subst, sym, All}
use Rattle.std.specs.List.Sorted.{IsNonDecreasingBy}
use Rattle.std.specs.Str.{IsCharBoundary}
use Rattle.std.proofs.lemmas.List.Sorted.{All-permutation, IsNonDecreasingBy-from_sort}
use Rattle.oxc_plan.proofs.measuring.measure.Goals as goal

pub columns_before-requires-clause-ascend : goal.columns_before-requires-clause-ascend
columns_before-requires-clause-ascend c =
    subst (IsNonDecreasingBy (λ (at : ℕ). at)) (sym c.deref.ensures.value) (IsNonDecreasingBy-from_sort (λ at. at) c.sort.new.self.items c.in_ok-sort.ensures.sorted)

pub columns_before-requires-clause-boundaries : goal.columns_before-requires-clause-boundaries
columns_before-requires-clause-boundaries c =
    subst (All (IsCharBoundary c.args.text.now)) (sym c.deref.ensures.value)
    (All-permutation (IsCharBoundary c.args.text.now) c.args.places.items c.sort.new.self.items c.in_ok-sort.ensures.permutation c.requires.boundaries)

use Rattle.std.proofs.Common.{◌<◌, ◌∙◌, sym, subst, ◌≡◌, [], ◌∷◌, take, length}
use Rattle.std.specs.List.Sorted.{IsNonDecreasing}
use Rattle.source_location.proofs.IndexLemmas.{index_rises, index_few, index_fits, first_start}
use Rattle.source_location.proofs.line_index.LineIndex.line_starts.Goals as goal

pub returns-clause-first : goal.returns-clause-first
returns-clause-first c = subst (λ starts. take 1 starts ≡ 0 ∷ []) (sym c.as_slice.ensures.value) (first_start _ c.self.invariant)

pub returns-clause-rise : goal.returns-clause-rise
returns-clause-rise c = subst IsNonDecreasing (sym c.as_slice.ensures.value) (index_rises _ c.self.invariant.text c.self.invariant.same)

pub returns-clause-few : goal.returns-clause-few
returns-clause-few c = subst (λ starts. length starts < 4294967296) (sym c.as_slice.ensures.value) (index_few _ c.self.invariant)

pub returns-clause-fits : goal.returns-clause-fits
returns-clause-fits c text e = index_fits _ c.self.invariant text (c.self.view_is ∙ e)

use Rattle.std.proofs.Common.{◌≡◌, length, sym, ◌∙◌}
use Rattle.std.proofs.lemmas.Bool.{eqb-true}
use Rattle.source_location.proofs.LinesLemmas.{lines_of-nil}
use Rattle.source_location.proofs.newlines.UniversalNewlineIteratorIterator.next.Goals as goal

pub returns-then-is_empty-clause-steps : goal.returns-then-is_empty-clause-steps
returns-then-is_empty-clause-steps c =
    let none : length c.self.inside.text.now ≡ 0 = eqb-true _ _ (sym c.is_empty.ensures ∙ c.if-is_empty.true) in
    let nothing = sym c.self.view_is ∙ lines_of-nil c.self.inside.offset c.self.inside.text.now none in
    (nothing, nothing)

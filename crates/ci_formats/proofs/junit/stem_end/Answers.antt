use Rattle.std.proofs.Common.{◌∙◌, ap, get_or, sym}
use Rattle.ci_formats.specs.Junit.{ends_stem}
use Rattle.ci_formats.proofs.StemLemmas.{behind, stem_goes, stem_stops}
use Rattle.ci_formats.proofs.junit.stem_end.Goals as goal

pub returns-then-ends_stem-clause-stem : goal.returns-then-ends_stem-clause-stem
returns-then-ends_stem-clause-stem c =
    let path = c.args.bytes.now in
    let at = c.loop-index.index in
    let said = c.ends_stem.ensures.ends ∙ ap (ends_stem (get_or path at 0) c.loop-index.named) (behind path at) in
    stem_stops path at c.loop-index.named c.loop-index-test.true (sym said ∙ c.if-ends_stem.true) c.loop-index.invariant

pub loop-index-preserved : goal.loop-index-preserved
loop-index-preserved c =
    let path = c.args.bytes.now in
    let at = c.loop-index.index in
    let said = c.ends_stem.ensures.ends ∙ ap (ends_stem (get_or path at 0) c.loop-index.named) (behind path at) in
    stem_goes path at c.loop-index.named c.loop-index-test.true (sym said ∙ c.if-ends_stem.false) c.loop-index.invariant

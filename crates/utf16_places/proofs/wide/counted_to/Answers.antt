use Rattle.std.proofs.Common.{◌-◌, ◌<◌, arith, ap, sym, subst, length}
use Rattle.utf16_places.specs.Parts.{IsCounted}
use Rattle.utf16_places.specs.declared.wide.WideCharacter.{WideCharacter}
use Rattle.utf16_places.proofs.SearchLemmas.{counted_last, counted_start, few_before, behind_last, behind_start}
use Rattle.utf16_places.proofs.wide.counted_to.Goals as goal

pub returns-then-stands_from-clause-counted : goal.returns-then-stands_from-clause-counted
returns-then-stands_from-clause-counted c text limit are part below =
    let yes = c.stands_from.ensures.yes c.if-stands_from.true in
    let h : c.args.passed - 1 < length c.args.wide.now = omega (arith, yes.0, c.requires.bound) in
    let w = c.index-wide-passed.result in
    subst (λ (last : WideCharacter). IsCounted text c.args.start limit (record { offset = last.end; unit = last.unit })) (sym c.index-wide-passed.is)
    (counted_last text c.args.wide.now (c.args.passed - 1) c.args.start limit w are part h (yes.1 w) (below (c.args.passed - 1) w (omega (arith, yes.0))))

pub returns-then-stands_from-clause-behind : goal.returns-then-stands_from-clause-behind
returns-then-stands_from-clause-behind c k d h =
    omega (
      arith,
      behind_last c.requires.known.text c.args.wide.now c.args.passed c.index-wide-passed.result c.requires.known.known c.requires.bound k d h,
      ap (λ (w : WideCharacter). w.end) c.index-wide-passed.is,
    )

pub returns-then-stands_from-clause-few : goal.returns-then-stands_from-clause-few
returns-then-stands_from-clause-few c =
    let yes = c.stands_from.ensures.yes c.if-stands_from.true in
    omega (
      arith,
      few_before c.requires.known.text c.args.wide.now (c.args.passed - 1) c.index-wide-passed.result c.requires.known.known (omega (arith, yes.0, c.requires.bound)),
      ap (λ (w : WideCharacter). w.end) c.index-wide-passed.is,
      ap (λ (w : WideCharacter). w.unit) c.index-wide-passed.is,
    )

pub returns-else-stands_from-clause-counted : goal.returns-else-stands_from-clause-counted
returns-else-stands_from-clause-counted c text limit are part below = counted_start text c.args.wide.now c.args.start limit are part

pub returns-else-stands_from-clause-behind : goal.returns-else-stands_from-clause-behind
returns-else-stands_from-clause-behind c =
    behind_start c.requires.known.text c.args.wide.now c.args.passed c.args.start c.requires.known.known c.requires.bound (λ d h. c.stands_from.ensures.no c.if-stands_from.false d h)

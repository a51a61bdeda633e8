use Rattle.std.proofs.Common.{refl, ◌-◌, ◌<◌, arith, get_or, length}
use Rattle.std.proofs.lemmas.Str.{IsCharBoundary-start}
use Rattle.utf16_places.proofs.WideLemmas.{past_span}
use Rattle.utf16_places.proofs.SearchLemmas.{outside, span_at, behind_last, le_true, true_le}
use Rattle.utf16_places.proofs.wide.is_outside.Goals as goal

pub returns-then-passed-eq0-clause-yes : goal.returns-then-passed-eq0-clause-yes
returns-then-passed-eq0-clause-yes c text are within said =
    outside text c.args.wide.now c.starting_before-passed.result 0 c.args.offset are within (IsCharBoundary-start text are.utf8) (omega arith)
    (λ k d h. absurd (omega (arith, h, c.if-passed-eq0.true))) c.starting_before-passed.ensures.parted.1

pub returns-then-passed-eq0-clause-no : goal.returns-then-passed-eq0-clause-no
returns-then-passed-eq0-clause-no c text are b = rw c.if-passed-eq0.true refl

pub returns-else-passed-eq0-clause-yes : goal.returns-else-passed-eq0-clause-yes
returns-else-passed-eq0-clause-yes c text are within said =
    let last = c.index-wide-passed.result in
    let h : c.starting_before-passed.result - 1 < length c.args.wide.now = omega (arith, c.if-passed-eq0.false, c.starting_before-passed.ensures.bound) in
    let span = span_at text c.args.wide.now (c.starting_before-passed.result - 1) last are h in
    outside text c.args.wide.now c.starting_before-passed.result (get_or c.args.wide.now (c.starting_before-passed.result - 1) last).end c.args.offset are within span.boundary
    (le_true _ _ c.le.result c.le.ensures said)
    (behind_last text c.args.wide.now c.starting_before-passed.result last are c.starting_before-passed.ensures.bound)
    c.starting_before-passed.ensures.parted.1

pub returns-else-passed-eq0-clause-no : goal.returns-else-passed-eq0-clause-no
returns-else-passed-eq0-clause-no c text are b =
    let last = c.index-wide-passed.result in
    let h : c.starting_before-passed.result - 1 < length c.args.wide.now = omega (arith, c.if-passed-eq0.false, c.starting_before-passed.ensures.bound) in
    true_le _ _ c.le.result c.le.ensures
    (past_span text _ _ c.args.offset (span_at text c.args.wide.now (c.starting_before-passed.result - 1) last are h) b
    (c.starting_before-passed.ensures.parted.0 (c.starting_before-passed.result - 1) last (omega arith) (omega (arith, c.if-passed-eq0.false))))

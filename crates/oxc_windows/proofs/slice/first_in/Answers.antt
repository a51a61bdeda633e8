use Rattle.std.proofs.Common.{arith, ◌∙◌, sym}
use Rattle.oxc_windows.proofs.SliceLemmas.{first_none, first_some, part_long, places_first, places_none}
use Rattle.oxc_windows.proofs.slice.first_in.Goals as goal

pub returns-in_err-further-clause-value : goal.returns-in_err-further-clause-value
returns-in_err-further-clause-value c =
    let long = part_long c.args.bytes.now c.args.from c.args.to c.requires.within in
    c.from_residual.ensures
    ∙ first_none c.args.bytes.now c.args.from c.args.to _ c.requires.ordered c.requires.within (omega (arith, long))
    (places_none _ _ 0 _ (sym c.memchr2_iter-places.ensures.value ∙ c.in_err-further.ensures.steps.0))

pub overflow_add-from : goal.overflow_add-from
overflow_add-from c =
    let long = part_long c.args.bytes.now c.args.from c.args.to c.requires.within in
    let first = places_first _ _ 0 _ c.in_ok-further.further _ (sym c.memchr2_iter-places.ensures.value ∙ c.in_ok-further.ensures.steps) in
    omega (arith, first.high, long, c.ranges.to)

pub returns-clause-value : goal.returns-clause-value
returns-clause-value c =
    let long = part_long c.args.bytes.now c.args.from c.args.to c.requires.within in
    let first = places_first _ _ 0 _ c.in_ok-further.further _ (sym c.memchr2_iter-places.ensures.value ∙ c.in_ok-further.ensures.steps) in
    first_some c.args.bytes.now c.args.from c.args.to c.in_ok-further.further c.break_starting.result
    (omega (arith, first.high, long)) c.requires.within c.requires.outside first.before first.here c.break_starting.ensures

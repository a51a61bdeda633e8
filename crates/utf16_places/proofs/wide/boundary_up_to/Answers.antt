use Rattle.std.proofs.Common.{◌≡◌, ◌+◌, ◌-◌, arith, subst, sym, ap, min, ◌∙◌}
use Rattle.utf16_places.specs.Parts.{IsCounted}
use Rattle.utf16_places.proofs.SearchLemmas.{few_counted, step_of, step_room, step_counted, step_largest}
use Rattle.utf16_places.proofs.wide.boundary_up_to.Goals as goal

pub overflow_sub-unit : goal.overflow_sub-unit
overflow_sub-unit c =
    few_counted c.args.wide.now c.reached_by-passed.result c.args.start c.args.limit c.args.unit c.counted_to-counted.result.unit (λ k d h. c.reached_by-passed.ensures.parted.0 k d (omega arith) h)
    c.counted_to-counted.ensures.last

pub overflow_sub-to_u32 : goal.overflow_sub-to_u32
overflow_sub-to_u32 c =
    let text = c.requires.text in
    let base = c.counted_to-counted.ensures in
    let next = c.next_start-next.ensures in
    let step =
    step_of text c.args.wide.now c.reached_by-passed.result c.args.start c.args.limit c.args.unit c.next_start-next.result c.counted_to-counted.result c.requires.known c.requires.part
    c.reached_by-passed.ensures.parted.0 c.reached_by-passed.ensures.parted.1 (base.counted text c.args.limit c.requires.known c.requires.part) base.behind base.last next.up_to next.ahead next.met in
    omega (
      arith,
      step_room text c.args.wide.now c.reached_by-passed.result c.args.start c.args.limit c.args.unit c.next_start-next.result c.counted_to-counted.result step,
      c.to_u32.ensures.number,
      c.to_u32-2.ensures.number,
    )

-- how far the boundary is from the one before
step_is : (c : goal.After-add) → c.min-step.result ≡ min (c.args.unit - c.counted_to-counted.result.unit) (c.next_start-next.result - c.counted_to-counted.result.offset)
step_is c = rw (← c.to_u32.ensures.number) (rw (← c.to_u32-2.ensures.number) c.min-step.ensures)

place_is : (c : goal.After-add) → c.add.result ≡ c.counted_to-counted.result.offset + c.min-step.result
place_is c = c.add.ensures ∙ ap (λ n. c.counted_to-counted.result.offset + n) c.new.ensures

pub returns-clause-counted : goal.returns-clause-counted
returns-clause-counted c text are part =
    let base = c.counted_to-counted.ensures in
    let next = c.next_start-next.ensures in
    let step =
    step_of text c.args.wide.now c.reached_by-passed.result c.args.start c.args.limit c.args.unit c.next_start-next.result c.counted_to-counted.result are part
    c.reached_by-passed.ensures.parted.0 c.reached_by-passed.ensures.parted.1 (base.counted text c.args.limit are part) base.behind base.last next.up_to next.ahead next.met in
    let room = step_room text c.args.wide.now c.reached_by-passed.result c.args.start c.args.limit c.args.unit c.next_start-next.result c.counted_to-counted.result step in
    subst (λ o. IsCounted text c.args.start c.args.limit (record { offset = o; unit = c.counted_to-counted.result.unit + c.min-step.result })) (sym (place_is c))
    (step_counted text c.args.wide.now c.reached_by-passed.result c.args.start c.args.limit c.args.unit c.next_start-next.result c.min-step.result c.counted_to-counted.result step (omega (arith, step_is c, room)))

pub returns-clause-few : goal.returns-clause-few
returns-clause-few c =
    omega (
      arith,
      step_is c,
      few_counted c.args.wide.now c.reached_by-passed.result c.args.start c.args.limit c.args.unit c.counted_to-counted.result.unit (λ k d h. c.reached_by-passed.ensures.parted.0 k d (omega arith) h)
          c.counted_to-counted.ensures.last,
    )

pub returns-clause-largest : goal.returns-clause-largest
returns-clause-largest c text offset are part b from upto few =
    let base = c.counted_to-counted.ensures in
    let next = c.next_start-next.ensures in
    let step =
    step_of text c.args.wide.now c.reached_by-passed.result c.args.start c.args.limit c.args.unit c.next_start-next.result c.counted_to-counted.result are part
    c.reached_by-passed.ensures.parted.0 c.reached_by-passed.ensures.parted.1 (base.counted text c.args.limit are part) base.behind base.last next.up_to next.ahead next.met in
    omega (
      arith,
      place_is c,
      step_largest text c.args.wide.now c.reached_by-passed.result c.args.start c.args.limit c.args.unit c.next_start-next.result c.min-step.result offset c.counted_to-counted.result step (step_is c) b from upto few,
    )

use Rattle.std.proofs.Common.{arith}
use Rattle.utf16_places.proofs.SearchLemmas.{units_from}
use Rattle.utf16_places.proofs.wide.units_before.Goals as goal

pub returns : goal.returns
returns c text are part =
    let is = c.counted_to-counted.ensures.counted text c.args.offset are part (λ k d h. c.starting_before.ensures.parted.0 k d (omega arith) h) in
    omega (
      arith,
      units_from text c.args.wide.now c.starting_before.result c.args.start c.args.offset c.counted_to-counted.result are part is c.counted_to-counted.ensures.behind c.starting_before.ensures.parted.1,
      c.saturating_sub.ensures,
      c.to_u32.ensures.number,
      c.to_u32-2.ensures.number,
    )

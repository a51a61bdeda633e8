-- The blanks and then the dots are taken off.
use Rattle.std.proofs.Common.{refl, slice_range, arith}
use Rattle.excerpt_rows.proofs.EndLemmas.{IsFound, core_is, no_core, no_ink, not_dotted}
use Rattle.excerpt_rows.proofs.ends.core_of.Goals as goal

pub returns-then-first-last : goal.returns-then-first-last
returns-then-first-last c = no_ink c.args.row.now (omega (arith, c.if-first-last.true, c.leading-first.ensures.value, c.trailing-last.ensures.value))

pub returns-then-start-end : goal.returns-then-start-end
returns-then-start-end c =
    let row = c.args.row.now in
    let found = slice_range row c.leading-first.result c.trailing-last.result in
    let so : IsFound row found c.leading-first.result c.trailing-last.result c.leading-start.result c.trailing-end.result = record {
      first_is = c.leading-first.ensures.value;
      last_is = c.trailing-last.ensures.value;
      found_is = refl;
      start_is = c.leading-start.ensures.value;
      end_is = c.trailing-end.ensures.value;
    } in
    no_core row found _ _ _ _ so c.if-start-end.true

pub returns-then-not-are_dots : goal.returns-then-not-are_dots
returns-then-not-are_dots c =
    let row = c.args.row.now in
    let found = slice_range row c.leading-first.result c.trailing-last.result in
    let so : IsFound row found c.leading-first.result c.trailing-last.result c.leading-start.result c.trailing-end.result = record {
      first_is = c.leading-first.ensures.value;
      last_is = c.trailing-last.ensures.value;
      found_is = refl;
      start_is = c.leading-start.ensures.value;
      end_is = c.trailing-end.ensures.value;
    } in
    not_dotted row found _ _ _ _ so c.if-not-are_dots.ensures

pub returns : goal.returns
returns c =
    let row = c.args.row.now in
    let found = slice_range row c.leading-first.result c.trailing-last.result in
    let so : IsFound row found c.leading-first.result c.trailing-last.result c.leading-start.result c.trailing-end.result = record {
      first_is = c.leading-first.ensures.value;
      last_is = c.trailing-last.ensures.value;
      found_is = refl;
      start_is = c.leading-start.ensures.value;
      end_is = c.trailing-end.ensures.value;
    } in
    core_is row found _ _ _ _ so c.if-not-are_dots.ensures (omega arith) c.trailing-end.ensures.within (omega arith) c.trailing-last.ensures.within

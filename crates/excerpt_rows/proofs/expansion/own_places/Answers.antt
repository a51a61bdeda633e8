-- One character after another.
use Rattle.std.proofs.Common.{◌+◌, ◌≡◌, ◌<◌, ap, length, slice_index, arith}
use Rattle.std.proofs.lemmas.List.{get_or_read}
use Rattle.excerpt_rows.proofs.ExpansionLemmas.{own_begin, own_end, own_more}
use Rattle.excerpt_rows.proofs.expansion.own_places.Goals as goal

pub loop-c-init : goal.loop-c-init
loop-c-init c = record {
  places = own_begin c.args.row.now _ c.in_ok-places.ensures.items;
  small = omega arith;
}

pub loop-c-preserved : goal.loop-c-preserved
loop-c-preserved c =
    let row = c.args.row.now in
    let at = c.loop-c.c-index in
    let within : at < length row = omega arith in
    let here : c.c-item.result ≡ slice_index row at = get_or_read row at c.c-item.result within c.c-item.is 0 in
    record {
      places = own_more row at c.c-item.result c.loop-c.places.items _ c.loop-c.offset _ within here c.in_ok-push_place.ensures
          (ap (λ n. c.loop-c.offset + n) c.len_utf8-offset.ensures.value) c.loop-c.invariant.places;
      small = omega (arith, c.loop-c.invariant.small, c.len_utf8-offset.ensures.upper_bound);
    }

pub returns : goal.returns
returns c = own_end c.args.row.now c.loop-c.c-index c.loop-c.places.items c.loop-c.offset (omega arith) (omega arith) c.loop-c.invariant.places

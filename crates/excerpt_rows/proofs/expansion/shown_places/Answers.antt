-- One character after another.
use Rattle.std.proofs.Common.{vec_len, ◌+◌, ◌≡◌, ◌<◌, ◌∙◌, ap, length, slice_index, arith, length-append}
use Rattle.std.proofs.lemmas.List.{get_or_read}
use Rattle.excerpt_rows.specs.Expansion.{shown}
use Rattle.excerpt_rows.proofs.ExpansionLemmas.{places_begin, places_more, resized, shown_few}
use Rattle.excerpt_rows.proofs.expansion.shown_places.Goals as goal

pub loop-c-init : goal.loop-c-init
loop-c-init c = record {
  places = places_begin c.args.rule c.args.row.now _ _ c.new-printed.ensures.text c.new-places.ensures.items;
  measured = c.new-printed.ensures.measured;
  few = omega (arith, ap length c.new-printed.ensures.text);
  small = omega arith;
}

pub loop-c-preserved : goal.loop-c-preserved
loop-c-preserved c =
    let row = c.args.row.now in
    let at = c.loop-c.c-index in
    let old = c.loop-c.printed.text.items in
    let within : at < length row = omega arith in
    let here : c.c-item.result ≡ slice_index row at = get_or_read row at c.c-item.result within c.c-item.is 0 in
    record {
      places = places_more c.args.rule row at c.c-item.result old _ _ _ c.loop-c.offset _ within here c.in_ok-show.ensures.text
          (resized c.loop-c.places.items c.resize.new.self.items c.show.new.self.text.items c.len.result (vec_len c.loop-c.places) c.loop-c.offset c.in_ok-resize.ensures.items (c.len.ensures ∙ c.show.new.self.text.ok.0) c.loop-c.places.ok.0)
          (ap (λ n. c.loop-c.offset + n) c.len_utf8-offset.ensures.value) c.loop-c.invariant.places;
      measured = c.in_ok-show.ensures.measured;
      few = omega (arith, c.loop-c.invariant.few, ap length c.in_ok-show.ensures.text, length-append old (shown c.args.rule old c.c-item.result), shown_few c.args.rule old c.c-item.result);
      small = omega (arith, c.loop-c.invariant.small, c.len_utf8-offset.ensures.upper_bound);
    }

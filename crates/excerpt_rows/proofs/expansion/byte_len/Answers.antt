-- One character after another.
use Rattle.std.proofs.Common.{◌≡◌, ◌<◌, sym, ap, length, slice_index, arith}
use Rattle.std.specs.Char.{len_utf8}
use Rattle.std.proofs.lemmas.List.{get_or_read, take_all}
use Rattle.excerpt_rows.specs.Expansion.{bytes_of}
use Rattle.excerpt_rows.proofs.ExpansionLemmas.{bytes_more, bytes_none}
use Rattle.excerpt_rows.proofs.expansion.byte_len.Goals as goal

pub loop-c-init : goal.loop-c-init
loop-c-init c = record { value = sym bytes_none; few = omega arith }

pub loop-c-preserved : goal.loop-c-preserved
loop-c-preserved c =
    let row = c.args.row.now in
    let at = c.loop-c.c-index in
    let within : at < length row = omega arith in
    let here : c.c-item.result ≡ slice_index row at = get_or_read row at c.c-item.result within c.c-item.is 0 in
    record {
      value = omega (arith, c.loop-c.invariant.value, c.len_utf8-bytes.ensures.value, bytes_more row at within, ap len_utf8 here);
      few = omega (arith, c.loop-c.invariant.few, c.len_utf8-bytes.ensures.upper_bound);
    }

pub returns : goal.returns
returns c = omega (arith, c.loop-c.invariant.value, ap bytes_of (take_all c.loop-c.c-index c.args.row.now (omega arith)))

-- One character after another.
use Rattle.std.proofs.Common.{◌≡◌, ◌<◌, sym, ap, length, slice_index, arith}
use Rattle.std.specs.Char.{len_utf8}
use Rattle.std.proofs.lemmas.List.{get_or_read, take_all}
use Rattle.excerpt_rows.specs.Expansion.{bytes_of, cells_of, width_of}
use Rattle.excerpt_rows.proofs.ExpansionLemmas.{bytes_more, bytes_none, cells_more, cells_none}
use Rattle.excerpt_rows.proofs.expansion.size_of.Goals as goal

pub loop-c-init : goal.loop-c-init
loop-c-init c = record { cells = sym cells_none; bytes = sym bytes_none; few_cells = omega arith; few_bytes = omega arith }

pub loop-c-preserved : goal.loop-c-preserved
loop-c-preserved c =
    let text = c.args.text.now in
    let at = c.loop-c.c-index in
    let within : at < length text = omega arith in
    let here : c.c-item.result ≡ slice_index text at = get_or_read text at c.c-item.result within c.c-item.is 0 in
    record {
      cells = omega (arith, c.loop-c.invariant.cells, c.width-cells.ensures.value, cells_more text at within, ap width_of here);
      bytes = omega (arith, c.loop-c.invariant.bytes, c.len_utf8-bytes.ensures.value, bytes_more text at within, ap len_utf8 here);
      few_cells = omega (arith, c.loop-c.invariant.few_cells, c.width-cells.ensures.few);
      few_bytes = omega (arith, c.loop-c.invariant.few_bytes, c.len_utf8-bytes.ensures.upper_bound);
    }

pub returns-clause-cells : goal.returns-clause-cells
returns-clause-cells c = omega (arith, c.loop-c.invariant.cells, ap cells_of (take_all c.loop-c.c-index c.args.text.now (omega arith)))

pub returns-clause-bytes : goal.returns-clause-bytes
returns-clause-bytes c = omega (arith, c.loop-c.invariant.bytes, ap bytes_of (take_all c.loop-c.c-index c.args.text.now (omega arith)))

use Rattle.std.proofs.Common.{◌≡◌, ◌+◌, arith, refl, ap, slice_range, ◌∙◌}
use Rattle.source_location.specs.Breaks.{breaks_of}
use Rattle.source_location.specs.Rows.{row_of}
use Rattle.source_location.specs.Locations.{location_of, counted_from}
use Rattle.source_location.proofs.CharactersLemmas.{char_count-le-offset}
use Rattle.source_location.specs.Characters.{char_count}
use Rattle.source_location.proofs.line_index.LineIndex.source_location.Goals as goal

pub overflow_cast-column : goal.overflow_cast-column
overflow_cast-column c =
    omega (arith, c.column_at-column.ensures, char_count-le-offset c.args.content.now (counted_from c.args.content.now c.row_at-row.result) c.to_usize.result, c.to_usize.ensures.fits)

pub returns : goal.returns
unfolding location_of
returns c =
    let text = c.args.content.now in
    let here = c.row_at-row.ensures.row text c.requires.indexed in
    let row : c.from_zero_indexed.result ≡ row_of (breaks_of text) c.args.offset + 1 = omega (arith, c.from_zero_indexed.ensures, here, c.row_at-row.ensures.within, c.row_at-row.ensures.few) in
    let count : c.column_at-column.result ≡ char_count (slice_range text (counted_from text (row_of (breaks_of text) c.args.offset)) c.args.offset) =
    c.column_at-column.ensures ∙ ap (λ r. char_count (slice_range text (counted_from text r) c.to_usize.result)) here
    ∙ ap (λ o. char_count (slice_range text (counted_from text (row_of (breaks_of text) c.args.offset)) o)) c.to_usize.ensures.number in
    let column : c.from_zero_indexed-2.result ≡ char_count (slice_range text (counted_from text (row_of (breaks_of text) c.args.offset)) c.args.offset) + 1 =
    omega (arith, c.from_zero_indexed-2.ensures, count, char_count-le-offset text (counted_from text (row_of (breaks_of text) c.args.offset)) c.args.offset, c.requires.boundary.0, c.row_at-row.ensures.fits c.args.content.now c.requires.indexed) in
    rw (row, column) refl

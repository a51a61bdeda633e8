use Rattle.std.proofs.Common.{arith, ap, sym, ◌∙◌, slice_range}
use Rattle.source_location.specs.Breaks.{breaks_of}
use Rattle.source_location.proofs.BreaksLemmas.{breaks_valid}
use Rattle.source_location.proofs.RowsLemmas.{row_start_le}
use Rattle.std.proofs.Common.{length}
use Rattle.utf16_places.specs.Units.{utf16_units}
use Rattle.utf16_places.specs.Index.{Utf16View}
use Rattle.utf16_places.proofs.ViewLemmas.{known_now, wide_now}
use Rattle.utf16_places.proofs.PlaceLemmas.{place_is, part_of}
use Rattle.utf16_places.proofs.index.Utf16Index.place_of.Goals as goal

pub units_before-requires-clause-ordered : goal.units_before-requires-clause-ordered
units_before-requires-clause-ordered c =
    let text = c.self.invariant.text in
    let known = known_now _ c.args.self.now text c.self.view_is c.self.invariant.known in
    omega (
      arith,
      c.line_start-start.ensures text known,
      row_start_le (length text) (breaks_of text) c.args.offset c.line_at-line.result (breaks_valid text).ordered (c.line_at-line.ensures.line text known),
    )

pub returns : goal.returns
returns c text known b =
    let line = c.line_at-line.ensures.line text known in
    let start = c.line_start-start.ensures text known in
    let are = wide_now c.as_slice.result.now c.args.self.now text (c.as_slice.ensures.value ∙ ap (λ (v : Utf16View). v.wide) c.self.view_is) known in
    let part = part_of text c.line_at-line.result c.args.offset c.line_start-start.result b (sym line) start in
    sym (place_is text c.args.offset _ (sym line)
    (ap (λ s. utf16_units (slice_range text s c.args.offset)) part.line ∙ sym (c.units_before.ensures text are part)))

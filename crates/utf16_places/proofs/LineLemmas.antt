-- Parts of lines.
use Rattle.std.proofs.Common.{◌≡◌, ℕ, ◌+◌, ◌≤◌, ◌<◌, List, ap, subst, ◌∙◌, arith, slice_range}
use Rattle.std.specs.Str.{IsUtf8, IsCharBoundary}
use Rattle.utf16_places.specs.Units.{utf16_units}
use Rattle.text_places.specs.Places.{line_start_of}
pub use Rattle.text_places.proofs.LineLemmas.{starts_at, line_start-row, line_start-le, line_start-boundary, row_between, line_start-between}
use Rattle.utf16_places.specs.Index.{IsWideIn}
use Rattle.utf16_places.specs.Parts.{IsLinePart, IsCounted}
use Rattle.utf16_places.specs.declared.wide.Counted.{Counted}
use Rattle.utf16_places.specs.declared.wide.WideCharacter.{WideCharacter}
use Rattle.utf16_places.proofs.UnitsLemmas.{before, units-between}
use Rattle.utf16_places.proofs.WideLemmas.{span_of}

-- the same of a part of a line
pub part_start : (text : List ℕ) (start limit : ℕ) → IsLinePart text start limit → start ≤ limit
part_start text start limit part = omega (arith, part.line, line_start-le text limit)

pub part_boundary : (text : List ℕ) (start limit : ℕ) → IsUtf8 text → IsLinePart text start limit → IsCharBoundary text start
part_boundary text start limit utf8 part = subst (λ k. IsCharBoundary text k) part.line (line_start-boundary text limit utf8)

pub in_part : (text : List ℕ) (start limit o : ℕ) → IsLinePart text start limit → start ≤ o → o ≤ limit → line_start_of text o ≡ start
in_part text start limit o part from upto = line_start-between text o limit (omega (arith, part.line)) upto ∙ part.line

-- the units before the end of a character of the part
pub unit_of_wide : (text : List ℕ) (start limit : ℕ) (w : WideCharacter) → IsUtf8 text → IsLinePart text start limit → IsWideIn text w → start ≤ w.start → w.start < limit
    → (w.unit ≡ utf16_units (slice_range text start w.end)) × (w.unit + before text start ≡ before text w.end)
unit_of_wide text start limit w utf8 part is from upto =
    let span = span_of text w is in
    let same : w.unit ≡ utf16_units (slice_range text start w.end) = is.unit ∙ ap (λ s. utf16_units (slice_range text s w.end)) (in_part text start limit w.start part from (omega arith)) in
    (same, omega (arith, same, units-between text start w.end utf8 (part_boundary text start limit utf8 part) span.boundary (omega (arith, span.some))))

pub counted_units : (text : List ℕ) (start limit : ℕ) (counted : Counted) → IsUtf8 text → IsLinePart text start limit → IsCounted text start limit counted
    → counted.unit + before text start ≡ before text counted.offset
counted_units text start limit counted utf8 part is =
    omega (arith, is.unit, units-between text start counted.offset utf8 (part_boundary text start limit utf8 part) is.boundary is.from)

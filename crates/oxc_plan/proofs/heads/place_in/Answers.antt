use Rattle.std.proofs.Common.{◌≡◌, ◌∙◌, ◌<◌, ◌≤◌, ◌+◌, ◌-◌, ap, sym, length, slice_range, arith}
use Rattle.memchr.specs.Find.{NoneBefore, Nowhere, Passes, is_byte2}
use Rattle.unicode_segmentation.proofs.TextLemmas.{length-slice_range}
use Rattle.oxc_windows.specs.Breaks.{breaks_of, ends_break}
use Rattle.oxc_windows.specs.Rows.{row_of, row_start, byte_column, settled}
use Rattle.oxc_windows.proofs.BreaksLemmas.{breaks_valid}
use Rattle.oxc_windows.proofs.RowsLemmas.{row_of_le}
use Rattle.oxc_plan.proofs.PlaceLemmas.{IsReadFor, read_after_end, read_after_other, read_for, read_len, read_settled, read_to_next}
use Rattle.oxc_plan.proofs.heads.place_in.Goals as goal
use Rattle.oxc_plan.proofs.heads.place_in.Goals.{then-ends_break, else-ends_break}

read : (c : goal.After-line-row) → IsReadFor c.args.scanner.now.input c.args.span c.bytes-bytes.result.now c.span.result.now.start c.line-row.result
read c = read_for c.args.scanner.now.input c.args.span c.args.contents.now c.bytes-bytes.result.now c.span.result.now c.line-row.result c.requires.known c.bytes-bytes.ensures c.span.ensures c.line-row.ensures c.requires.within

pub loop-found-init : goal.loop-found-init
loop-found-init c =
    let is = read c in
    let list = breaks_of c.args.scanner.now.input in
    let begins : c.span.result.now.start ≡ c.args.contents.now.span.start = ap (λ s. s.start) c.span.ensures in
    record {
      row = is.line ∙ ap (row_of list) (omega arith);
      start = is.begin;
      upto = omega (arith, begins, c.requires.from);
    }

pub loop-found-preserved : goal.loop-found-preserved
loop-found-preserved c =
    let source = c.args.scanner.now.input in
    let list = breaks_of source in
    let begin = c.span.result.now.start in
    let bytes = c.bytes-bytes.result.now in
    let at = c.loop-found.at in
    let found = c.in-Some.found in
    let to = c.args.offset - begin in
    let kept = c.loop-found.invariant in
    let is = read_for source c.args.span c.args.contents.now bytes c.span.result.now c.line-row.result c.requires.known c.bytes-bytes.ensures c.span.ensures c.line-row.ensures c.requires.within in
    let seen : NoneBefore (Passes (is_byte2 10 13) (slice_range bytes at to)) 0 (length (slice_range bytes at to)) found × Passes (is_byte2 10 13) (slice_range bytes at to) found = c.in-Some.ensures in
    let all : c.args.offset ≤ begin + length bytes = read_len source c.args.span bytes begin c.line-row.result c.args.offset is (omega (arith, kept.upto)) c.requires.upto in
    let below : at + found < to = omega (arith, seen.0.high, length-slice_range bytes at to (omega (arith, all, kept.upto)), kept.upto) in
    let last : begin + at + found < c.args.span.end = omega (arith, below, c.requires.upto) in
    let same : row_of list (begin + at + found) ≡ row_of list (begin + at) =
    read_to_next source c.args.span bytes begin c.line-row.result at to found is (omega (arith, below)) (omega (arith, last)) seen.0.before in
    let back : begin + at + found - begin ≡ at + found = omega arith in
    let next : begin + at + found + 1 ≡ begin + (at + found + 1) = omega arith in
    elim c.if-ends_break.branch [
      | then-ends_break w ↦
          let after = read_after_end source c.args.span bytes begin c.line-row.result (begin + at + found) is (omega arith) last (ap (ends_break bytes) back ∙ sym c.ends_break.ensures ∙ w.if-ends_break.true) in
          let row : c.if-ends_break.row ≡ row_of list (begin + at + found) + 1 = w.row-is ∙ ap (λ r. r + 1) (kept.row ∙ sym same) in
          let place : begin + (at + found) + 1 ≡ begin + at + found + 1 = omega arith in
          record {
            row = row ∙ sym after.0 ∙ ap (row_of list) next;
            start = w.start-is ∙ place ∙ sym after.1 ∙ ap (row_start (length source) list) (sym row);
            upto = omega (arith, below);
          }
      | else-ends_break w ↦
          let after = read_after_other source c.args.span bytes begin c.line-row.result (begin + at + found) is (omega arith) last (ap (ends_break bytes) back ∙ sym c.ends_break.ensures ∙ w.if-ends_break.false) in
          record {
            row = w.row-is ∙ kept.row ∙ sym same ∙ sym after ∙ ap (row_of list) next;
            start = w.start-is ∙ kept.start ∙ ap (row_start (length source) list) (sym w.row-is);
            upto = omega (arith, below);
          }
    ]

pub returns-clause-place : goal.returns-clause-place
unfolding byte_column
returns-clause-place c =
    let source = c.args.scanner.now.input in
    let list = breaks_of source in
    let begin = c.span.result.now.start in
    let bytes = c.bytes-bytes.result.now in
    let at = c.loop-found.at in
    let to = c.args.offset - begin in
    let kept = c.loop-found.invariant in
    let from : begin ≤ c.args.offset = omega (arith, kept.upto) in
    let is = read_for source c.args.span c.args.contents.now bytes c.span.result.now c.line-row.result c.requires.known c.bytes-bytes.ensures c.span.ensures c.line-row.ensures c.requires.within in
    let all : c.args.offset ≤ begin + length bytes = read_len source c.args.span bytes begin c.line-row.result c.args.offset is from c.requires.upto in
    let size : length (slice_range bytes at to) ≡ to - at = length-slice_range bytes at to (omega (arith, all, kept.upto)) in
    let none : Nowhere (Passes (is_byte2 10 13) (slice_range bytes at to)) 0 (length (slice_range bytes at to)) = c.in_default.ensures in
    let same : row_of list (begin + at + (to - at)) ≡ row_of list (begin + at) =
    read_to_next source c.args.span bytes begin c.line-row.result at to (to - at) is (omega (arith, kept.upto)) (omega (arith, kept.upto, c.requires.upto)) (λ k low high. none k low (omega (arith, high, size))) in
    let end : begin + at + (to - at) ≡ c.args.offset = omega (arith, kept.upto) in
    let row : c.loop-found.row ≡ row_of list c.args.offset = kept.row ∙ sym same ∙ ap (row_of list) end in
    let start : c.loop-found.start ≡ row_start (length source) list (row_of list c.args.offset) = kept.start ∙ ap (row_start (length source) list) row in
    let counts = read_settled source c.args.span bytes begin c.line-row.result c.args.offset c.settled.result is from c.requires.upto c.settled.ensures.pair c.settled.ensures.other in
    let column : c.saturating_sub.result ≡ settled list c.args.offset - row_start (length source) list (row_of list c.args.offset) =
    c.saturating_sub.ensures ∙ ap (λ n. n - c.loop-found.start) counts ∙ ap (λ n. settled list c.args.offset - n) start in
    λ i. (row i, column i)

pub slice_bounds-memchr2-end : goal.slice_bounds-memchr2-end
slice_bounds-memchr2-end c =
    let is = read_for c.args.scanner.now.input c.args.span c.args.contents.now c.bytes-bytes.result.now c.span.result.now c.line-row.result c.requires.known c.bytes-bytes.ensures c.span.ensures c.line-row.ensures c.requires.within in
    let all = read_len c.args.scanner.now.input c.args.span c.bytes-bytes.result.now c.span.result.now.start c.line-row.result c.args.offset is (omega (arith, c.loop-found.invariant.upto)) c.requires.upto in
    omega (arith, all, c.loop-found.invariant.upto)

pub overflow_add-row : goal.overflow_add-row
overflow_add-row c =
    omega (arith, row_of_le (breaks_of c.args.scanner.now.input) (c.span.result.now.start + c.loop-found.at) (breaks_valid c.args.scanner.now.input).ordered, c.loop-found.invariant.row, c.loop-found.invariant.upto, c.ranges.offset.fits)

pub settled-requires-clause-upto : goal.settled-requires-clause-upto
settled-requires-clause-upto c =
    let is = read_for c.args.scanner.now.input c.args.span c.args.contents.now c.bytes-bytes.result.now c.span.result.now c.line-row.result c.requires.known c.bytes-bytes.ensures c.span.ensures c.line-row.ensures c.requires.within in
    read_len c.args.scanner.now.input c.args.span c.bytes-bytes.result.now c.span.result.now.start c.line-row.result c.args.offset is (omega (arith, c.loop-found.invariant.upto)) c.requires.upto

pub returns-clause-few : goal.returns-clause-few
returns-clause-few c = (
  omega (arith, row_of_le (breaks_of c.args.scanner.now.input) (c.span.result.now.start + c.loop-found.at) (breaks_valid c.args.scanner.now.input).ordered, c.loop-found.invariant.row, c.loop-found.invariant.upto),
  omega (arith, c.saturating_sub.ensures, c.settled.ensures.bound),
)

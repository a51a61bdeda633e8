use Rattle.std.proofs.Common.{◌≡◌, ℕ, List, ◌≤◌, arith, ap, sym, length, subst, ◌∙◌}
use Rattle.std.specs.Str.{IsCharBoundary}
use Rattle.utf16_places.specs.Places.{IsNearest}
use Rattle.source_location.specs.Breaks.{breaks_of}
use Rattle.source_location.specs.Rows.{row_of}
use Rattle.utf16_places.specs.Index.{Utf16View, IsIndexOf}
use Rattle.utf16_places.proofs.ViewLemmas.{known_now, wide_now, line_count, with_part, end_nearest}
use Rattle.utf16_places.proofs.PlaceLemmas.{line_end_is, nearest_found, nearest_boundary, nearest_keeps_to, part_of}
use Rattle.utf16_places.proofs.index.Utf16Index.nearest.Goals as goal

pub boundary_up_to-requires : goal.boundary_up_to-requires
boundary_up_to-requires c =
    let text = c.self.invariant.text in
    let known = known_now _ c.args.self.now text c.self.view_is c.self.invariant.known in
    let are = wide_now c.as_slice.result.now c.args.self.now text (c.as_slice.ensures.value ∙ ap (λ (v : Utf16View). v.wide) c.self.view_is) known in
    let within : c.args.place.line ≤ length (breaks_of text) =
    omega (arith, line_count c.self.inside.line_starts.items text c.self.invariant.known.starts, c.if-line-len.false, c.len.ensures) in
    let end = line_end_is text c.args.place.line known.wide.utf8 within in
    let same = sym (c.line_end.ensures text known) in
    with_part text c.as_slice.result.now c.args.place.line c.line_start.result c.line_end.result are
    (subst (λ o. IsCharBoundary text o) same end.0) (subst (λ o. row_of (breaks_of text) o ≡ c.args.place.line) same end.1) (c.line_start.ensures text known)

near : (c : goal.After-boundary_up_to) (text : List ℕ) → IsIndexOf c.args.self.now text → IsNearest text c.args.place c.boundary_up_to.result.offset
near c text known =
    let are = wide_now c.as_slice.result.now c.args.self.now text (c.as_slice.ensures.value ∙ ap (λ (v : Utf16View). v.wide) c.self.view_is) known in
    let starts = ap (λ (v : Utf16View). v.line_starts) c.self.view_is ∙ known.starts in
    let within : c.args.place.line ≤ length (breaks_of text) = omega (arith, line_count c.self.inside.line_starts.items text starts, c.if-line-len.false, c.len.ensures) in
    let end = line_end_is text c.args.place.line known.wide.utf8 within in
    let same = sym (c.line_end.ensures text known) in
    let row = subst (λ o. row_of (breaks_of text) o ≡ c.args.place.line) same end.1 in
    let part = part_of text c.args.place.line c.line_end.result c.line_start.result (subst (λ o. IsCharBoundary text o) same end.0) row (c.line_start.ensures text known) in
    nearest_found text c.line_start.result c.line_end.result c.boundary_up_to.result c.args.place part row (c.line_end.ensures text known) (c.boundary_up_to.ensures.counted text are part) c.boundary_up_to.ensures.few
    within (λ o b from upto few. c.boundary_up_to.ensures.largest text o are part b from upto few)

pub returns-clause-nearest : goal.returns-clause-nearest
returns-clause-nearest c text known = near c text known

pub returns-clause-boundary : goal.returns-clause-boundary
returns-clause-boundary c text known = nearest_boundary text c.args.place c.boundary_up_to.result.offset (near c text known)

pub returns-clause-back : goal.returns-clause-back
returns-clause-back c text offset known whole e = nearest_keeps_to text offset c.args.place c.boundary_up_to.result.offset known.wide.utf8 whole e (near c text known)

pub returns-then-line-len-clause-nearest : goal.returns-then-line-len-clause-nearest
returns-then-line-len-clause-nearest c text known = end_nearest _ c.args.self.now text c.args.place c.len.result c.self.view_is known (omega (arith, c.len.ensures)) c.if-line-len.true

pub returns-then-line-len-clause-boundary : goal.returns-then-line-len-clause-boundary
returns-then-line-len-clause-boundary c text known = nearest_boundary text c.args.place c.self.inside.end (end_nearest _ c.args.self.now text c.args.place c.len.result c.self.view_is known (omega (arith, c.len.ensures)) c.if-line-len.true)

pub returns-then-line-len-clause-back : goal.returns-then-line-len-clause-back
returns-then-line-len-clause-back c text offset known whole e = nearest_keeps_to text offset c.args.place c.self.inside.end known.wide.utf8 whole e (end_nearest _ c.args.self.now text c.args.place c.len.result c.self.view_is known (omega (arith, c.len.ensures)) c.if-line-len.true)

use Rattle.std.proofs.Common.{ℕ, List, Some, None, arith, ap, ◌∙◌}
use Rattle.utf16_places.specs.Places.{IsOffsetOf}
use Rattle.utf16_places.specs.Index.{Utf16View, IsIndexOf}
use Rattle.utf16_places.proofs.ViewLemmas.{known_now, wide_now, line_count, with_part}
use Rattle.utf16_places.proofs.PlaceLemmas.{leads_back_to, offset_past, offset_found, offset_missing, part_of}
use Rattle.utf16_places.proofs.index.Utf16Index.offset_of.Goals as goal

pub boundary_up_to-found-requires : goal.boundary_up_to-found-requires
boundary_up_to-found-requires c =
    let text = c.self.invariant.text in
    let known = known_now _ c.args.self.now text c.self.view_is c.self.invariant.known in
    let are = wide_now c.as_slice.result.now c.args.self.now text (c.as_slice.ensures.value ∙ ap (λ (v : Utf16View). v.wide) c.self.view_is) known in
    let last = c.last_boundary_of.ensures text known in
    with_part text c.as_slice.result.now c.args.place.line c.line_start.result c.last_boundary_of.result are last.boundary last.row (c.line_start.ensures text known)

past : (c : goal.Then-line-len) (text : List ℕ) → IsIndexOf c.args.self.now text → IsOffsetOf text c.args.place None
past c text known =
    let starts = ap (λ (v : Utf16View). v.line_starts) c.self.view_is ∙ known.starts in
    offset_past text c.args.place (omega (arith, line_count c.self.inside.line_starts.items text starts, c.if-line-len.true, c.len.ensures))

found : (c : goal.Then-found-place) (text : List ℕ) → IsIndexOf c.args.self.now text → IsOffsetOf text c.args.place (Some c.boundary_up_to-found.result.offset)
found c text known =
    let are = wide_now c.as_slice.result.now c.args.self.now text (c.as_slice.ensures.value ∙ ap (λ (v : Utf16View). v.wide) c.self.view_is) known in
    let last = c.last_boundary_of.ensures text known in
    let part = part_of text c.args.place.line c.last_boundary_of.result c.line_start.result last.boundary last.row (c.line_start.ensures text known) in
    offset_found text c.line_start.result c.last_boundary_of.result c.boundary_up_to-found.result c.args.place known.wide.utf8 part last.row (c.boundary_up_to-found.ensures.counted text are part) c.if-found-place.true

missing : (c : goal.Else-found-place) (text : List ℕ) → IsIndexOf c.args.self.now text → IsOffsetOf text c.args.place None
missing c text known =
    let are = wide_now c.as_slice.result.now c.args.self.now text (c.as_slice.ensures.value ∙ ap (λ (v : Utf16View). v.wide) c.self.view_is) known in
    let last = c.last_boundary_of.ensures text known in
    let part = part_of text c.args.place.line c.last_boundary_of.result c.line_start.result last.boundary last.row (c.line_start.ensures text known) in
    offset_missing text c.line_start.result c.last_boundary_of.result c.boundary_up_to-found.result c.args.place known.wide.utf8 part last (c.boundary_up_to-found.ensures.counted text are part)
    c.boundary_up_to-found.ensures.few c.if-found-place.false (λ o b from upto few. c.boundary_up_to-found.ensures.largest text o are part b from upto few)

pub returns-then-line-len-clause-only : goal.returns-then-line-len-clause-only
returns-then-line-len-clause-only c text known = past c text known

pub returns-then-line-len-clause-back : goal.returns-then-line-len-clause-back
returns-then-line-len-clause-back c text offset known b e = leads_back_to text offset c.args.place None known.wide.utf8 b e (past c text known)

pub returns-then-found-place-clause-only : goal.returns-then-found-place-clause-only
returns-then-found-place-clause-only c text known = found c text known

pub returns-then-found-place-clause-back : goal.returns-then-found-place-clause-back
returns-then-found-place-clause-back c text offset known b e = leads_back_to text offset c.args.place (Some c.boundary_up_to-found.result.offset) known.wide.utf8 b e (found c text known)

pub returns-else-found-place-clause-only : goal.returns-else-found-place-clause-only
returns-else-found-place-clause-only c text known = missing c text known

pub returns-else-found-place-clause-back : goal.returns-else-found-place-clause-back
returns-else-found-place-clause-back c text offset known b e = leads_back_to text offset c.args.place None known.wide.utf8 b e (missing c text known)

-- A client sees offsets in their order.
use Rattle.std.proofs.Common.{◌≡◌, ℕ, ◌+◌, ◌-◌, ◌≤◌, Bool, true, false, cond, List, ap, subst, arith, inl, inr, ⊎_elim}
use Rattle.std.proofs.lemmas.Bool.{cases_lt}
use Rattle.source_location.specs.Breaks.{breaks_of}
use Rattle.source_location.specs.Rows.{is_second_byte}
use Rattle.text_places.specs.Places.{place_at, client_offset, IsBefore}
use Rattle.text_places.specs.declared.place.Place.{Place}
use Rattle.text_places.proofs.PlaceLemmas.{ascending, client_parts_none}
use Rattle.lsp_server.specs.Seen.{client_place}
use Rattle.lsp_server.specs.Ordered.{RangesAreOrdered}

-- at most one byte before the offset
near_at : (second : Bool) (offset : ℕ) → (cond second (offset - 1) offset ≤ offset) × (offset ≤ cond second (offset - 1) offset + 1)
near_at true offset = (omega arith, omega arith)
near_at false offset = (omega arith, omega arith)

near : (text : List ℕ) (offset : ℕ) → (client_offset text offset ≤ offset) × (offset ≤ client_offset text offset + 1)
unfolding client_offset
near text offset = near_at (is_second_byte (breaks_of text) offset) offset

-- what is seen at once, or later, is seen at once
same_seen : (text : List ℕ) (start end : ℕ) → start ≤ end → client_offset text end ≤ client_offset text start → client_offset text start ≡ client_offset text end
same_seen text start end le ge =
    ⊎_elim
    (λ lt. omega (arith, lt, ge, (near text start).0, (near text end).1))
    (λ back. ap (client_offset text) (let e : start ≡ end = omega (arith, back, le) in e))
    (cases_lt start end)

no_turn : (place other : Place) → IsBefore place other → IsBefore other place → ⊥
no_turn place other (inl line) (inl later) = omega (arith, line, later)
no_turn place other (inl line) (inr (same, unit)) = omega (arith, line, same)
no_turn place other (inr (same, unit)) (inl later) = omega (arith, same, later)
no_turn place other (inr (same, unit)) (inr (also, later)) = omega (arith, unit, later)

never_before : (place : Place) → IsBefore place place → ⊥
never_before place (inl line) = omega (arith, line)
never_before place (inr (same, unit)) = omega (arith, unit)

pub ranges_ordered : RangesAreOrdered
unfolding client_place
ranges_ordered file start end utf8 first last le =
    let text = file.text in
    let a = near text start in
    let b = near text end in
    let here = (client_parts_none text start utf8 first).0 in
    let there = (client_parts_none text end utf8 last).0 in
    ⊎_elim
    (λ earlier. λ turned. no_turn _ _ (ascending file.encoding text (client_offset text start) (client_offset text end) utf8 here there earlier) turned)
    (λ ge. λ turned.
    let same : client_offset text start ≡ client_offset text end = same_seen text start end le ge in
    never_before (place_at file.encoding text (client_offset text end))
    (subst (λ o. IsBefore (place_at file.encoding text (client_offset text end)) (place_at file.encoding text o)) same turned))
    (cases_lt (client_offset text start) (client_offset text end))

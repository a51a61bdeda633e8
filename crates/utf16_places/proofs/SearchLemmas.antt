-- What the searches over the characters past ASCII find.
use Rattle.std.proofs.Common.{◌≡◌, ℕ, ◌+◌, ◌-◌, ◌≤◌, ◌<◌, ◌⊎◌, ◌||◌, ◌&&◌, inl, inr, Bool, true, false, ltb, leb, min, List, length, get_or, ap, subst, ◌∙◌, arith, ⊎_elim, slice_range}
use Rattle.std.specs.Ordering.{is_le, nat_cmp}
use Rattle.std.specs.List.Sorted.{IsPartitionedBy}
use Rattle.std.specs.Str.{IsUtf8, IsCharBoundary}
use Rattle.std.proofs.lemmas.Bool.{cases_lt}
use Rattle.std.proofs.lemmas.Bool.Decides.{nat_tests}
use Rattle.std.proofs.lemmas.List.{get_or_default}
use Rattle.utf16_places.specs.Units.{utf16_units}
use Rattle.text_places.specs.Places.{line_start_of}
use Rattle.utf16_places.specs.Index.{AreWideOf}
use Rattle.utf16_places.specs.Parts.{IsLinePart, IsCounted}
use Rattle.utf16_places.specs.declared.wide.WideCharacter.{WideCharacter}
use Rattle.utf16_places.specs.declared.wide.Counted.{Counted}
use Rattle.utf16_places.proofs.UnitsLemmas.{before, before-le, before-lt, units-between, units-le-between}
use Rattle.utf16_places.proofs.WideLemmas.{IsWideSpan, span_of, past_span, plain, nowhere, none_begins, starts_rise}
use Rattle.utf16_places.proofs.LineLemmas.{line_start-le, line_start-boundary, part_start, part_boundary, unit_of_wide, counted_units}

-- the span of a character
pub span_at : (text : List ℕ) (wide : List WideCharacter) (k : ℕ) (d : WideCharacter) → AreWideOf text wide → k < length wide
    → IsWideSpan text (get_or wide k d).start (get_or wide k d).end
span_at text wide k d are h = span_of text (get_or wide k d) (are.whole.there k d h)

start_boundary : (text : List ℕ) (wide : List WideCharacter) (k : ℕ) (d : WideCharacter) → AreWideOf text wide → k < length wide → IsCharBoundary text (get_or wide k d).start
start_boundary text wide k d are h =
    let span = span_at text wide k d are h in
    (omega (arith, span.some, span.boundary.0), λ within high. span.first)

ends_rise : (text : List ℕ) (wide : List WideCharacter) (i j : ℕ) (d : WideCharacter) → AreWideOf text wide → i ≤ j → j < length wide → (get_or wide i d).end ≤ (get_or wide j d).end
ends_rise text wide i j d are le h =
    ⊎_elim (λ lt.
    let earlier = past_span text _ _ (get_or wide j d).start (span_at text wide i d are (omega arith)) (start_boundary text wide j d are h) (are.whole.ascend i j d lt h) in
    omega (arith, earlier, (span_at text wide j d are h).some))
    (λ ge. let same : i ≡ j = omega arith in omega (arith, ap (λ k. (get_or wide k d).end) same))
    (cases_lt i j)

-- whether a character stands before a line, or in a part of it with at most so many units before its end
abbrev pub passes : ℕ → ℕ → ℕ → WideCharacter → Bool
passes start limit unit w = ltb w.start start || (ltb w.start limit && leb w.unit unit)

passes_before : (start limit unit : ℕ) (w : WideCharacter) → w.start < start → passes start limit unit w ≡ true
passes_before start limit unit w h = grind (arith, nat_tests)

passes_within : (start limit unit : ℕ) (w : WideCharacter) → w.start < limit → w.unit ≤ unit → passes start limit unit w ≡ true
passes_within start limit unit w h le = grind (arith, nat_tests)

pub passed_within : (start limit unit : ℕ) (w : WideCharacter) → passes start limit unit w ≡ true → start ≤ w.start → (w.start < limit) × (w.unit ≤ unit)
passed_within start limit unit w e from = (grind (arith, nat_tests), grind (arith, nat_tests))

pub passed_low : (start limit unit : ℕ) (w : WideCharacter) → passes start limit unit w ≡ true → start ≤ limit → w.start < limit
passed_low start limit unit w e le = grind (arith, nat_tests)

failed_from : (start limit unit : ℕ) (w : WideCharacter) → passes start limit unit w ≡ false → start ≤ w.start
failed_from start limit unit w e = grind (arith, nat_tests)

failed_unit : (start limit unit : ℕ) (w : WideCharacter) → passes start limit unit w ≡ false → w.start < limit → unit < w.unit
failed_unit start limit unit w e h = grind (arith, nat_tests)

pub passes_parted : (text : List ℕ) (wide : List WideCharacter) (start limit unit : ℕ) → AreWideOf text wide → IsLinePart text start limit
    → IsPartitionedBy (passes start limit unit) wide
passes_parted text wide start limit unit are part i j d le h e =
    ⊎_elim (λ earlier. passes_before start limit unit (get_or wide i d) earlier)
    (λ from.
    let rise = starts_rise wide are.whole.ascend i j d le h in
    let later = passed_within start limit unit (get_or wide j d) e (omega (arith, from, rise)) in
    let first = unit_of_wide text start limit (get_or wide i d) are.utf8 part (are.whole.there i d (omega arith)) from (omega (arith, rise, later)) in
    let second = unit_of_wide text start limit (get_or wide j d) are.utf8 part (are.whole.there j d h) (omega (arith, from, rise)) later.0 in
    passes_within start limit unit (get_or wide i d) (omega (arith, rise, later))
    (omega (arith, later, first.1, second.1, before-le text (get_or wide i d).end (get_or wide j d).end (ends_rise text wide i j d are le h))))
    (cases_lt (get_or wide i d).start start)

-- the end of a character of the part is a counted boundary
pub counted_last : (text : List ℕ) (wide : List WideCharacter) (k start limit : ℕ) (d : WideCharacter) → AreWideOf text wide → IsLinePart text start limit → k < length wide
    → start ≤ (get_or wide k d).start → (get_or wide k d).start < limit → IsCounted text start limit (record { offset = (get_or wide k d).end; unit = (get_or wide k d).unit })
counted_last text wide k start limit d are part h from upto =
    let span = span_at text wide k d are h in
    record {
      boundary = span.boundary;
      from = omega (arith, span.some, from);
      up_to = past_span text _ _ limit span part.boundary upto;
      unit = (unit_of_wide text start limit (get_or wide k d) are.utf8 part (are.whole.there k d h) from upto).0;
    }

-- so is where the line starts
pub counted_start : (text : List ℕ) (wide : List WideCharacter) (start limit : ℕ) → AreWideOf text wide → IsLinePart text start limit
    → IsCounted text start limit (record { offset = start; unit = 0 })
counted_start text wide start limit are part =
    let here = part_boundary text start limit are.utf8 part in
    let same : start ≤ start = omega arith in
    record {
      boundary = here;
      from = same;
      up_to = part_start text start limit part;
      unit = omega (arith, units-between text start start are.utf8 here here same);
    }

-- no more units before a character's end than bytes
pub few_before : (text : List ℕ) (wide : List WideCharacter) (k : ℕ) (d : WideCharacter) → AreWideOf text wide → k < length wide → (get_or wide k d).unit ≤ (get_or wide k d).end
few_before text wide k d are h =
    let w = get_or wide k d in
    let is = are.whole.there k d h in
    let span = span_at text wide k d are h in
    omega (arith, is.unit, units-le-between text (line_start_of text w.start) w.end are.utf8 (line_start-boundary text w.start are.utf8) span.boundary (omega (arith, line_start-le text w.start, span.some)))

-- each of the first characters starts before the last one of them ends
pub behind_last : (text : List ℕ) (wide : List WideCharacter) (passed : ℕ) (e : WideCharacter) → AreWideOf text wide → passed ≤ length wide
    → (k : ℕ) (d : WideCharacter) → k < passed → (get_or wide k d).start < (get_or wide (passed - 1) e).end
behind_last text wide passed e are le k d h =
    omega (arith, get_or_same wide k d e (omega arith), starts_rise wide are.whole.ascend k (passed - 1) e (omega arith) (omega arith), (span_at text wide (passed - 1) e are (omega arith)).some)
  where
    get_or_same : (wide : List WideCharacter) (k : ℕ) (d e : WideCharacter) → k < length wide → (get_or wide k d).start ≡ (get_or wide k e).start
    get_or_same wide k d e h = ap (λ w. w.start) (get_or_default wide k d e h)

pub behind_start : (text : List ℕ) (wide : List WideCharacter) (passed start : ℕ) → AreWideOf text wide → passed ≤ length wide
    → ((d : WideCharacter) → 0 < passed → (get_or wide (passed - 1) d).start < start)
    → (k : ℕ) (d : WideCharacter) → k < passed → (get_or wide k d).start < start
behind_start text wide passed start are le last k d h =
    omega (arith, starts_rise wide are.whole.ascend k (passed - 1) d (omega arith) (omega arith), last d (omega arith))

-- from a counted boundary to another place, where no character past ASCII begins between them
pub counted_plain : (text : List ℕ) (start limit base unit next : ℕ) → IsUtf8 text → IsLinePart text start limit → IsCounted text start limit (record { offset = base; unit = unit })
    → next ≤ limit → ((p : ℕ) → base ≤ p → p < next → get_or text p 0 < 192)
    → (d : ℕ) → base + d ≤ next → IsCounted text start limit (record { offset = base + d; unit = unit + d })
counted_plain text start limit base unit next utf8 part is le none d h =
    let step = plain text base next utf8 is.boundary (omega (arith, part.boundary.0)) none d h in
    record {
      boundary = step.0;
      from = omega (arith, is.from);
      up_to = omega arith;
      unit = omega (
        arith,
        step.1,
        counted_units text start limit (record { offset = base; unit = unit }) utf8 part is,
        units-between text start (base + d) utf8 (part_boundary text start limit utf8 part) step.0 (omega (arith, is.from)),
      );
    }

-- a place behind the end of the last character that starts before it is a boundary
pub outside : (text : List ℕ) (wide : List WideCharacter) (passed base offset : ℕ) → AreWideOf text wide → offset ≤ length text → IsCharBoundary text base → base ≤ offset
    → ((k : ℕ) (d : WideCharacter) → k < passed → (get_or wide k d).start < base)
    → ((k : ℕ) (d : WideCharacter) → passed ≤ k → k < length wide → offset ≤ (get_or wide k d).start)
    → IsCharBoundary text offset
outside text wide passed base offset are within b le earlier later =
    let place : base + (offset - base) ≡ offset = omega arith in
    subst (λ k. IsCharBoundary text k) place
    (plain text base offset are.utf8 b within (none_begins text wide passed base offset are.whole within earlier later) (offset - base) (omega arith)).0

-- the units before an offset of a line, from the last character before it
pub units_from : (text : List ℕ) (wide : List WideCharacter) (passed start offset : ℕ) (counted : Counted) → AreWideOf text wide → IsLinePart text start offset → IsCounted text start offset counted
    → ((k : ℕ) (d : WideCharacter) → k < passed → (get_or wide k d).start < counted.offset)
    → ((k : ℕ) (d : WideCharacter) → passed ≤ k → k < length wide → offset ≤ (get_or wide k d).start)
    → counted.unit + (offset - counted.offset) ≡ utf16_units (slice_range text start offset)
units_from text wide passed start offset counted are part is earlier later =
    let none = none_begins text wide passed counted.offset offset are.whole part.boundary.0 earlier later in
    let all = counted_plain text start offset counted.offset counted.unit offset are.utf8 part is (omega arith) none (offset - counted.offset) (omega (arith, is.up_to)) in
    let place : counted.offset + (offset - counted.offset) ≡ offset = omega (arith, is.up_to) in
    all.unit ∙ ap (λ k. utf16_units (slice_range text start k)) place

-- what is known where the largest boundary with few enough units is looked for: the counted boundary before, and the next character
pub record IsStep (text : List ℕ) (wide : List WideCharacter) (passed start limit unit next : ℕ) (base : Counted) : Type 0 where
  pub are : AreWideOf text wide
  pub part : IsLinePart text start limit
  pub counted : IsCounted text start limit base
  pub few : base.unit ≤ unit
  pub earlier : (k : ℕ) (d : WideCharacter) → k < passed → (get_or wide k d).start < base.offset
  pub later : (k : ℕ) (d : WideCharacter) → passed ≤ k → k < length wide → passes start limit unit (get_or wide k d) ≡ false
  pub up_to : next ≤ limit
  pub ahead : (d : WideCharacter) → passed < length wide → next ≤ (get_or wide passed d).start
  pub met : (next ≡ limit) ⊎ ((passed < length wide) × ((d : WideCharacter) → (get_or wide passed d).start ≡ next))

-- the character that comes next has too many units before its end
next_units : (text : List ℕ) (wide : List WideCharacter) (passed start limit unit next : ℕ) (counted : Counted) → IsStep text wide passed start limit unit next counted
    → passed < length wide → (get_or wide passed nowhere).start < limit
    → unit + before text start < before text (get_or wide passed nowhere).end
next_units text wide passed start limit unit next counted step h upto =
    let fails = step.later passed nowhere (omega arith) h in
    let from = failed_from start limit unit (get_or wide passed nowhere) fails in
    omega (
      arith,
      failed_unit start limit unit (get_or wide passed nowhere) fails upto,
      (unit_of_wide text start limit (get_or wide passed nowhere) step.are.utf8 step.part (step.are.whole.there passed nowhere h) from upto).1,
    )

-- it does not start before the counted boundary
pub step_room : (text : List ℕ) (wide : List WideCharacter) (passed start limit unit next : ℕ) (counted : Counted) → IsStep text wide passed start limit unit next counted
    → counted.offset ≤ next
step_room text wide passed start limit unit next counted step =
    ⊎_elim (λ last. omega (arith, last, step.counted.up_to))
    (λ here. ⊎_elim (λ before_it. absurd (beyond here.0 (omega (arith, before_it, here.1 nowhere)))) (λ le. le) (cases_lt next counted.offset))
    step.met
  where
    beyond : passed < length wide → (get_or wide passed nowhere).start < counted.offset → ⊥
    beyond h lt =
        let past = past_span text _ _ counted.offset (span_at text wide passed nowhere step.are h) step.counted.boundary lt in
        omega (
          arith,
          next_units text wide passed start limit unit next counted step h (omega (arith, lt, step.counted.up_to)),
          before-le text (get_or wide passed nowhere).end counted.offset past,
          counted_units text start limit counted step.are.utf8 step.part step.counted,
          step.few,
        )

step_none : (text : List ℕ) (wide : List WideCharacter) (passed start limit unit next : ℕ) (counted : Counted) → IsStep text wide passed start limit unit next counted
    → (p : ℕ) → counted.offset ≤ p → p < next → get_or text p 0 < 192
step_none text wide passed start limit unit next counted step =
    none_begins text wide passed counted.offset next step.are.whole (omega (arith, step.up_to, step.part.boundary.0)) step.earlier
    (λ k d low h. omega (arith, step.ahead d (omega (arith, low, h)), starts_rise wide step.are.whole.ascend passed k d low h))

-- the boundary that is reached
pub step_counted : (text : List ℕ) (wide : List WideCharacter) (passed start limit unit next n : ℕ) (counted : Counted) → IsStep text wide passed start limit unit next counted
    → counted.offset + n ≤ next → IsCounted text start limit (record { offset = counted.offset + n; unit = counted.unit + n })
step_counted text wide passed start limit unit next n counted step h =
    counted_plain text start limit counted.offset counted.unit next step.are.utf8 step.part step.counted step.up_to (step_none text wide passed start limit unit next counted step) n h

-- no boundary further on has few enough units
pub step_largest : (text : List ℕ) (wide : List WideCharacter) (passed start limit unit next n offset : ℕ) (counted : Counted) → IsStep text wide passed start limit unit next counted
    → (n ≡ min (unit - counted.unit) (next - counted.offset))
    → IsCharBoundary text offset → start ≤ offset → offset ≤ limit → utf16_units (slice_range text start offset) ≤ unit → offset ≤ counted.offset + n
step_largest text wide passed start limit unit next n offset counted step is b from upto few =
    ⊎_elim (λ past. absurd (too_far past)) (λ le. le) (cases_lt (counted.offset + n) offset)
  where
    room : counted.offset ≤ next
    room = step_room text wide passed start limit unit next counted step

    reached : IsCounted text start limit (record { offset = counted.offset + n; unit = counted.unit + n })
    reached = step_counted text wide passed start limit unit next n counted step (omega (arith, is, room))

    units : utf16_units (slice_range text start offset) + before text start ≡ before text offset
    units = units-between text start offset step.are.utf8 (part_boundary text start limit step.are.utf8 step.part) b from

    full : counted.offset + n < offset → n ≡ unit - counted.unit → ⊥
    full past e =
        omega (
          arith,
          units,
          few,
          e,
          step.few,
          counted_units text start limit (record { offset = counted.offset + n; unit = counted.unit + n }) step.are.utf8 step.part reached,
          before-lt text (counted.offset + n) offset reached.boundary past (omega (arith, past, b.0)),
        )

    blocked : next < offset → ⊥
    blocked past =
        ⊎_elim (λ last. omega (arith, last, past, upto))
        (λ here.
        let start_at = here.1 nowhere in
        let behind = past_span text _ _ offset (span_at text wide passed nowhere step.are here.0) b (omega (arith, start_at, past)) in
        omega (
          arith,
          next_units text wide passed start limit unit next counted step here.0 (omega (arith, start_at, past, upto)),
          before-le text (get_or wide passed nowhere).end offset behind,
          units,
          few,
        ))
        step.met

    too_far : counted.offset + n < offset → ⊥
    too_far past = ⊎_elim (λ e. full past e) (λ e. blocked (omega (arith, past, e, room))) (which (unit - counted.unit) (next - counted.offset) n is)
      where
        which : (a b m : ℕ) → m ≡ min a b → (m ≡ a) ⊎ (m ≡ b)
        which a b m e = ⊎_elim (λ lt. inl (omega arith)) (λ ge. inr (omega arith)) (cases_lt a b)

-- the answer of a comparison
pub le_true : (a b : ℕ) (said : Bool) → said ≡ is_le (nat_cmp a b) → said ≡ true → a ≤ b
le_true a b said e h = grind (arith, nat_tests)

pub true_le : (a b : ℕ) (said : Bool) → said ≡ is_le (nat_cmp a b) → a ≤ b → said ≡ true
true_le a b said e h = grind (arith, nat_tests)

-- the last character that passed has few enough units, so the counted boundary has
pub few_counted : (wide : List WideCharacter) (passed start limit unit counted : ℕ) → ((k : ℕ) (d : WideCharacter) → k < passed → passes start limit unit (get_or wide k d) ≡ true)
    → (counted ≡ 0) ⊎ ((0 < passed) × ((d : WideCharacter) → (start ≤ (get_or wide (passed - 1) d).start) × (counted ≡ (get_or wide (passed - 1) d).unit)))
    → counted ≤ unit
few_counted wide passed start limit unit counted all last =
    ⊎_elim (λ none. omega arith)
    (λ some.
    let here = passed_within start limit unit (get_or wide (passed - 1) nowhere) (all (passed - 1) nowhere (omega (arith, some.0))) (some.1 nowhere).0 in
    omega (arith, here.1, (some.1 nowhere).1))
    last

-- the parts of a step, as the searches say them
pub step_of : (text : List ℕ) (wide : List WideCharacter) (passed start limit unit next : ℕ) (base : Counted) → AreWideOf text wide → IsLinePart text start limit
    → ((k : ℕ) (d : WideCharacter) → 0 ≤ k → k < passed → passes start limit unit (get_or wide k d) ≡ true)
    → ((k : ℕ) (d : WideCharacter) → passed ≤ k → k < length wide → passes start limit unit (get_or wide k d) ≡ false)
    → (((k : ℕ) (d : WideCharacter) → k < passed → (get_or wide k d).start < limit) → IsCounted text start limit base)
    → ((k : ℕ) (d : WideCharacter) → k < passed → (get_or wide k d).start < base.offset)
    → (base.unit ≡ 0) ⊎ ((0 < passed) × ((d : WideCharacter) → (start ≤ (get_or wide (passed - 1) d).start) × (base.unit ≡ (get_or wide (passed - 1) d).unit)))
    → next ≤ limit
    → ((d : WideCharacter) → passed < length wide → next ≤ (get_or wide passed d).start)
    → (next ≡ limit) ⊎ ((passed < length wide) × ((d : WideCharacter) → (get_or wide passed d).start ≡ next))
    → IsStep text wide passed start limit unit next base
step_of text wide passed start limit unit next base are part all none counted behind last upto ahead met =
    let reached : (k : ℕ) (d : WideCharacter) → k < passed → passes start limit unit (get_or wide k d) ≡ true = λ k d h. all k d (omega arith) h in
    record {
      are = are;
      part = part;
      counted = counted (λ k d h. passed_low start limit unit (get_or wide k d) (reached k d h) (part_start text start limit part));
      few = few_counted wide passed start limit unit base.unit reached last;
      earlier = behind;
      later = none;
      up_to = upto;
      ahead = ahead;
      met = met;
    }

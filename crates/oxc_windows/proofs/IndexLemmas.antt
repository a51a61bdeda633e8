-- What an index holds, and which spans it serves.
use Rattle.std.proofs.Common.{IsSome, ◌≡◌, ℕ, ◌+◌, ◌-◌, ◌<◌, ◌≤◌, ◌&&◌, true, false, List, ◌++◌, length, map, get_or, Option, Some, None, refl, sym, ap, subst, ◌∙◌, arith, zero, suc, ltb, leb, eqb, ⊎_elim, if◌then◌else◌}
use Rattle.std.proofs.lemmas.Bool.{cases_lt, and_parts, ltb-true, false≢true, lt-ltb}
use Rattle.std.proofs.lemmas.Bool.Decides.{nat_tests}
use Rattle.std.proofs.lemmas.List.{length-append, length-map, get_or_default}
use Rattle.oxc_windows.specs.declared.breaks.LineBreak.{LineBreak}
use Rattle.oxc_windows.specs.Breaks.{AreBreaks, IsBreakList}
use Rattle.oxc_windows.specs.Rows.{row_of, row_start}
use Rattle.oxc_windows.proofs.RowsLemmas.{row_le, row_start_after, row_start_le, ends_from_row}
use Rattle.oxc_windows.specs.Window.{window_of}
use Rattle.oxc_windows.specs.declared.held.Rows.{Rows}
use Rattle.oxc_windows.specs.Held.{Held, IsHeld}
use Rattle.oxc_windows.specs.Index.{HoldsRows, IsSeeded, is_served}
use Rattle.oxc_windows.proofs.SeenLemmas.{row_held, start_held}
use Rattle.oxc_windows.proofs.ExactLemmas.{begin_low}

pub window_none : (len : ℕ) (list : List LineBreak) (before after start end : ℕ) → len < end → None ≡ window_of len list before after start end
unfolding window_of
window_none len list before after start end h = rw (lt-ltb len end h) refl

-- a row that starts at an offset or before is the offset's or above it
row_from : (len : ℕ) (list : List LineBreak) (k o : ℕ) → AreBreaks list → k ≤ length list → row_start len list k ≤ o → k ≤ row_of list o
row_from len list zero o ok h le = omega arith
row_from len list (suc j) o ok h le =
    let d : LineBreak = record { start = 0; end = 0 } in
    ⊎_elim (λ lt. absurd (omega (arith, row_start_after len list j d (omega (arith, h)), le, ends_from_row list o ok j d (omega (arith, lt)) (omega (arith, h)))))
    (λ ge. ge) (cases_lt (row_of list o) (suc j))

map_length : (kept : List LineBreak) → length (map (λ b. b.end + 1) kept) ≡ length kept
map_length kept = simp (length-map) refl

-- how many starts are held
pub starts_long : (len : ℕ) (list : List LineBreak) (top known : ℕ) (starts : List ℕ) (kept : List LineBreak) → Held len list top known starts kept → length starts ≡ length kept + 1
starts_long len list top known starts kept h = let e : length starts ≡ suc (length kept) = ap length h.starts_are ∙ ap suc (map_length kept) in omega (arith, e)

pub kept_few : (len : ℕ) (list : List LineBreak) (top known : ℕ) (starts : List ℕ) (kept : List LineBreak) → Held len list top known starts kept → top + length kept ≤ length list
kept_few len list top known starts kept h =
    let size : length list ≡ length h.front + (length kept + length h.rest) = ap length h.split ∙ length-append h.front (kept ++ h.rest) ∙ ap (λ n. length h.front + n) (length-append kept h.rest) in
    omega (arith, size, h.above)

not_zero : (n : ℕ) → 0 < n → eqb n 0 ≡ false
not_zero n h = grind (arith, nat_tests)

le_true : (a b : ℕ) → leb a b ≡ true → a ≤ b
le_true a b h = grind (arith, nat_tests)

both_true : (a b c d : ℕ) → a < b → c ≤ d → ltb a b && leb c d ≡ true
both_true a b c d h g = grind (arith, nat_tests)

-- the first row of a span that is served is held or follows
pub served_line : (len : ℕ) (list : List LineBreak) (before first all start : ℕ) (rows : Rows) → IsBreakList len list → IsSeeded len list before first all rows
    → is_served rows.top before rows.starts.items start ≡ true → rows.top ≤ row_of list start - before
served_line len list before first all start rows valid s yes_served =
    ⊎_elim (λ some.
    let test : ltb before (length rows.starts.items) && leb (get_or rows.starts.items before 0) start ≡ true =
    sym (ap (λ v. if v then true else (ltb before (length rows.starts.items) && leb (get_or rows.starts.items before 0) start)) (not_zero rows.top some)) ∙ yes_served in
    let parts = and_parts (ltb before (length rows.starts.items)) (leb (get_or rows.starts.items before 0) start) test in
    let within : before < length rows.starts.items = ltb-true before (length rows.starts.items) parts.0 in
    let low : get_or rows.starts.items before 0 ≤ start = le_true _ _ parts.1 in
    let long = starts_long len list rows.top rows.known rows.starts.items s.held.kept s.held.held in
    let few = kept_few len list rows.top rows.known rows.starts.items s.held.kept s.held.held in
    let there : row_start len list (rows.top + before) ≡ get_or rows.starts.items before len =
    start_held len list rows.top rows.known rows.starts.items s.held.kept before valid s.held.held (λ past. absurd (omega (arith, past, within, long))) in
    let same : get_or rows.starts.items before len ≡ get_or rows.starts.items before 0 = get_or_default rows.starts.items before len 0 within in
    let from = row_from len list (rows.top + before) start valid.ordered (omega (arith, within, long, few)) (omega (arith, there, same, low)) in
    omega (arith, from))
    (λ zero. omega (arith, zero)) (cases_lt 0 rows.top)

-- a span that starts at the first start or later is served
pub later_served : (len : ℕ) (list : List LineBreak) (before first all start : ℕ) (rows : Rows) → IsBreakList len list → IsSeeded len list before first all rows
    → first ≤ start → is_served rows.top before rows.starts.items start ≡ true
later_served len list before first all start rows valid s le =
    ⊎_elim (λ some.
    let low : s.held.held.begin ≤ first = subst (λ b. b ≤ first) (sym s.held.held.begins) (begin_low len list rows.top first valid.ordered (omega (arith, s.top))) in
    let here = row_held len list rows.top rows.known rows.starts.items s.held.kept first valid.ordered s.held.held low s.reached in
    let own = row_le s.held.kept first in
    let place : rows.top + before ≡ row_of list first = omega (arith, s.top, some) in
    let long = starts_long len list rows.top rows.known rows.starts.items s.held.kept s.held.held in
    let within : before < length rows.starts.items = omega (arith, place, here, own, long) in
    let there : row_start len list (rows.top + before) ≡ get_or rows.starts.items before len =
    start_held len list rows.top rows.known rows.starts.items s.held.kept before valid s.held.held (λ past. absurd (omega (arith, past, within, long))) in
    let same : get_or rows.starts.items before len ≡ get_or rows.starts.items before 0 = get_or_default rows.starts.items before len 0 within in
    let begins = row_start_le len list first (rows.top + before) valid.ordered place in
    ap (λ v. if v then true else (ltb before (length rows.starts.items) && leb (get_or rows.starts.items before 0) start)) (not_zero rows.top some)
    ∙ both_true before (length rows.starts.items) (get_or rows.starts.items before 0) start within (omega (arith, begins, there, same, le)))
    (λ zero. let none : rows.top ≡ 0 = omega (arith, zero) in
    ap (λ n. if eqb n 0 then true else (ltb before (length rows.starts.items) && leb (get_or rows.starts.items before 0) start)) none)
    (cases_lt 0 rows.top)

-- further searches keep what an index is
pub seeded_more : (len : ℕ) (list : List LineBreak) (before first all : ℕ) (rows next : Rows) → IsSeeded len list before first all rows
    → IsHeld len list next.top next.known next.starts.items next.heads.items → next.top ≡ rows.top → rows.known ≤ next.known → IsSeeded len list before first all next
seeded_more len list before first all rows next s held top further = record { held = held; top = top ∙ s.top; reached = omega (arith, s.reached, further); whole = s.whole }

-- the same for whichever start was the first
pub more_of : (len : ℕ) (list : List LineBreak) (before all : ℕ) (rows next : Rows) (first : Option ℕ) → (first ≡ None → ⊥) → HoldsRows len list before all rows first
    → IsHeld len list next.top next.known next.starts.items next.heads.items → next.top ≡ rows.top → rows.known ≤ next.known → HoldsRows len list before all next first
more_of len list before all rows next None some is held top further = absurd (some refl)
more_of len list before all rows next (Some first) some is held top further = seeded_more len list before first all rows next is held top further

pub line_of : (len : ℕ) (list : List LineBreak) (before all start : ℕ) (rows : Rows) (first : Option ℕ) → IsBreakList len list → (first ≡ None → ⊥) → HoldsRows len list before all rows first
    → is_served rows.top before rows.starts.items start ≡ true → rows.top ≤ row_of list start - before
line_of len list before all start rows None valid some is served = absurd (some refl)
line_of len list before all start rows (Some first) valid some is served = served_line len list before first all start rows valid is served

pub served_of : (len : ℕ) (list : List LineBreak) (before all start x : ℕ) (rows : Rows) (first : Option ℕ) → IsBreakList len list → first ≡ Some x → HoldsRows len list before all rows first
    → x ≤ start → is_served rows.top before rows.starts.items start ≡ true
served_of len list before all start x rows None valid e is le = let no_way : None ≡ Some x = e in cc
served_of len list before all start x rows (Some first) valid e is le =
    let same : first ≡ x = cc in later_served len list before first all start rows valid is (omega (arith, same, le))

pub some_not_none : (first : Option ℕ) → IsSome first → first ≡ None → ⊥
some_not_none None h e = false≢true h
some_not_none (Some x) h e = let both : Some x ≡ None = e in cc

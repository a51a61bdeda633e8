-- What the list of row starts holds.
use Rattle.std.proofs.Common.{◌≡◌, ℕ, ◌+◌, ◌-◌, ◌<◌, ◌≤◌, List, [], ◌∷◌, ◌++◌, Option, Some, None, IfSome, refl, sym, ap, subst, ◌∙◌, arith, ltb, ⊎_elim, All, get_or, length, take, min, suc}
use Rattle.std.proofs.Math.Seq.{take-length}
use Rattle.std.proofs.lemmas.Bool.{cases_lt, lt-ltb}
use Rattle.std.proofs.lemmas.List.{length-append, length-take, get_or-take, get_or_default, get_or-append-add}
use Rattle.oxc_windows.specs.declared.breaks.LineBreak.{LineBreak}
use Rattle.oxc_windows.specs.Breaks.{AreBreaks, IsBreakList, breaks_of}
use Rattle.oxc_windows.specs.Rows.{row_of, row_start}
use Rattle.oxc_windows.proofs.RowsLemmas.{row_le, row_start_after, ends_before_row, ends_from_row}
use Rattle.oxc_windows.specs.declared.held.Rows.{Rows}
use Rattle.oxc_windows.specs.declared.window.Window.{Window}
use Rattle.oxc_windows.specs.Held.{Held, IsHeld}
use Rattle.oxc_windows.specs.Index.{HoldsRows, IsSeeded}
use Rattle.oxc_windows.specs.Kept.{AllStay, AreKept, AreKeptUpTo}
use Rattle.oxc_windows.specs.Scan.{Scan, IsSameReader, KeepsUpTo}
use Rattle.oxc_windows.proofs.ListLemmas.{count_all}
use Rattle.oxc_windows.proofs.SeenLemmas.{row_held, start_held}
use Rattle.oxc_windows.proofs.IndexLemmas.{starts_long, kept_few}

-- the numbers of a list stay, by place
abbrev Stays : List ℕ → List ℕ → Type 0
Stays old new = (i d : ℕ) → i < length old → (i < length new) × (get_or new i d ≡ get_or old i d)

-- every row that starts before a place is held
abbrev Holds : ℕ → List LineBreak → ℕ → ℕ → ℕ → List ℕ → Type 0
Holds len list before first stop kept = (r : ℕ) → row_of list first - before ≤ r → r ≤ length list → row_start len list r < stop → r - (row_of list first - before) < length kept

-- so the old list is the first part of the new one
stays_all : (old new : List ℕ) → Stays old new → AllStay old new
stays_all [] new stays = refl
stays_all (x ∷ old) [] stays = absurd (omega (arith, (stays 0 0 (omega arith)).0))
stays_all (x ∷ old) (y ∷ new) stays =
    let same : y ≡ x = (stays 0 0 (omega arith)).1 in
    let rest = stays_all old new (λ i d lt. let later = stays (suc i) d (omega (arith, lt)) in (omega (arith, later.0), later.1)) in
    ap (λ z. z ∷ take (length old) new) same ∙ ap (λ l. x ∷ l) rest

row_all : (kept : List LineBreak) (known : ℕ) → All (λ b. b.end < known) kept → row_of kept known ≡ length kept
unfolding row_of
row_all kept known high = count_all (λ b. ltb b.end known) kept (λ k d q. lt-ltb (get_or kept k d).end known (high k d q))

-- how many breaks are known
kept_count : (len : ℕ) (list : List LineBreak) (top known : ℕ) (starts : List ℕ) (kept : List LineBreak) → AreBreaks list → Held len list top known starts kept
    → row_of list known ≡ top + length kept
kept_count len list top known starts kept ok h =
    let e = row_held len list top known starts kept known ok h h.ordered (omega arith) in
    omega (arith, e, row_all kept known h.high)

row_rises : (list : List LineBreak) (a b : ℕ) → AreBreaks list → a ≤ b → row_of list a ≤ row_of list b
row_rises list a b ok le =
    let d : LineBreak = record { start = 0; end = 0 } in
    ⊎_elim (λ lt. absurd (omega (arith, ends_before_row list a ok (row_of list b) d lt, ends_from_row list b ok (row_of list b) d (omega arith) (omega (arith, lt, row_le list a)), le)))
    (λ ge. ge) (cases_lt (row_of list b) (row_of list a))

-- the numbers are the starts of the rows
pub kept_is : (len : ℕ) (list : List LineBreak) (before all : ℕ) (rows : Rows) (first : Option ℕ) → IsBreakList len list → HoldsRows len list before all rows first
    → AreKept len list before first rows.starts.items
kept_is len list before all rows None valid is = is
kept_is len list before all rows (Some x) valid is = λ i d lt.
    let long = starts_long len list rows.top rows.known rows.starts.items is.held.kept is.held.held in
    let few = kept_few len list rows.top rows.known rows.starts.items is.held.kept is.held.held in
    let e = start_held len list rows.top rows.known rows.starts.items is.held.kept i valid is.held.held (λ past. absurd (omega (arith, past, lt, long))) in
    let at : row_start len list (rows.top + i) ≡ row_start len list (row_of list x - before + i) = ap (λ t. row_start len list (t + i)) is.top in
    (sym (sym at ∙ e ∙ get_or_default rows.starts.items i len d lt), omega (arith, lt, long, few, is.top))

-- further searches take none away
stays_more : (len : ℕ) (list : List LineBreak) (rows next : Rows) → IsBreakList len list
    → IsHeld len list rows.top rows.known rows.starts.items rows.heads.items → IsHeld len list next.top next.known next.starts.items next.heads.items → next.top ≡ rows.top → rows.known ≤ next.known
    → Stays rows.starts.items next.starts.items
stays_more len list rows next valid h g top further = λ i d lt.
    let long = starts_long len list rows.top rows.known rows.starts.items h.kept h.held in
    let longer = starts_long len list next.top next.known next.starts.items g.kept g.held in
    let one = kept_count len list rows.top rows.known rows.starts.items h.kept valid.ordered h.held in
    let two = kept_count len list next.top next.known next.starts.items g.kept valid.ordered g.held in
    let more = row_rises list rows.known next.known valid.ordered further in
    let there : i < length next.starts.items = omega (arith, lt, long, longer, one, two, more, top) in
    let e = start_held len list rows.top rows.known rows.starts.items h.kept i valid h.held (λ past. absurd (omega (arith, past, lt, long))) in
    let f = start_held len list next.top next.known next.starts.items g.kept i valid g.held (λ past. absurd (omega (arith, past, there, longer))) in
    let same : row_start len list (next.top + i) ≡ row_start len list (rows.top + i) = ap (λ t. row_start len list (t + i)) top in
    (there, sym (get_or_default next.starts.items i len d there) ∙ sym f ∙ same ∙ e ∙ get_or_default rows.starts.items i len d lt)

pub stay_from_none : (rows next : List ℕ) → rows ≡ [] → AllStay rows next
stay_from_none rows next e = rw e refl

pub stay_same : (rows next : List ℕ) → next ≡ rows → AllStay rows next
stay_same rows next e = ap (take (length rows)) e ∙ take-length rows

-- every row that starts before a known place is held
holds_upto : (len : ℕ) (list : List LineBreak) (before first all stop : ℕ) (rows : Rows) → IsBreakList len list → IsSeeded len list before first all rows → stop ≤ rows.known
    → Holds len list before first stop rows.starts.items
holds_upto len list before first all stop rows valid s le = λ r low high under.
    let h = s.held.held in
    let kept = s.held.kept in
    let d : LineBreak = record { start = 0; end = 0 } in
    let long = starts_long len list rows.top rows.known rows.starts.items kept h in
    ⊎_elim (λ within. within)
    (λ out.
    let k = r - 1 in
    let there : k < length list = omega (arith, high, out, long, low, s.top) in
    let e : row_start len list (suc k) ≡ (get_or list k d).end + 1 = row_start_after len list k d there in
    let same : suc k ≡ r = omega (arith, out, long) in
    let start : row_start len list (suc k) ≡ row_start len list r = ap (row_start len list) same in
    let i = k - rows.top - length kept in
    let own : length h.front + (length kept + i) ≡ k = omega (arith, h.above, out, long, low, s.top) in
    let size : length list ≡ length h.front + (length kept + length h.rest) = ap length h.split ∙ length-append h.front (kept ++ h.rest) ∙ ap (λ n. length h.front + n) (length-append kept h.rest) in
    let at : get_or list k d ≡ get_or h.rest i d =
    ap (λ j. get_or list j d) (sym own) ∙ ap (λ l. get_or l (length h.front + (length kept + i)) d) h.split
    ∙ get_or-append-add h.front (kept ++ h.rest) (length kept + i) d ∙ get_or-append-add kept h.rest i d in
    let inside : i < length h.rest = omega (arith, own, size, there) in
    let far : rows.known ≤ (get_or list k d).start = subst (λ b. rows.known ≤ b.start) (sym at) (h.ahead i d inside) in
    absurd (omega (arith, far, (valid.ordered.shape k d there).0, e, start, under, le)))
    (cases_lt (r - (row_of list first - before)) (length rows.starts.items))

holds_of : (len : ℕ) (list : List LineBreak) (before all stop x : ℕ) (rows : Rows) (first : Option ℕ) → IsBreakList len list → first ≡ Some x → HoldsRows len list before all rows first → stop ≤ rows.known
    → Holds len list before x stop rows.starts.items
holds_of len list before all stop x rows None valid e is le = let no_way : None ≡ Some x = e in cc
holds_of len list before all stop x rows (Some y) valid e is le =
    let same : y ≡ x = cc in subst (λ f. Holds len list before f stop rows.starts.items) same (holds_upto len list before y all stop rows valid is le)

pub stays_of : (len : ℕ) (list : List LineBreak) (before all : ℕ) (rows next : Rows) (first : Option ℕ) → IsBreakList len list → (first ≡ None → ⊥) → HoldsRows len list before all rows first
    → IsHeld len list next.top next.known next.starts.items next.heads.items → next.top ≡ rows.top → rows.known ≤ next.known → AllStay rows.starts.items next.starts.items
stays_of len list before all rows next None valid some is held top further = absurd (some refl)
stays_of len list before all rows next (Some x) valid some is held top further = stays_all _ _ (stays_more len list rows next valid is.held held top further)

-- every row start is kept, from the first on to before a known place
pub kept_upto : (len : ℕ) (list : List LineBreak) (before whole stop x : ℕ) (rows : Rows) (first : Option ℕ) → IsBreakList len list → first ≡ Some x → HoldsRows len list before whole rows first
    → stop ≤ rows.known → AreKeptUpTo len list (row_of list x - before) rows.starts.items stop
kept_upto len list before whole stop x rows first valid e is le = λ r low high under.
    let within = holds_of len list before whole stop x rows first valid e is le r low high under in
    let kept = subst (λ f. AreKept len list before f rows.starts.items) e (kept_is len list before whole rows first valid is) (r - (row_of list x - before)) len within in
    let place : row_of list x - before + (r - (row_of list x - before)) ≡ r = omega (arith, low) in
    (within, kept.0 ∙ ap (row_start len list) place)

-- the same under another name for the rows of context
pub kept_was : (len : ℕ) (list : List LineBreak) (before now whole : ℕ) (rows : Rows) (first : Option ℕ) → now ≡ before → IsBreakList len list → HoldsRows len list now whole rows first
    → AreKept len list before first rows.starts.items
kept_was len list before now whole rows first e valid is = subst (λ b. AreKept len list b first rows.starts.items) e (kept_is len list now whole rows first valid is)

pub kept_upto_was : (len : ℕ) (list : List LineBreak) (before now whole stop x : ℕ) (rows : Rows) (first : Option ℕ) → now ≡ before → IsBreakList len list → first ≡ Some x
    → HoldsRows len list now whole rows first → stop ≤ rows.known → AreKeptUpTo len list (row_of list x - before) rows.starts.items stop
kept_upto_was len list before now whole stop x rows first same valid e is le =
    subst (λ b. AreKeptUpTo len list (row_of list x - b) rows.starts.items stop) same (kept_upto len list now whole stop x rows first valid e is le)

-- what stays twice stays
pub all_stay_on : (a b c : List ℕ) → AllStay a b → AllStay b c → AllStay a c
all_stay_on [] b c first second = refl
all_stay_on (x ∷ a) [] c first second = let no_way : [] ≡ x ∷ a = first in cc
all_stay_on (x ∷ a) (y ∷ b) [] first second = let no_way : [] ≡ y ∷ b = second in cc
all_stay_on (x ∷ a) (y ∷ b) (z ∷ c) first second =
    let tails : take (length a) b ≡ a = cons_tail y (take (length a) b) x a first in
    let heads : y ≡ x = cons_head y (take (length a) b) x a first in
    let later : take (length b) c ≡ b = cons_tail z (take (length b) c) y b second in
    let front : z ≡ y = cons_head z (take (length b) c) y b second in
    ap (λ v. v ∷ take (length a) c) (front ∙ heads) ∙ ap (λ l. x ∷ l) (all_stay_on a b c tails later)
  where
    cons_head : (x : ℕ) (xs : List ℕ) (y : ℕ) (ys : List ℕ) → x ∷ xs ≡ y ∷ ys → x ≡ y
    cons_head x xs y ys e = cc

    cons_tail : (x : ℕ) (xs : List ℕ) (y : ℕ) (ys : List ℕ) → x ∷ xs ≡ y ∷ ys → xs ≡ ys
    cons_tail x xs y ys e = cc

stays_at : (old new : List ℕ) → AllStay old new → Stays old new
stays_at old new stay = λ i d lt.
    let size : length (take (length old) new) ≡ length old = ap length stay in
    let long = length-take (length old) new in
    let there : i < length new = within i (length old) (length new) (omega (arith, size, long)) lt in
    (there, sym (get_or-take (length old) new i d lt) ∙ ap (λ l. get_or l i d) stay)
  where
    within : (i a b : ℕ) → min a b ≡ a → i < a → i < b
    within i a b e lt = grind (arith, e)

kept_longer : (len : ℕ) (list : List LineBreak) (from stop : ℕ) (old new : List ℕ) → AllStay old new → AreKeptUpTo len list from old stop → AreKeptUpTo len list from new stop
kept_longer len list from stop old new stay keeps = λ row low high under.
    let here = keeps row low high under in
    let there = stays_at old new stay (row - from) len here.0 in
    (there.0, there.1 ∙ here.1)

-- what a scanner keeps up to a place it keeps from then on
pub keeps_on : (old new : Scan) (stop : ℕ) → IsSameReader old new → AllStay old.kept new.kept → ((first : ℕ) → new.first ≡ Some first → old.first ≡ Some first)
    → KeepsUpTo old stop → KeepsUpTo new stop
keeps_on old new stop same stay before keeps = λ first e.
    subst (λ input. AreKeptUpTo (length input) (breaks_of input) (row_of (breaks_of input) first - new.before) new.kept stop) (sym same.input)
    (subst (λ b. AreKeptUpTo (length old.input) (breaks_of old.input) (row_of (breaks_of old.input) first - b) new.kept stop) (sym same.before)
    (kept_longer (length old.input) (breaks_of old.input) (row_of (breaks_of old.input) first - old.before) stop old.kept new.kept stay (keeps first (before first e))))

-- what an index says that it keeps up to the end of a window, for whichever name the first start has
pub keeps_of : (len : ℕ) (list : List LineBreak) (before now : ℕ) (found : Option Window) (w : Window) (first other stop : ℕ) (seen : Option ℕ) (kept : List ℕ) → now ≡ before
    → found ≡ Some w → stop ≡ w.end → seen ≡ Some first → seen ≡ Some other → IfSome found (λ v. AreKeptUpTo len list (row_of list first - before) kept v.end)
    → AreKeptUpTo len list (row_of list other - now) kept stop
keeps_of len list before now found w first other stop seen kept same is ends e f keeps =
    let both : Some first ≡ Some other = sym e ∙ f in
    let one : first ≡ other = cc in
    let here : AreKeptUpTo len list (row_of list first - before) kept w.end = subst (λ o. IfSome o (λ v. AreKeptUpTo len list (row_of list first - before) kept v.end)) is keeps in
    subst (λ b. AreKeptUpTo len list (row_of list other - b) kept stop) (sym same)
    (subst (λ x. AreKeptUpTo len list (row_of list x - before) kept stop) one (subst (λ z. AreKeptUpTo len list (row_of list first - before) kept z) (sym ends) here))

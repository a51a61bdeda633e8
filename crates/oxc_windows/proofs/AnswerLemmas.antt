-- What an index that was searched far enough answers.
use Rattle.std.proofs.Common.{◌≡◌, ℕ, ◌+◌, ◌-◌, ◌<◌, ◌≤◌, List, length, get_or, Some, min, refl, sym, ap, subst, ◌∙◌, arith, ⊎_elim}
use Rattle.std.proofs.lemmas.Bool.{cases_lt}
use Rattle.oxc_windows.specs.declared.breaks.LineBreak.{LineBreak}
use Rattle.oxc_windows.specs.declared.window.Window.{Window}
use Rattle.oxc_windows.specs.Breaks.{IsBreakList}
use Rattle.oxc_windows.specs.Rows.{row_of, row_start, is_second_byte}
use Rattle.oxc_windows.specs.Window.{window_of, window_end}
use Rattle.oxc_windows.specs.Held.{IsHeld}
use Rattle.oxc_windows.specs.Seen.{AreInOrder, end_seen, heads_before, row_seen, seen, settled_seen}
use Rattle.oxc_windows.proofs.RowsLemmas.{few_in_text, row_le}
use Rattle.oxc_windows.proofs.SeenLemmas.{row_held, settled_held, start_held, started}
use Rattle.oxc_windows.proofs.ExactLemmas.{begin_low, column_low, end_bounds, end_by, end_exact, seen_exact, started_same}
use Rattle.oxc_windows.proofs.IndexLemmas.{kept_few}
use Rattle.oxc_windows.proofs.StartsLemmas.{end_seen_is, heads_before_is, heads_long, noted, noted_order, row_seen_is, seen_is, settled_seen_is, starts_noted_long}
use Rattle.oxc_windows.proofs.MostLemmas.{want_row}

-- an index that was searched far enough for a span
pub record IsReady (len : ℕ) (list : List LineBreak) (top known : ℕ) (starts heads : List ℕ) (before after start end : ℕ) : Type 0 where
  pub valid : IsBreakList len list
  pub held : IsHeld len list top known starts heads
  pub line : top ≤ row_of list start - before
  pub ordered : start ≤ end
  pub within : end ≤ len
  pub reached : known < end - 1 + 1 → known ≡ len
  pub gathered : 0 < after → length heads < heads_before heads (end - 1 + 1) + after + 1 → known ≡ len

low_of : (len : ℕ) (list : List LineBreak) (top known : ℕ) (starts heads : List ℕ) (before after start end : ℕ) (r : IsReady len list top known starts heads before after start end)
    → r.held.held.begin ≤ start
low_of len list top known starts heads before after start end r =
    subst (λ b. b ≤ start) (sym r.held.held.begins) (begin_low len list top start r.valid.ordered (omega (arith, r.line)))

gathered_by : (len : ℕ) (list : List LineBreak) (top known : ℕ) (starts heads : List ℕ) (before after start end : ℕ) (r : IsReady len list top known starts heads before after start end)
    → 0 < after → length r.held.kept < started r.held.kept (end - 1 + 1) + after + 1 → known ≡ len
gathered_by len list top known starts heads before after start end r some short =
    let n = noted len list top known starts heads r.valid.ordered r.held in
    let long = heads_long r.held.held.begin r.held.kept starts heads n in
    let same = heads_before_is r.held.held.begin r.held.kept starts heads (end - 1 + 1) n in
    r.gathered some (omega (arith, short, long, same))

upto_of : (len : ℕ) (list : List LineBreak) (top known : ℕ) (starts heads : List ℕ) (before after start end : ℕ) (r : IsReady len list top known starts heads before after start end)
    → start ≤ known
upto_of len list top known starts heads before after start end r =
    let ordered = r.ordered in
    let within = r.within in
    ⊎_elim (λ lt. omega (arith, r.reached lt, ordered, within)) (λ ge. omega (arith, ge, ordered)) (cases_lt known (end - 1 + 1))

-- what the code asks of it
pub record IsSearched (len top : ℕ) (starts heads : List ℕ) (before start : ℕ) : Type 0 where
  pub order : AreInOrder starts heads
  pub few : top + length starts ≤ len + 1
  pub above : top ≤ top + row_seen starts start - before
  pub column : get_or starts (row_seen starts start) len ≤ settled_seen starts heads start

pub searched : (len : ℕ) (list : List LineBreak) (top known : ℕ) (starts heads : List ℕ) (before after start end : ℕ) → IsReady len list top known starts heads before after start end
    → IsSearched len top starts heads before start
searched len list top known starts heads before after start end r =
    let ok = r.valid.ordered in
    let h = r.held.held in
    let kept = r.held.kept in
    let n = noted len list top known starts heads ok r.held in
    let low = low_of len list top known starts heads before after start end r in
    let here = row_held len list top known starts kept start ok h low (upto_of len list top known starts heads before after start end r) in
    let place = row_seen_is h.begin kept starts heads start n low in
    let few = row_le kept start in
    let own : row_start len list (row_of list start) ≡ get_or starts (row_of kept start) len =
    ap (row_start len list) here ∙ start_held len list top known starts kept (row_of kept start) r.valid h (λ past. absurd (omega (arith, past, few))) in
    let settles = settled_held len list top known starts kept start ok h low (upto_of len list top known starts heads before after start end r) in
    let settled_same = settled_seen_is h.begin kept starts heads start n low in
    let seen_start : get_or starts (row_seen starts start) len ≡ get_or starts (row_of kept start) len = ap (λ k. get_or starts k len) place in
    let line = r.line in
    record {
      order = noted_order h.begin kept starts heads n;
      few = omega (arith, starts_noted_long h.begin kept starts heads n, kept_few len list top known starts kept h, few_in_text len list r.valid);
      above = omega (arith, line, here, place);
      column = omega (arith, column_low len list start ok (is_second_byte list start) refl, own, settles, settled_same, seen_start);
    }

-- the window that the code gives
pub seen_window : (len : ℕ) (list : List LineBreak) (top known : ℕ) (starts heads : List ℕ) (before after start end size : ℕ) (w : Window)
    → IsReady len list top known starts heads before after start end → size ≡ len → w ≡ seen size top starts heads before after start end
    → window_of len list before after start end ≡ Some w
seen_window len list top known starts heads before after start end size w r same e =
    let h = r.held.held in
    let low = low_of len list top known starts heads before after start end r in
    let gathered = gathered_by len list top known starts heads before after start end r in
    let bounds = end_bounds len list top known starts r.held.kept after end r.valid h (omega (arith, low, r.ordered)) r.within r.reached gathered in
    seen_exact len list top known starts r.held.kept before after start end r.valid h low r.line r.ordered r.within r.reached gathered
    ∙ ap (λ v. Some v) (sym (seen_is len top h.begin r.held.kept starts heads before after start end (noted len list top known starts heads r.valid.ordered r.held) low bounds.0))
    ∙ ap (λ m. Some (seen m top starts heads before after start end)) (sym same) ∙ ap (λ v. Some v) (sym e)

end_of_seen : (len top : ℕ) (starts heads : List ℕ) (before after start end : ℕ) → (seen len top starts heads before after start end).end ≡ end_seen len starts heads after end
unfolding seen
end_of_seen len top starts heads before after start end = refl

end_is : (len : ℕ) (list : List LineBreak) (top known : ℕ) (starts heads : List ℕ) (before after start end size : ℕ) (w : Window)
    → (r : IsReady len list top known starts heads before after start end) → size ≡ len → w ≡ seen size top starts heads before after start end
    → w.end ≡ end_by len starts r.held.kept after end
end_is len list top known starts heads before after start end size w r same e =
    ap (λ v. v.end) e ∙ end_of_seen size top starts heads before after start end ∙ ap (λ m. end_seen m starts heads after end) same
    ∙ end_seen_is len r.held.held.begin r.held.kept starts heads after end (noted len list top known starts heads r.valid.ordered r.held)

-- it ends within what is known
pub seen_known : (len : ℕ) (list : List LineBreak) (top known : ℕ) (starts heads : List ℕ) (before after start end size : ℕ) (w : Window)
    → IsReady len list top known starts heads before after start end → size ≡ len → w ≡ seen size top starts heads before after start end
    → w.end ≤ known
seen_known len list top known starts heads before after start end size w r same e =
    let low = low_of len list top known starts heads before after start end r in
    let bounds = end_bounds len list top known starts r.held.kept after end r.valid r.held.held (omega (arith, low, r.ordered)) r.within r.reached (gathered_by len list top known starts heads before after start end r) in
    let stop = end_is len list top known starts heads before after start end size w r same e in
    omega (arith, stop, bounds.1)

-- it ends where the window ends
pub seen_end_is : (len : ℕ) (list : List LineBreak) (top known : ℕ) (starts heads : List ℕ) (before after start end size : ℕ) (w : Window)
    → IsReady len list top known starts heads before after start end → size ≡ len → w ≡ seen size top starts heads before after start end
    → w.end ≡ window_end len list after end
seen_end_is len list top known starts heads before after start end size w r same e =
    let low = low_of len list top known starts heads before after start end r in
    let exact = end_exact len list top known starts r.held.kept after end r.valid r.held.held (omega (arith, low, r.ordered)) r.reached (gathered_by len list top known starts heads before after start end r) in
    end_is len list top known starts heads before after start end size w r same e ∙ sym exact

-- breaks that start before a known place stay as many
pub heads_same : (len : ℕ) (list : List LineBreak) (top known more : ℕ) (starts next heads longer : List ℕ) (to : ℕ) → IsBreakList len list
    → IsHeld len list top known starts heads → IsHeld len list top more next longer → row_start len list top ≤ to → min len to ≤ known → known ≤ more
    → heads_before longer to ≡ heads_before heads to
heads_same len list top known more starts next heads longer to valid h g low reached further =
    heads_before_is g.held.begin g.kept next longer to (noted len list top more next longer valid.ordered g)
    ∙ started_same len list top known more starts next h.kept g.kept to valid h.held g.held low reached further
    ∙ sym (heads_before_is h.held.begin h.kept starts heads to (noted len list top known starts heads valid.ordered h))

-- the row that is wanted, by what is held
pub wanted_row : (len : ℕ) (list : List LineBreak) (top known : ℕ) (starts heads : List ℕ) (to after : ℕ) → IsBreakList len list
    → IsHeld len list top known starts heads → row_start len list top ≤ to → min len to ≤ known → top + (heads_before heads to + after + 1) ≡ started list to + after + 1
wanted_row len list top known starts heads to after valid h low reached =
    let e = heads_before_is h.held.begin h.kept starts heads to (noted len list top known starts heads valid.ordered h) in
    let f = want_row len list top known starts h.kept to after valid h.held low reached in
    omega (arith, e, f)

-- A part with the page before it or behind it.
use Rattle.std.proofs.Common.{◌≡◌, ℕ, ◌+◌, ◌-◌, ◌≤◌, ◌<◌, List, [], ◌++◌, length, drop, get_or, sym, ap, subst, ◌∙◌, arith, append_assoc}
use Rattle.std.proofs.lemmas.List.{drop_all, get_or_append_left, get_or_past}
use Rattle.text_places.specs.Pages.{most_bytes, least_bytes, bytes_in, text_of, front_of, ArePages}
use Rattle.text_places.specs.Mending.{IsBetween}
use Rattle.text_places.specs.declared.page.Page.{Page}
use Rattle.text_places.proofs.PagesLemmas.{rest-more, front-more, text-nil, cut_before, cut_behind, last_behind}

-- how many bytes a page has
pub page_most : (pages : List Page) (k : ℕ) (p : Page) → ArePages pages → k < length pages → p ≡ get_or pages k p → length (bytes_in p) ≤ most_bytes
page_most pages k p ok h is = subst (λ (q : Page). length (bytes_in q) ≤ most_bytes) (sym is) (ok.filled.most k p h)

pub page_least : (pages : List Page) (k : ℕ) (p : Page) → ArePages pages → 1 < length pages → k < length pages → p ≡ get_or pages k p → least_bytes ≤ length (bytes_in p)
page_least pages k p ok more h is = subst (λ (q : Page). least_bytes ≤ length (bytes_in q)) (sym is) (ok.filled.least more k p h)

pub next_between : (pages : List Page) (first last start end : ℕ) (insert text : List ℕ) (p : Page) → ArePages pages → last + 1 < length pages → p ≡ get_or pages (last + 1) p
    → IsBetween pages first last start end insert text → IsBetween pages first (last + 1) start end insert (text ++ bytes_in p)
next_between pages first last start end insert text p ok h is between =
    let b = bytes_in (get_or pages (last + 1) p) in
    let r = text_of (drop (last + 1 + 1) pages) in
    let f = front_of pages first in
    let rest = rest-more pages (last + 1) p h in
    let some : 0 < length b = omega (arith, ok.filled.least (omega (arith, h)) (last + 1) p h) in
    let moved : (text ++ b) ++ r ≡ text ++ text_of (drop (last + 1) pages) = append_assoc text b r ∙ ap (λ l. text ++ l) (sym rest) in
    subst (λ (q : Page). IsBetween pages first (last + 1) start end insert (text ++ bytes_in q)) (sym is) (record {
      ordered = omega (arith, between.ordered);
      within = h;
      whole = ap (λ l. f ++ l) moved ∙ between.whole;
      ahead = λ cr lf. between.ahead cr (sym (ap (λ l. get_or l 0 0) moved) ∙ lf);
      behind = λ cr lf. cut_behind pages (last + 1) p ok h (sym (last_behind text b some) ∙ cr) lf;
    })

pub previous_between : (pages : List Page) (first last start end : ℕ) (insert text : List ℕ) (p : Page) → ArePages pages → 0 < first → last + 1 ≡ length pages → p ≡ get_or pages (first - 1) p
    → IsBetween pages first last start end insert text → IsBetween pages (first - 1) last start end insert (bytes_in p ++ text)
previous_between pages first last start end insert text p ok some all is between =
    let k = first - 1 in
    let b = bytes_in (get_or pages k p) in
    let r = text_of (drop (last + 1) pages) in
    let f = front_of pages k in
    let h : k < length pages = omega (arith, between.ordered, between.within) in
    let back : k + 1 ≡ first = omega (arith, some) in
    let front : front_of pages first ≡ f ++ b = ap (front_of pages) (sym back) ∙ front-more pages k p h in
    let size : 0 < length b = omega (arith, ok.filled.least (omega (arith, some, between.ordered, between.within)) k p h) in
    let none : r ≡ text_of [] = ap text_of (drop_all (last + 1) pages (omega (arith, all))) in
    let moved : (b ++ text) ++ r ≡ b ++ (text ++ r) = append_assoc b text r in
    subst (λ (q : Page). IsBetween pages k last start end insert (bytes_in q ++ text)) (sym is) (record {
      ordered = omega (arith, between.ordered);
      within = between.within;
      whole = ap (λ l. f ++ l) moved ∙ sym (append_assoc f b (text ++ r)) ∙ ap (λ l. l ++ (text ++ r)) (sym front) ∙ between.whole;
      ahead = λ cr lf. cut_before pages k p ok h cr (sym (ap (λ l. get_or l 0 0) moved ∙ get_or_append_left b (text ++ r) 0 0 size) ∙ lf);
      behind = λ cr lf. omega (arith, lf, get_or_past r 0 0 (omega (arith, ap length none, ap length text-nil)));
    })

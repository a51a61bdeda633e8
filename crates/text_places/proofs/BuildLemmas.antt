-- Pages made of a text.
use Rattle.std.proofs.Common.{◌≡◌, ℕ, ◌+◌, ◌-◌, ◌^◌, ◌<◌, ◌≤◌, List, [], ◌∷◌, ◌++◌, length, take, drop, get_or, refl, sym, ap, subst, ◌∙◌, arith, suc, zero, ⊎_elim, append_assoc, append-nil, add-one, set}
use Rattle.std.specs.Str.{IsUtf8, IsCharBoundary}
use Rattle.std.proofs.lemmas.Bool.{cases_lt}
use Rattle.std.proofs.lemmas.List.{drop_more, drop_at, take-append-drop, length-take-le, length-drop, take_more, take_all, length-append, get_or-append-add, get_or_append_left, get_or_past, take_at, take-append-le, get_or_at, get_or_push}
use Rattle.std.proofs.lemmas.Str.{IsUtf8-drop, IsUtf8-append, IsUtf8-past_char, drop_past_char, length-encode, len_utf8_bounds, IsCharBoundary-start, IsCharBoundary-from_rest}
use Rattle.std.proofs.lemmas.List.Elements.{All-push, All-same}
use Rattle.std.specs.List.{All}
use Rattle.std.specs.Char.{len_utf8}
use lib.Utf8.{encode, encodes}
use Rattle.source_location.specs.Index.{Fits}
use Rattle.std.proofs.Math.Seq.{take-add}
use Rattle.source_location.proofs.BreaksLemmas.{few_breaks}
use Rattle.source_location.proofs.CutLemmas.{PartsNone}
use Rattle.text_places.specs.Pages.{most_bytes, least_bytes, bytes_in, text_of, front_of, counts_of, IsCleanAt, IsCounted, AreFilled, IsPaged}
use Rattle.text_places.specs.Building.{plus, total, recounted, IsPageEnd, IsPageOf, ArePagesOf, AreSmall}
use Rattle.text_places.specs.declared.encoding.Encoding.TheVariants.{Utf16, Utf32}
use Rattle.text_places.specs.declared.page.Counts.{Counts}
use Rattle.text_places.specs.declared.page.Page.{Page}
use Rattle.text_places.proofs.UnitsLemmas.{begun-append, begun-le-length}
use Rattle.text_places.proofs.EndLemmas.{rows_all}
use Rattle.text_places.proofs.PagesLemmas.{rest-more, counts-bytes, counts-rows, text-append, text-one, text-nil, text-cons, text_utf8, split, front-more, front-all, length-breaks-append}

pub ruleset whole = (rows_all, few_breaks, begun-le-length)

-- the pages of the front of a text, and what is left of it
pub record ArePagesSoFar (text : List ℕ) (pages : List Page) (left : List ℕ) : Type 0 where
  pub whole : text_of pages ++ left ≡ text
  pub own : (k : ℕ) (d : Page) → k < length pages → (get_or pages k d).own ≡ counts_of (bytes_in (get_or pages k d))
  pub clean : (k : ℕ) → k ≤ length pages → IsCleanAt text (length (front_of pages k))
  pub most : All (λ page. length (bytes_in page) ≤ most_bytes) pages
  pub least : All (λ page. least_bytes ≤ length (bytes_in page)) pages
  pub rest : 0 < length pages → least_bytes ≤ length left
  pub short : length left ≤ length text
  pub utf8 : IsUtf8 left

pub so_far_none : (text : List ℕ) → IsUtf8 text → ArePagesSoFar text [] text
so_far_none text utf8 = record {
  whole = ap (λ l. l ++ text) text-nil;
  own = λ k d h. absurd (omega (arith, h));
  clean = λ k h some. absurd (omega (arith, some, ap length (ap text_of (take_all k [] (omega arith)) ∙ text-nil)));
  most = λ k d h. absurd (omega (arith, h));
  least = λ k d h. absurd (omega (arith, h));
  rest = λ h. absurd (omega (arith, h));
  short = omega arith;
  utf8 = utf8;
}

-- a page more, of the text or of what is left
own_more : (pages : List Page) (page : Page) → ((k : ℕ) (d : Page) → k < length pages → (get_or pages k d).own ≡ counts_of (bytes_in (get_or pages k d))) → page.own ≡ counts_of (bytes_in page)
    → (k : ℕ) (d : Page) → k < length (pages ++ page ∷ []) → (get_or (pages ++ page ∷ []) k d).own ≡ counts_of (bytes_in (get_or (pages ++ page ∷ []) k d))
own_more pages page own one k d h =
    ⊎_elim
    (λ lt. subst (λ (p : Page). p.own ≡ counts_of (bytes_in p)) (sym (get_or_append_left pages (page ∷ []) d k lt)) (own k d lt))
    (λ ge. subst (λ (p : Page). p.own ≡ counts_of (bytes_in p)) (sym (get_or_push pages page d k (omega (arith, ge, h, length-append pages (page ∷ []))))) one)
    (cases_lt k (length pages))

front_kept : (pages : List Page) (page : Page) (k : ℕ) → k ≤ length pages → front_of (pages ++ page ∷ []) k ≡ front_of pages k
front_kept pages page k h = ap text_of (take-append-le k pages (page ∷ []) h)

pub page_own : (text : List ℕ) (page : Page) → IsPageOf text page → page.own ≡ counts_of (bytes_in page)
page_own text page is = is.own ∙ ap counts_of (sym is.whole)

text_pushed : (pages : List Page) (page : Page) → text_of (pages ++ page ∷ []) ≡ text_of pages ++ bytes_in page
text_pushed pages page = text-append pages (page ∷ []) ∙ ap (λ l. text_of pages ++ l) (text-one page)

-- a clean cut of what is left is one of the text
pub clean_behind : (front rest : List ℕ) (at : ℕ) → 0 < at → IsCleanAt rest at → IsCleanAt (front ++ rest) (length front + at)
clean_behind front rest at some clean gt cr lf =
    let back : length front + at - 1 ≡ length front + (at - 1) = omega arith in
    clean some (sym (get_or-append-add front rest (at - 1) 0) ∙ ap (λ k. get_or (front ++ rest) k 0) (sym back) ∙ cr) (sym (get_or-append-add front rest at 0) ∙ lf)

pub so_far_more : (text : List ℕ) (pages more : List Page) (page : Page) (rest front back : List ℕ) (at : ℕ) → ArePagesSoFar text pages rest → IsPageOf front page
    → front ≡ take at rest → back ≡ drop at rest → IsPageEnd rest at → more ≡ pages ++ page ∷ [] → ArePagesSoFar text more back
so_far_more text pages more page rest front back at so is fronts backs end pushed =
    let some : 0 < at = omega (arith, end.least) in
    let within : at ≤ length rest = omega (arith, end.rest) in
    let joined : text_of more ++ back ≡ text =
    ap (λ l. text_of l ++ back) pushed ∙ ap (λ l. l ++ back) (text_pushed pages page) ∙ append_assoc (text_of pages) (bytes_in page) back
    ∙ ap (λ l. text_of pages ++ l) (ap (λ l. l ++ back) (is.whole ∙ fronts) ∙ ap (λ l. take at rest ++ l) backs ∙ take-append-drop at rest) ∙ so.whole in
    let size : length (bytes_in page) ≡ at = ap length (is.whole ∙ fronts) ∙ length-take-le at rest within in
    record {
      whole = joined;
      own = subst (λ (l : List Page). (k : ℕ) (d : Page) → k < length l → (get_or l k d).own ≡ counts_of (bytes_in (get_or l k d))) (sym pushed) (own_more pages page so.own (page_own front page is));
      clean = subst (λ (l : List Page). (k : ℕ) → k ≤ length l → IsCleanAt text (length (front_of l k))) (sym pushed) (λ k h.
          ⊎_elim
          (λ lt. subst (λ n. IsCleanAt text n) (ap length (sym (front_kept pages page k (omega arith)))) (so.clean k (omega arith)))
          (λ ge.
          let last : length (front_of (pages ++ page ∷ []) k) ≡ length (text_of pages) + at =
          ap length (front-all (pages ++ page ∷ []) k (omega (arith, ge, length-append pages (page ∷ []))) ∙ text_pushed pages page) ∙ length-append (text_of pages) (bytes_in page) ∙ ap (λ n. length (text_of pages) + n) size in
          subst (λ n. IsCleanAt text n) (sym last) (subst (λ t. IsCleanAt t (length (text_of pages) + at)) so.whole (clean_behind (text_of pages) rest at some end.clean)))
          (cases_lt k (length pages + 1)));
      most = All-same (λ (p : Page). length (bytes_in p) ≤ most_bytes) more (pages ++ page ∷ []) pushed (All-push (λ (p : Page). length (bytes_in p) ≤ most_bytes) pages page so.most (omega (arith, size, end.most)));
      least = All-same (λ (p : Page). least_bytes ≤ length (bytes_in p)) more (pages ++ page ∷ []) pushed (All-push (λ (p : Page). least_bytes ≤ length (bytes_in p)) pages page so.least (omega (arith, size, end.least)));
      rest = λ _. omega (arith, end.rest, ap length backs, length-drop at rest);
      short = omega (arith, so.short, ap length backs, length-drop at rest);
      utf8 = subst IsUtf8 (sym backs) (IsUtf8-drop rest at so.utf8 end.boundary);
    }

no_text : (pages : List Page) → length pages ≡ 0 → length (text_of pages) ≡ 0
no_text [] none = ap length text-nil
no_text (page ∷ pages) none = absurd (omega (arith, none))

pub so_far_all : (text : List ℕ) (pages all : List Page) (page : Page) (rest : List ℕ) → ArePagesSoFar text pages rest → IsPageOf rest page → length rest ≤ most_bytes → all ≡ pages ++ page ∷ [] → ArePagesOf text all
so_far_all text pages all page rest so is few pushed =
    let size : length (bytes_in page) ≡ length rest = ap length is.whole in
    let count : length (pages ++ page ∷ []) ≡ length pages + 1 = length-append pages (page ∷ []) in
    subst (ArePagesOf text) (sym pushed) (record {
      some = omega (arith, count);
      whole = text_pushed pages page ∙ ap (λ l. text_of pages ++ l) is.whole ∙ so.whole;
      own = own_more pages page so.own (page_own rest page is);
      clean = λ k h. subst (λ n. IsCleanAt text n) (ap length (sym (front_kept pages page k (omega (arith, h, count))))) (so.clean k (omega (arith, h, count)));
      most = All-push (λ (p : Page). length (bytes_in p) ≤ most_bytes) pages page so.most (omega (arith, size, few));
      least = λ long.
          All-push (λ (p : Page). least_bytes ≤ length (bytes_in p)) pages page so.least
          (⊎_elim (λ some. omega (arith, so.rest some, size)) (λ none. omega (arith, size, long, ap length so.whole, length-append (text_of pages) rest, no_text pages (omega (arith, none)))) (cases_lt 0 (length pages)));
      one = λ short. ⊎_elim (λ some. absurd (omega (arith, so.rest some, so.short, short))) (λ none. omega (arith, count, none)) (cases_lt 0 (length pages));
    })

-- a boundary is near each byte of a text
near_boundary : (cs bs : List ℕ) (i : ℕ) → IsUtf8 bs → encodes cs ≡ bs → i < length bs → (o : ℕ) × IsCharBoundary bs o × (o ≤ i) × (i ≤ o + 3)
near_boundary [] bs i utf8 is lt = absurd (omega (arith, lt, ap length is))
near_boundary (c ∷ cs) bs i utf8 is lt =
    let n = len_utf8 c in
    let bounds = len_utf8_bounds c in
    let rest = encodes cs in
    let size : length bs ≡ n + length rest = omega (arith, ap length is, length-append (encode c) rest, length-encode c) in
    ⊎_elim
    (λ first. (0, IsCharBoundary-start bs utf8, omega arith, omega (arith, first, bounds.1)))
    (λ later.
    let next = near_boundary cs rest (i - n) (IsUtf8-past_char bs rest c utf8 (sym is)) refl (omega (arith, later, lt, size)) in
    let behind : drop n bs ≡ rest = ap (λ k. drop k bs) (let e : n ≡ 0 + n = omega arith in e) ∙ drop_past_char bs rest 0 c (sym is) in (
      n + next.0,
      IsCharBoundary-from_rest bs n next.0 (omega (arith, size)) (subst (λ l. IsCharBoundary l next.0) (sym behind) next.1),
      omega (arith, next.2, later),
      omega (arith, next.3),
    ))
    (cases_lt i n)

pub floor_near : (bs : List ℕ) (i r : ℕ) → IsUtf8 bs → i < length bs → ((j : ℕ) → r < j → j ≤ i → ¬ IsCharBoundary bs j) → i ≤ r + 3
floor_near bs i r utf8 lt none =
    let near = near_boundary utf8.0 bs i utf8 utf8.1.1 lt in
    ⊎_elim (λ past. absurd (none near.0 past near.2 near.1)) (λ le. omega (arith, le, near.3)) (cases_lt r near.0)

-- pages counted again
pub total-append : (at : Counts) (xs ys : List Page) → total at (xs ++ ys) ≡ total (total at xs) ys
total-append at [] ys = refl
total-append at (x ∷ xs) ys = total-append (plus at x.own) xs ys

pub recounted-append : (at : Counts) (xs ys : List Page) → recounted at (xs ++ ys) ≡ recounted at xs ++ recounted (total at xs) ys
recounted-append at [] ys = refl
recounted-append at (x ∷ xs) ys = ap (λ l. (record x { before = at }) ∷ l) (recounted-append (plus at x.own) xs ys)

pub length-recounted : (at : Counts) (xs : List Page) → length (recounted at xs) ≡ length xs
length-recounted at [] = refl
length-recounted at (x ∷ xs) = omega (arith, length-recounted (plus at x.own) xs)

pub recounted-text : (at : Counts) (xs : List Page) → text_of (recounted at xs) ≡ text_of xs
recounted-text at [] = refl
recounted-text at (x ∷ xs) = text-cons (record x { before = at }) (recounted (plus at x.own) xs) ∙ ap (λ l. bytes_in x ++ l) (recounted-text (plus at x.own) xs) ∙ sym (text-cons x xs)

pub total_more : (at : Counts) (xs : List Page) (i : ℕ) (d : Page) → i < length xs → total at (take (i + 1) xs) ≡ plus (total at (take i xs)) (get_or xs i d).own
total_more at xs i d h = ap (total at) (take_more xs i d h) ∙ total-append at (take i xs) (get_or xs i d ∷ [])

pub recounted_more : (at : Counts) (xs : List Page) (i : ℕ) (d : Page) → i < length xs → recounted at (take (i + 1) xs) ≡ recounted at (take i xs) ++ (record (get_or xs i d) { before = total at (take i xs) }) ∷ []
recounted_more at xs i d h = ap (recounted at) (take_more xs i d h) ∙ recounted-append at (take i xs) (get_or xs i d ∷ [])

-- the page that is counted next, and what is written there
next_pages : (at : Counts) (xs now : List Page) (i : ℕ) (d : Page) → now ≡ recounted at (take i xs) ++ drop i xs → i < length xs → now ≡ recounted at (take i xs) ++ get_or xs i d ∷ drop (i + 1) xs
next_pages at xs now i d e h = e ∙ ap (λ l. recounted at (take i xs) ++ l) (drop_more xs i d h)

front_size : (at : Counts) (xs : List Page) (i : ℕ) → i < length xs → length (recounted at (take i xs)) ≡ i
front_size at xs i h = length-recounted at (take i xs) ∙ length-take-le i xs (omega arith)

pub next_page : (at : Counts) (xs now : List Page) (i : ℕ) (d : Page) → now ≡ recounted at (take i xs) ++ drop i xs → i < length xs → get_or now i d ≡ get_or xs i d
next_page at xs now i d e h =
    ap (λ l. get_or l i d) (next_pages at xs now i d e h) ∙ get_or_at (recounted at (take i xs)) (get_or xs i d) (drop (i + 1) xs) d i (front_size at xs i h)

pub counted_next : (at sum : Counts) (xs now : List Page) (i : ℕ) (d v : Page) → now ≡ recounted at (take i xs) ++ drop i xs → sum ≡ total at (take i xs) → i < length xs
    → v ≡ record (get_or now i d) { before = sum } → set now i v ≡ recounted at (take (i + 1) xs) ++ drop (i + 1) xs
counted_next at sum xs now i d v e total_is h value =
    let p : Page = record (get_or xs i d) { before = total at (take i xs) } in
    let same : v ≡ p = value ∙ ap {B = Page} (λ (q : Page). record q { before = sum }) (next_page at xs now i d e h) ∙ ap {B = Page} (λ (c : Counts). record (get_or xs i d) { before = c }) total_is in
    ap (λ l. set l i v) (next_pages at xs now i d e h)
    ∙ set_at (recounted at (take i xs)) (get_or xs i d) v (drop (i + 1) xs) i (front_size at xs i h)
    ∙ ap (λ q. recounted at (take i xs) ++ q ∷ drop (i + 1) xs) same
    ∙ sym (append_assoc (recounted at (take i xs)) (p ∷ []) (drop (i + 1) xs))
    ∙ ap (λ l. l ++ drop (i + 1) xs) (sym (recounted_more at xs i d h))
  where
    set_at : (ps : List Page) (x y : Page) (ys : List Page) (n : ℕ) → length ps ≡ n → set (ps ++ x ∷ ys) n y ≡ ps ++ y ∷ ys
    set_at [] x y ys n size = ap (λ k. set (x ∷ ys) k y) (sym size)
    set_at (p ∷ ps) x y ys zero size = absurd (omega (arith, size))
    set_at (p ∷ ps) x y ys (suc n) size = ap (λ l. p ∷ l) (set_at ps x y ys n (omega (arith, size)))

pub get_recounted : (at : Counts) (xs : List Page) (k : ℕ) (d : Page) → k < length xs → get_or (recounted at xs) k d ≡ record (get_or xs k d) { before = total at (take k xs) }
get_recounted at xs k d h =
    ap (λ l. get_or (recounted at l) k d) (sym (take-append-drop k xs) ∙ ap (λ l. take k xs ++ l) (drop_more xs k d h))
    ∙ ap (λ l. get_or l k d) (recounted-append at (take k xs) (get_or xs k d ∷ drop (k + 1) xs))
    ∙ get_or_at (recounted at (take k xs)) (record (get_or xs k d) { before = total at (take k xs) }) (recounted (plus (total at (take k xs)) (get_or xs k d).own) (drop (k + 1) xs)) d k (front_size at xs k h)

pub recounted-all : (P : List ℕ → Type 0) (at : Counts) (xs : List Page) → All (λ page. P (bytes_in page)) xs → All (λ page. P (bytes_in page)) (recounted at xs)
recounted-all P at xs all k d h =
    let lt : k < length xs = omega (arith, h, length-recounted at xs) in
    subst (λ (p : Page). P (bytes_in p)) (sym (get_recounted at xs k d lt)) (all k d lt)

pub front_recounted : (at : Counts) (xs : List Page) (k : ℕ) → k ≤ length xs → front_of (recounted at xs) k ≡ front_of xs k
front_recounted at xs k h =
    ap text_of (ap (λ l. take k (recounted at l)) (sym (take-append-drop k xs)) ∙ ap (take k) (recounted-append at (take k xs) (drop k xs))
    ∙ take_at (recounted at (take k xs)) (recounted (total at (take k xs)) (drop k xs)) k (length-recounted at (take k xs) ∙ length-take-le k xs h))
    ∙ recounted-text at (take k xs)

-- counts of texts that are joined
pub counts-append : (xs ys : List ℕ) → PartsNone xs ys → counts_of (xs ++ ys) ≡ plus (counts_of xs) (counts_of ys)
unfolding counts_of
counts-append xs ys clean = rw (length-append xs ys, length-breaks-append xs ys clean, begun-append Utf16 xs ys, begun-append Utf32 xs ys) refl

-- a clean cut of a text
pub parts_at : (text front bytes rest : List ℕ) → text ≡ front ++ (bytes ++ rest) → IsCleanAt text (length front) → PartsNone front bytes
parts_at text front bytes rest whole clean cr lf =
    ⊎_elim
    (λ some.
    ⊎_elim
    (λ more.
    clean some (ap (λ l. get_or l (length front - 1) 0) whole ∙ get_or_append_left front (bytes ++ rest) 0 (length front - 1) (omega arith) ∙ cr)
    (ap (λ l. get_or l (length front) 0) whole ∙ ap (λ i. get_or (front ++ (bytes ++ rest)) i 0) (let e : length front ≡ length front + 0 = omega arith in e) ∙ get_or-append-add front (bytes ++ rest) 0 0
    ∙ get_or_append_left bytes rest 0 0 more ∙ lf))
    (λ none. omega (arith, lf, get_or_past bytes 0 0 (omega arith)))
    (cases_lt 0 (length bytes)))
    (λ none. omega (arith, cr, get_or_past front (length front - 1) 0 (omega arith)))
    (cases_lt 0 (length front))

-- pages behind a text, which are its cleanly cut rest, and what is counted before them
pub record AreBehind (front : List ℕ) (sum : Counts) (pages : List Page) : Type 0 where
  pub counted : sum ≡ counts_of front
  pub own : (k : ℕ) (d : Page) → k < length pages → (get_or pages k d).own ≡ counts_of (bytes_in (get_or pages k d))
  pub clean : (k : ℕ) → k < length pages → IsCleanAt (front ++ text_of pages) (length (front ++ front_of pages k))

part_of : (front : List ℕ) (pages : List Page) (k : ℕ) (d : Page) → k < length pages
    → front ++ text_of pages ≡ (front ++ front_of pages k) ++ (bytes_in (get_or pages k d) ++ text_of (drop (k + 1) pages))
part_of front pages k d h = ap (λ l. front ++ l) (split pages k ∙ ap (λ l. front_of pages k ++ l) (rest-more pages k d h)) ∙ sym (append_assoc front (front_of pages k) (bytes_in (get_or pages k d) ++ text_of (drop (k + 1) pages)))

pub front_next : (front : List ℕ) (pages : List Page) (k : ℕ) (d : Page) → k < length pages → front ++ front_of pages (k + 1) ≡ (front ++ front_of pages k) ++ bytes_in (get_or pages k d)
front_next front pages k d h = ap (λ l. front ++ l) (front-more pages k d h) ∙ sym (append_assoc front (front_of pages k) (bytes_in (get_or pages k d)))

pub total_is : (front : List ℕ) (at : Counts) (pages : List Page) → AreBehind front at pages → (k : ℕ) → k ≤ length pages → total at (take k pages) ≡ counts_of (front ++ front_of pages k)
total_is front at pages is zero h = is.counted ∙ ap counts_of (sym (ap (λ l. front ++ l) text-nil ∙ append-nil front))
total_is front at [] is (suc k) h = absurd (omega (arith, h))
total_is front at (p ∷ ps) is (suc k) h =
    let pages = p ∷ ps in
    let lt : k < length pages = omega (arith, h) in
    let b = bytes_in (get_or pages k p) in
    let clean = parts_at (front ++ text_of pages) (front ++ front_of pages k) b (text_of (drop (k + 1) pages)) (part_of front pages k p lt) (is.clean k lt) in
    ap (λ n. total at (take n pages)) (sym (add-one k))
    ∙ total_more at pages k p lt
    ∙ ap (λ c. plus c (get_or pages k p).own) (total_is front at pages is k (omega arith))
    ∙ ap (plus (counts_of (front ++ front_of pages k))) (is.own k p lt)
    ∙ sym (counts-append (front ++ front_of pages k) b clean)
    ∙ ap counts_of (sym (front_next front pages k p lt))
    ∙ ap (λ n. counts_of (front ++ front_of pages n)) (add-one k)

-- counts of a text that fits are small
pub small_counts : (text : List ℕ) → IsUtf8 text → length text < 2 ^ 32 → AreSmall (counts_of text)
unfolding counts_of
small_counts text utf8 short = record {
  bytes = short;
  rows = omega (arith, few_breaks text, short);
  units16 = omega (arith, begun-le-length Utf16 text utf8, short);
  units32 = omega (arith, begun-le-length Utf32 text utf8, short);
}

pub totals_small : (front : List ℕ) (at : Counts) (pages : List Page) → AreBehind front at pages → IsUtf8 front → length (front ++ text_of pages) < 2 ^ 32
    → (k : ℕ) → k ≤ length pages → AreSmall (total at (take k pages))
totals_small front at pages is utf8 short k h =
    let size : length (front ++ front_of pages k) < 2 ^ 32 =
    omega (arith, short, length-append front (text_of pages), length-append front (front_of pages k), ap length (split pages k), length-append (front_of pages k) (text_of (drop k pages))) in
    subst AreSmall (sym (total_is front at pages is k h)) (small_counts (front ++ front_of pages k) (IsUtf8-append front (front_of pages k) utf8 (text_utf8 (take k pages))) size)

-- pages counted, of which the first are known and the others behind them
pub front_known : (first later : List Page) (k : ℕ) → k ≤ length first → front_of (first ++ later) k ≡ front_of first k
front_known first later k h = ap text_of (take-append-le k first later h)

pub front_later : (first later : List Page) (i : ℕ) → front_of (first ++ later) (length first + i) ≡ text_of first ++ front_of later i
front_later first later i =
    ap text_of (take-add (length first) i (first ++ later) ∙ ap (λ l. l ++ take i (drop (length first) (first ++ later))) (take_at first later (length first) refl)
    ∙ ap (λ l. first ++ take i l) (drop_at first later (length first) refl))
    ∙ text-append first (take i later)

pub pages_counted : (first later : List Page) (at : Counts) → 0 < length (first ++ later) → Fits (text_of (first ++ later)) → AreBehind (text_of first) at later
    → ((k : ℕ) (d : Page) → k < length first → IsCounted (front_of first k) (get_or first k d))
    → ((k : ℕ) → k < length first → IsCleanAt (text_of (first ++ later)) (length (front_of first k)))
    → AreFilled (first ++ recounted at later)
    → IsPaged (first ++ recounted at later) (total at later)
pages_counted first later at some fits is known clean filled =
    let again = recounted at later in
    let pages = first ++ again in
    let size = length-recounted at later in
    let same : text_of pages ≡ text_of (first ++ later) = text-append first again ∙ ap (λ l. text_of first ++ l) (recounted-text at later) ∙ sym (text-append first later) in
    let all : total at later ≡ counts_of (text_of pages) =
    ap (total at) (sym (take_all (length later) later (omega arith))) ∙ total_is (text_of first) at later is (length later) (omega arith)
    ∙ ap counts_of (ap (λ l. text_of first ++ l) (front-all later (length later) (omega arith)) ∙ sym (text-append first later) ∙ sym same) in
    let short : length (text_of pages) < 2 ^ 32 - 1 = omega (arith, fits, ap length same) in
    record {
      known = record {
        some = omega (arith, some, size, length-append first again, length-append first later);
        fits = short;
        counted = λ k d h.
            ⊎_elim
            (λ lt. subst (λ f. IsCounted f (get_or pages k d)) (sym (front_known first again k (omega arith))) (subst (IsCounted (front_of first k)) (sym (get_or_append_left first again d k lt)) (known k d lt)))
            (λ ge. let i = k - length first in later_counted i d (omega (arith, h, ge, length-append first again, size)) k (omega (arith, ge)))
            (cases_lt k (length first));
        clean = λ k h.
            subst (λ t. IsCleanAt t (length (front_of pages k))) (sym same)
            (⊎_elim
            (λ lt. subst (λ f. IsCleanAt (text_of (first ++ later)) (length f)) (sym (front_known first again k (omega arith))) (clean k lt))
            (λ ge. let i = k - length first in later_clean i (omega (arith, h, ge, length-append first again, size)) k (omega (arith, ge)))
            (cases_lt k (length first)));
        filled = filled;
      };
      total = all;
      bytes = ap (λ (c : Counts). c.bytes) all ∙ counts-bytes (text_of pages);
      rows = ap (λ (c : Counts). c.rows) all ∙ counts-rows (text_of pages);
      short = omega (arith, few_breaks (text_of pages), short);
    }
  where
    later_front : (i k : ℕ) → i ≤ length later → k ≡ length first + i → front_of (first ++ recounted at later) k ≡ text_of first ++ front_of later i
    later_front i k h e = ap (front_of (first ++ recounted at later)) e ∙ front_later first (recounted at later) i ∙ ap (λ l. text_of first ++ l) (front_recounted at later i h)

    later_page : (i k : ℕ) (d : Page) → i < length later → k ≡ length first + i → get_or (first ++ recounted at later) k d ≡ record (get_or later i d) { before = total at (take i later) }
    later_page i k d h e = ap (λ n. get_or (first ++ recounted at later) n d) e ∙ get_or-append-add first (recounted at later) i d ∙ get_recounted at later i d h

    later_counted : (i : ℕ) (d : Page) → i < length later → (k : ℕ) → k ≡ length first + i → IsCounted (front_of (first ++ recounted at later) k) (get_or (first ++ recounted at later) k d)
    later_counted i d h k e =
        subst (λ f. IsCounted f (get_or (first ++ recounted at later) k d)) (sym (later_front i k (omega arith) e))
        (subst (IsCounted (text_of first ++ front_of later i)) (sym (later_page i k d h e))
        (record { before = total_is (text_of first) at later is i (omega arith); own = is.own i d h }))

    later_clean : (i : ℕ) → i < length later → (k : ℕ) → k ≡ length first + i → IsCleanAt (text_of (first ++ later)) (length (front_of (first ++ recounted at later) k))
    later_clean i h k e =
        subst (λ f. IsCleanAt (text_of (first ++ later)) (length f)) (sym (later_front i k (omega arith) e))
        (subst (λ t. IsCleanAt t (length (text_of first ++ front_of later i))) (sym (text-append first later)) (is.clean i h))

pub sum_next : (at sum : Counts) (xs now : List Page) (i : ℕ) (d : Page) → now ≡ recounted at (take i xs) ++ drop i xs → sum ≡ total at (take i xs) → i < length xs
    → plus sum (get_or now i d).own ≡ total at (take (i + 1) xs)
sum_next at sum xs now i d e total_is h =
    ap (λ (p : Page). plus sum p.own) (next_page at xs now i d e h) ∙ ap (λ (s : Counts). plus s (get_or xs i d).own) total_is ∙ sym (total_more at xs i d h)

-- What a text ends with, one character after another.
use Rattle.std.proofs.Common.{◌≡◌, ℕ, zero, suc, ◌+◌, ◌-◌, ◌<◌, ◌≤◌, List, [], ◌∷◌, ◌++◌, length, slice_index, Option, Some, None, MatchOption, is_some, false, true, sym, ap, ◌∙◌, subst, inl, inr, arith}
use Rattle.std.proofs.lemmas.Bool.{cases_lt, cases_order}
use Rattle.std.proofs.lemmas.List.{get_or_append_left, get_or_push, length_push}
use Rattle.excerpt_rows.specs.Search.{AreBorders, EndsWith, HasNoOnlyPlace, IsAt, IsLongest, IsNext, IsOnlyPlace}

pub ends_empty : (core text : List ℕ) (end : ℕ) → EndsWith core text end 0
ends_empty core text end = record { fits = omega arith; same = λ k less. absurd (omega (arith, less)) }

pub ends_all : (core : List ℕ) (len : ℕ) → EndsWith core core len len
ends_all core len = record { fits = omega arith; same = λ k less. ap (slice_index core) (let e : k ≡ len - len + k = omega arith in e) }

-- the shorter of two ends is the end of the longer one
pub nested : (core text : List ℕ) (end short long : ℕ) → short ≤ long → EndsWith core text end short → EndsWith core text end long → EndsWith core core long short
nested core text end short long less a b = record {
  fits = less;
  same = λ k below.
      (let fits : long ≤ end = b.fits in
      let e : end - long + (long - short + k) ≡ end - short + k = omega arith in
      a.same k below ∙ sym (b.same (long - short + k) (omega (arith, less, below)) ∙ ap (slice_index text) e));
}

-- the end of an end is an end
pub through : (core text : List ℕ) (end short long : ℕ) → EndsWith core core long short → EndsWith core text end long → EndsWith core text end short
through core text end short long a b = record {
  fits = omega (arith, a.fits, b.fits);
  same = λ k below.
      (let less : short ≤ long = a.fits in
      let fits : long ≤ end = b.fits in
      let e : end - long + (long - short + k) ≡ end - short + k = omega arith in
      a.same k below ∙ b.same (long - short + k) (omega (arith, less, below)) ∙ ap (slice_index text) e);
}

-- an end and one more character
pub longer : (core text : List ℕ) (end len : ℕ) → EndsWith core text end len → slice_index core len ≡ slice_index text end → EndsWith core text (end + 1) (len + 1)
longer core text end len a last = record {
  fits = omega (arith, a.fits);
  same = λ k below.
      (let fits : len ≤ end = a.fits in
      elim (cases_lt k len) [
        | inl inside ↦ (let e : end - len + k ≡ end + 1 - (len + 1) + k = omega arith in a.same k inside ∙ ap (slice_index text) e)
        | inr past ↦
            (let here : k ≡ len = omega (arith, past, below) in
            let e : end ≡ end + 1 - (len + 1) + k = omega arith in
            ap (slice_index core) here ∙ last ∙ ap (slice_index text) e)
      ]);
}

pub shorter : (core text : List ℕ) (end len : ℕ) → EndsWith core text (end + 1) (len + 1) → EndsWith core text end len
shorter core text end len a = record {
  fits = omega (arith, a.fits);
  same = λ k below.
      (let fits : len + 1 ≤ end + 1 = a.fits in
      let e : end + 1 - (len + 1) + k ≡ end - len + k = omega arith in
      a.same k (omega (arith, below)) ∙ ap (slice_index text) e);
}

pub last_of : (core text : List ℕ) (end len : ℕ) → EndsWith core text (end + 1) (len + 1) → slice_index core len ≡ slice_index text end
last_of core text end len a =
    let fits : len + 1 ≤ end + 1 = a.fits in
    let e : end + 1 - (len + 1) + len ≡ end = omega arith in
    a.same len (omega arith) ∙ ap (slice_index text) e

-- what the text ends with after one more character
pub record Advanced (core text : List ℕ) (below end len : ℕ) : Type 0 where
  pub ends : EndsWith core text end len
  pub less : len ≤ below
  pub most : (other : ℕ) → other ≤ below → EndsWith core text end other → other ≤ len

advanced_ends : (core text : List ℕ) (below end len c next : ℕ) → IsLongest core text below end len → slice_index text end ≡ c → IsNext core len c next → EndsWith core text (end + 1) next
advanced_ends core text below end len c zero so is step = ends_empty core text (end + 1)
advanced_ends core text below end len c (suc next) so is step =
    let before : EndsWith core text end next = through core text end next len (let e : suc next - 1 ≡ next = omega arith in subst (λ n. EndsWith core core len n) e (step.ends (omega arith))) so.ends in
    let e : suc next - 1 ≡ next = omega arith in
    let one_more : next + 1 ≡ suc next = omega arith in
    subst (λ n. EndsWith core text (end + 1) n) one_more (longer core text end next before (sym (ap (slice_index core) e) ∙ step.last (omega arith) ∙ sym is))

advanced_most : (core text : List ℕ) (below end len c next other : ℕ) → IsLongest core text below end len → slice_index text end ≡ c → IsNext core len c next
    → other ≤ below → EndsWith core text (end + 1) other → other ≤ next
advanced_most core text below end len c next zero so is step within a = omega arith
advanced_most core text below end len c next (suc other) so is step within a =
    let one_more : suc other ≡ other + 1 = omega arith in
    let whole : EndsWith core text (end + 1) (other + 1) = subst (λ n. EndsWith core text (end + 1) n) one_more a in
    let before : EndsWith core text end other = shorter core text end other whole in
    let inside : other ≤ len = so.most other (omega (arith, within)) before in
    let less : other < next = step.most other (nested core text end other len inside before so.ends) (last_of core text end other whole ∙ is) in
    omega (arith, less)

pub advanced : (core text : List ℕ) (below end len c next : ℕ) → IsLongest core text below end len → slice_index text end ≡ c → IsNext core len c next → Advanced core text below (end + 1) next
advanced core text below end len c next so is step = record {
  ends = advanced_ends core text below end len c next so is step;
  less = omega (arith, so.less, step.small);
  most = λ other within a. advanced_most core text below end len c next other so is step within a;
}

-- ---- borders

pub border_next : (core : List ℕ) (end len c next : ℕ) → IsLongest core core end end len → slice_index core end ≡ c → IsNext core len c next → IsLongest core core (end + 1) (end + 1) next
border_next core end len c next so is step =
    let on = advanced core core end end len c next so is step in
    record {
      ends = on.ends;
      less = omega (arith, on.less);
      most = λ other within a. on.most other (omega (arith, within)) a;
    }

pub border_one : (core : List ℕ) → IsLongest core core 1 1 0
border_one core = record { ends = ends_empty core core 1; less = omega arith; most = λ other within a. omega (arith, within) }

-- ---- the scan of a text

-- the places that end by now: none, or one
abbrev pub FoundBy : List ℕ → List ℕ → ℕ → Option ℕ → Type 0
FoundBy core text end None = (place : ℕ) → place + length core ≤ end → IsAt core text place → ⊥
FoundBy core text end (Some found) = (found + length core ≤ end) × IsAt core text found × ((place : ℕ) → place + length core ≤ end → IsAt core text place → place ≡ found)

pub whole_at : (core text : List ℕ) (end : ℕ) → EndsWith core text end (length core) → IsAt core text (end - length core)
whole_at core text end a = a.same

pub at_whole : (core text : List ℕ) (place end : ℕ) → place + length core ≡ end → IsAt core text place → EndsWith core text end (length core)
at_whole core text place end is at = record {
  fits = omega (arith, is);
  same = λ k below. (let e : place + k ≡ end - length core + k = omega (arith, is) in at k below ∙ ap (slice_index text) e);
}

-- no place ends here
found_none : (core text : List ℕ) (end : ℕ) (found : Option ℕ) → (EndsWith core text (end + 1) (length core) → ⊥) → FoundBy core text end found → FoundBy core text (end + 1) found
found_none core text end None never so = λ place within at.
    elim (cases_lt (place + length core) (end + 1)) [
      | inl before ↦ so place (omega (arith, before)) at
      | inr here ↦ never (at_whole core text place (end + 1) (omega (arith, here, within)) at)
    ]
found_none core text end (Some found) never so = (
  omega (arith, so.0),
  so.1,
  λ place within at.
      elim (cases_lt (place + length core) (end + 1)) [
        | inl before ↦ so.2 place (omega (arith, before)) at
        | inr here ↦ absurd (never (at_whole core text place (end + 1) (omega (arith, here, within)) at))
      ],
)

pub goes_on : (core text : List ℕ) (end next : ℕ) (found : Option ℕ) → Advanced core text (length core) (end + 1) next → (next ≡ length core → ⊥) → FoundBy core text end found → FoundBy core text (end + 1) found
goes_on core text end next found on never so =
    found_none core text end found (λ a. never (let most : length core ≤ next = on.most (length core) (omega arith) a in omega (arith, most, on.less))) so

pub scan_next : (core text : List ℕ) (end next : ℕ) → Advanced core text (length core) (end + 1) next → (next ≡ length core → ⊥) → IsLongest core text (length core) (end + 1) next
scan_next core text end next on never = record {
  ends = on.ends;
  less = elim (cases_order next (length core)) [ inl e ↦ absurd (never e) | inr other ↦ elim other [ inl less ↦ less | inr more ↦ absurd (omega (arith, more, on.less)) ] ];
  most = λ other within a. on.most other (omega (arith, within)) a;
}

-- the first place ends here
pub found_first : (core text : List ℕ) (end place : ℕ) → place ≡ end + 1 - length core → EndsWith core text (end + 1) (length core) → FoundBy core text end None → FoundBy core text (end + 1) (Some place)
found_first core text end place is a so = (
  (let fits : length core ≤ end + 1 = a.fits in omega (arith, is)),
  subst (λ p. IsAt core text p) (sym is) (whole_at core text (end + 1) a),
  λ other within at.
      elim (cases_lt (other + length core) (end + 1)) [
        | inl before ↦ absurd (so other (omega (arith, before)) at)
        | inr here ↦ (let fits : length core ≤ end + 1 = a.fits in omega (arith, is, here, within))
      ],
)

-- after a place that ends here, its longest border is left
pub scan_whole : (core text : List ℕ) (end border : ℕ) → EndsWith core text end (length core) → IsLongest core core (length core) (length core) border → IsLongest core text (length core) end border
scan_whole core text end border a so = record {
  ends = through core text end border (length core) so.ends a;
  less = so.less;
  most = λ other within b. so.most other within (nested core text end other (length core) (omega (arith, within)) b a);
}

-- a second place ends here
pub found_second : (core text : List ℕ) (end found : ℕ) → end < length text → EndsWith core text (end + 1) (length core) → FoundBy core text end (Some found) → HasNoOnlyPlace core text
found_second core text end found within a so = λ place is.
    let fits : length core ≤ end + 1 = a.fits in
    let first : found ≡ place = is.only found (record { within = omega (arith, so.0, within); same = so.1 }) in
    let here : end + 1 - length core ≡ place = is.only (end + 1 - length core) (record { within = omega (arith, fits, within); same = whole_at core text (end + 1) a }) in
    omega (arith, so.0, first, here)

pub scan_end : (core text : List ℕ) (found : Option ℕ) → FoundBy core text (length text) found → MatchOption found (HasNoOnlyPlace core text) (IsOnlyPlace core text)
scan_end core text None so = λ place is. so place is.here.within is.here.same
scan_end core text (Some found) so = record {
  here = record { within = so.0; same = so.1 };
  only = λ other is. so.2 other is.within is.same;
}

-- ---- the steps of the code

pub next_less : (core borders : List ℕ) (matched end c : ℕ) → AreBorders core borders matched → 0 < end → end ≤ matched → slice_index borders end ≤ matched
next_less core borders matched end c so some within = (let one = so.each end some within in omega (arith, one.less))

pub next_ends : (core borders : List ℕ) (matched end : ℕ) → AreBorders core borders matched → 0 < end → end ≤ matched → EndsWith core core matched end → EndsWith core core matched (slice_index borders end)
next_ends core borders matched end so some within ends = through core core matched (slice_index borders end) end (so.each end some within).ends ends

pub next_most : (core borders : List ℕ) (matched end c other : ℕ) → AreBorders core borders matched → 0 < end → end ≤ matched → EndsWith core core matched end → (slice_index core end ≡ c → ⊥)
    → EndsWith core core matched other → slice_index core other ≡ c → other ≤ end → other ≤ slice_index borders end
next_most core borders matched end c other so some within ends differs a same below =
    elim (cases_order other end) [
      | inl e ↦ absurd (differs (ap (slice_index core) (sym e) ∙ same))
      | inr rest ↦ elim rest [
        | inl less ↦ (so.each end some within).most other less (nested core core matched other end below a ends)
        | inr more ↦ absurd (omega (arith, more, below))
      ]
    ]

pub next_found : (core : List ℕ) (matched end c : ℕ) → end ≤ matched → EndsWith core core matched end → ((other : ℕ) → EndsWith core core matched other → slice_index core other ≡ c → other ≤ end)
    → slice_index core end ≡ c → IsNext core matched c (end + 1)
next_found core matched end c within ends most same =
    let e : end ≡ end + 1 - 1 = omega arith in
    record {
      small = omega (arith, within);
      ends = λ some. subst (λ n. EndsWith core core matched n) e ends;
      last = λ some. ap (slice_index core) (sym e) ∙ same;
      most = λ other a b. (let below = most other a b in omega (arith, below));
    }

pub borders_more : (core old new : List ℕ) (k border : ℕ) → length old ≡ k + 1 → new ≡ old ++ border ∷ [] → IsLongest core core (k + 1) (k + 1) border → AreBorders core old k → AreBorders core new (k + 1)
borders_more core old new k border count is so_border so = record {
  len = (let e = ap length is ∙ length_push old border in omega (arith, e, count));
  each = λ n some within.
      elim (cases_lt n (k + 1)) [
        | inl before ↦
            (let e : slice_index new n ≡ slice_index old n = ap (λ (xs : List ℕ). slice_index xs n) is ∙ get_or_append_left old (border ∷ []) 0 n (omega (arith, count, before)) in
            subst (λ b. IsLongest core core n n b) (sym e) (so.each n some (omega (arith, before))))
        | inr here ↦
            (let same : k + 1 ≡ n = omega (arith, here, within) in
            let e : slice_index new (k + 1) ≡ border = ap (λ (xs : List ℕ). slice_index xs (k + 1)) is ∙ get_or_push old border 0 (k + 1) count in
            subst (λ m. IsLongest core core m m (slice_index new m)) same (subst (λ b. IsLongest core core (k + 1) (k + 1) b) (sym e) so_border))
      ];
}

pub borders_two : (core borders : List ℕ) → borders ≡ 0 ∷ 0 ∷ [] → AreBorders core borders 1
borders_two core borders is = record {
  len = (let e = ap length is in omega (arith, e));
  each = λ n some within.
      (let e : 1 ≡ n = omega (arith, some, within) in
      let zero_there : slice_index borders 1 ≡ 0 = ap (λ (xs : List ℕ). slice_index xs 1) is in
      subst (λ m. IsLongest core core m m (slice_index borders m)) e (subst (λ b. IsLongest core core 1 1 b) (sym zero_there) (border_one core)));
}

pub found_when : (core text : List ℕ) (end place : ℕ) (found : Option ℕ) → is_some found ≡ false → place ≡ end + 1 - length core → EndsWith core text (end + 1) (length core) → FoundBy core text end found
    → FoundBy core text (end + 1) (Some place)
found_when core text end place None is at a so = found_first core text end place at a so
found_when core text end place (Some found) is at a so = cc

pub twice : (core text : List ℕ) (end : ℕ) (found : Option ℕ) → is_some found ≡ true → end < length text → EndsWith core text (end + 1) (length core) → FoundBy core text end found → HasNoOnlyPlace core text
twice core text end None is within a so = cc
twice core text end (Some found) is within a so = found_second core text end found within a so

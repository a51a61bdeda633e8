-- A text is cut into longest fronts, in one way.
use Rattle.std.proofs.Common.{◌≡◌, ℕ, ◌+◌, ◌-◌, ◌<◌, ◌≤◌, true, false, List, [], ◌∷◌, ◌++◌, length, take, drop, get_or, ltb, fold, refl, sym, ap, subst, ◌∙◌, arith, append-nil, if◌then◌else◌, encode_utf8, encode_utf8_all, ⊎_elim}
use Rattle.std.specs.Str.{chars}
use Rattle.std.proofs.lemmas.Bool.{cases_lt}
use Rattle.std.proofs.lemmas.Bool.Decides.{nat_tests}
use Rattle.std.proofs.lemmas.List.{take_more, drop_more, length-drop}
use Rattle.std.proofs.lemmas.List.Sums.{fold-append}
use Rattle.std.proofs.lemmas.Str.{encodes-append}
use Rattle.std.proofs.Math.Seq.{take-add}
use Rattle.textwrap.specs.declared.pen.Pen.{Pen}
use Rattle.textwrap.specs.Width.{moved, at_start}
use Rattle.textwrap.specs.Cuts.{cells_of, IsLongestFront, AreLongestFronts, texts_of, cut_texts, IsCut, before_first, cuts_behind, cuts}
use Rattle.textwrap.proofs.CutsLemmas.{before_before}

-- more characters are no narrower
no_narrower : (pen : Pen) (cs : List ℕ) → pen.width ≤ (fold moved pen cs).width
no_narrower pen [] = omega arith
no_narrower pen (c ∷ cs) = omega (arith, no_narrower (moved pen c) cs)

cells_of-le : (cs : List ℕ) (n m : ℕ) → n ≤ m → cells_of (take n cs) ≤ cells_of (take m cs)
cells_of-le cs n m le =
    let place : n + (m - n) ≡ m = omega arith in
    let more : List ℕ = take (m - n) (drop n cs) in
    let all : take m cs ≡ take n cs ++ more = ap (λ k. take k cs) (sym place) ∙ take-add n (m - n) cs in
    let pens : fold moved at_start (take m cs) ≡ fold moved (fold moved at_start (take n cs)) more = ap (fold moved at_start) all ∙ fold-append moved at_start (take n cs) more in
    subst (λ (pen : Pen). cells_of (take n cs) ≤ pen.width) (sym pens) (no_narrower (fold moved at_start (take n cs)) more)

-- two longest fronts are the same
front_le : (room : ℕ) (cs : List ℕ) (n m : ℕ) → IsLongestFront room cs n → IsLongestFront room cs m → m ≤ n
front_le room cs n m a b = ⊎_elim (λ lt. absurd (omega (arith, a.some, a.longest m lt b.within, b.fits (omega (arith, a.some))))) (λ ge. ge) (cases_lt n m)

same_fronts : (room : ℕ) (cs xs ys : List ℕ) → AreLongestFronts room cs xs → AreLongestFronts room cs ys → xs ≡ ys
same_fronts room cs [] [] a b = refl
same_fronts room cs [] (m ∷ ys) a b = absurd (omega (arith, a, b.0.some, b.0.within))
same_fronts room cs (n ∷ xs) [] a b = absurd (omega (arith, b, a.0.some, a.0.within))
same_fronts room cs (n ∷ xs) (m ∷ ys) a b =
    let one : n ≡ m = omega (arith, front_le room cs n m a.0 b.0, front_le room cs m n b.0 a.0) in
    ap (λ k. k ∷ xs) one ∙ ap (λ l. m ∷ l) (same_fronts room (drop m cs) xs ys (subst (λ k. AreLongestFronts room (drop k cs) xs) one a.1) b.1)

-- the numbers of characters, computed: behind a pen and so many characters of the front
unfoldable counted : ℕ → Pen → ℕ → List ℕ → List ℕ
counted room pen count [] = count ∷ []
counted room pen count (c ∷ cs) =
    if ltb room (moved pen c).width then count ∷ counted room (moved at_start c) 1 cs
    else counted room (moved pen c) (count + 1) cs

left_at : (all : List ℕ) (count c : ℕ) (cs : List ℕ) → drop count all ≡ c ∷ cs → count < length all
left_at all count c cs left = omega (arith, sym (length-drop count all) ∙ ap length left)

next_is : (all : List ℕ) (count c : ℕ) (cs : List ℕ) → drop count all ≡ c ∷ cs → get_or all count 0 ≡ c
next_is all count c cs left = ap (λ l. get_or l 0 0) (sym (drop_more all count 0 (left_at all count c cs left)) ∙ left)

rest_is : (all : List ℕ) (count c : ℕ) (cs : List ℕ) → drop count all ≡ c ∷ cs → drop (count + 1) all ≡ cs
rest_is all count c cs left = ap (λ l. drop 1 l) (sym (drop_more all count 0 (left_at all count c cs left)) ∙ left)

taken : (all : List ℕ) (count c : ℕ) (cs : List ℕ) → drop count all ≡ c ∷ cs → take (count + 1) all ≡ take count all ++ c ∷ []
taken all count c cs left = take_more all count 0 (left_at all count c cs left) ∙ ap (λ x. take count all ++ x ∷ []) (next_is all count c cs left)

pen_next : (pen : Pen) (all : List ℕ) (count c : ℕ) (cs : List ℕ) → pen ≡ fold moved at_start (take count all) → drop count all ≡ c ∷ cs
    → moved pen c ≡ fold moved at_start (take (count + 1) all)
pen_next pen all count c cs is left =
    ap (λ p. moved p c) is ∙ sym (fold-append moved at_start (take count all) (c ∷ [])) ∙ ap (fold moved at_start) (sym (taken all count c cs left))

counted_are : (room : ℕ) (pen : Pen) (count : ℕ) (all rest : List ℕ) → 1 ≤ count → count ≤ length all → pen ≡ fold moved at_start (take count all)
    → (1 < count → pen.width ≤ room) → drop count all ≡ rest → AreLongestFronts room all (counted room pen count rest)
unfolding counted
counted_are room pen count all [] some within is fits left =
    let gone : length (drop count all) ≡ 0 = ap length left in
    let wide : pen.width ≡ cells_of (take count all) = ap (λ p. p.width) is in (
      record { some = some; within = within; fits = λ h. omega (arith, fits h, wide); longest = λ m lt le. absurd (omega (arith, gone, length-drop count all)) },
      gone,
    )
counted_are room pen count all (c ∷ cs) some within is fits left =
    let lt = left_at all count c cs left in
    let wide : pen.width ≡ cells_of (take count all) = ap (λ p. p.width) is in
    let next : moved pen c ≡ fold moved at_start (take (count + 1) all) = pen_next pen all count c cs is left in
    elim (ltb room (moved pen c).width) as (λ v. ltb room (moved pen c).width ≡ v
    → AreLongestFronts room all (if v then count ∷ counted room (moved at_start c) 1 cs else counted room (moved pen c) (count + 1) cs)) [
      | false ↦ λ e. counted_are room (moved pen c) (count + 1) all cs (omega arith) (omega arith) next (λ h. grind (arith, nat_tests)) (rest_is all count c cs left)
      | true ↦ λ e.
          let over : room < (moved pen c).width = grind (arith, nat_tests) in
          let wider : (moved pen c).width ≡ cells_of (take (count + 1) all) = ap (λ p. p.width) next in (
            record {
              some = some;
              within = within;
              fits = λ h. omega (arith, fits h, wide);
              longest = λ m more le. omega (arith, over, wider, cells_of-le all (count + 1) m (omega arith));
            },
            subst (λ l. AreLongestFronts room l (counted room (moved at_start c) 1 cs)) (sym left)
                (counted_are room (moved at_start c) 1 (c ∷ cs) cs (omega arith) (omega arith) refl (λ h. absurd (omega arith)) refl),
          )
    ] refl

counted_texts : (room : ℕ) (pen : Pen) (count : ℕ) (all rest : List ℕ) → drop count all ≡ rest
    → before_first (encode_utf8_all (take count all)) (cuts_behind room true pen rest) ≡ texts_of all (counted room pen count rest)
unfolding counted
counted_texts room pen count all [] left = ap (λ l. l ∷ []) (append-nil (encode_utf8_all (take count all)))
counted_texts room pen count all (c ∷ cs) left =
    let front : List ℕ = encode_utf8_all (take count all) in
    elim (ltb room (moved pen c).width) as (λ v.
    before_first front (if v then [] ∷ before_first (encode_utf8 c) (cuts_behind room true (moved at_start c) cs) else before_first (encode_utf8 c) (cuts_behind room true (moved pen c) cs))
    ≡ texts_of all (if v then count ∷ counted room (moved at_start c) 1 cs else counted room (moved pen c) (count + 1) cs)) [
      | false ↦
          let one : encode_utf8_all (take (count + 1) all) ≡ front ++ encode_utf8 c =
          ap encode_utf8_all (taken all count c cs left) ∙ encodes-append (take count all) (c ∷ []) ∙ ap (λ l. front ++ l) (append-nil (encode_utf8 c)) in
          before_before front (encode_utf8 c) (cuts_behind room true (moved pen c) cs)
          ∙ ap (λ l. before_first l (cuts_behind room true (moved pen c) cs)) (sym one)
          ∙ counted_texts room (moved pen c) (count + 1) all cs (rest_is all count c cs left)
      | true ↦
          ap (λ l. l ∷ before_first (encode_utf8 c) (cuts_behind room true (moved at_start c) cs)) (append-nil front)
          ∙ ap (λ l. front ∷ before_first l (cuts_behind room true (moved at_start c) cs)) (sym (append-nil (encode_utf8 c)))
          ∙ ap (λ l. front ∷ l) (counted_texts room (moved at_start c) 1 (c ∷ cs) cs refl)
          ∙ ap (λ l. front ∷ texts_of l (counted room (moved at_start c) 1 cs)) (sym left)
    ]

counts_of : ℕ → List ℕ → List ℕ
counts_of room [] = []
counts_of room (c ∷ cs) = counted room (moved at_start c) 1 cs

counts_are : (room : ℕ) (cs : List ℕ) → AreLongestFronts room cs (counts_of room cs)
unfolding counts_of
counts_are room [] = refl
counts_are room (c ∷ cs) = counted_are room (moved at_start c) 1 (c ∷ cs) cs (omega arith) (omega arith) refl (λ h. absurd (omega arith)) refl

counts_texts : (room : ℕ) (cs : List ℕ) → cuts_behind room false at_start cs ≡ cut_texts cs (counts_of room cs)
unfolding counts_of
counts_texts room [] = refl
counts_texts room (c ∷ cs) =
    ap (λ l. before_first l (cuts_behind room true (moved at_start c) cs)) (sym (append-nil (encode_utf8 c)))
    ∙ counted_texts room (moved at_start c) 1 (c ∷ cs) cs refl

pub cuts_are : (room : ℕ) (text : List ℕ) → IsCut room text (cuts room text)
unfolding cuts
cuts_are room text = (counts_of room (chars text), (counts_are room (chars text), counts_texts room (chars text)))

pub cuts_only : (room : ℕ) (text : List ℕ) (texts : List (List ℕ)) → IsCut room text texts → texts ≡ cuts room text
unfolding cuts
cuts_only room text texts given =
    given.1.1
    ∙ ap (cut_texts (chars text)) (same_fronts room (chars text) given.0 (counts_of room (chars text)) given.1.0 (counts_are room (chars text)))
    ∙ sym (counts_texts room (chars text))

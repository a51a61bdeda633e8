-- The clusters of the first part of a text: those of the whole, and a part of one.
use Rattle.std.proofs.Common.{◌≡◌, ℕ, zero, suc, ◌+◌, ◌-◌, ◌<◌, ◌≤◌, Bool, true, false, inl, inr, List, [], ◌∷◌, ◌++◌, length, map, get_or, take, drop, refl, sym, ap, subst, ◌∙◌, arith, append_assoc, append-nil, length-append, cond}
use Rattle.std.specs.Prelude.{All, encode_utf8_all}
use Rattle.std.specs.List.{concat, flat_map}
use Rattle.std.specs.Str.{chars, IsCharBoundary, IsUtf8}
use Rattle.std.proofs.Math.Utf8.{scalar, scalars}
use Rattle.std.proofs.lemmas.Bool.{and_parts, cases_Bool, false≢true}
use Rattle.std.proofs.lemmas.List.{map-append}
use Rattle.std.proofs.lemmas.List.Elements.{All-nil, All-cons, All-head, All-tail}
use Rattle.std.proofs.lemmas.Str.{chars-append, chars-encodes, encodes-append, scalars-chars, IsCharBoundary-at_seam, IsUtf8-between}
use Rattle.unicode_segmentation.specs.Grapheme.{graphemes, is_grapheme_break}
use Rattle.unicode_segmentation.specs.Segments.{cut, prepend, segments}
use Rattle.unicode_segmentation.proofs.SegmentsLemmas.{concat-segments}
use Rattle.unicode_segmentation.proofs.TextLemmas.{IsUtf8-after}
use Rattle.unicode_width.specs.Width.{str_width}
use Rattle.oxc_plan.specs.Width.{led, led_text, with_lead}

-- parts of lists that are equal
abbrev rest_of : {A : Type 0} → List A → List A
rest_of [] = []
rest_of (x ∷ xs) = xs

same_first : {A : Type 0} (x y : A) (xs ys : List A) → x ∷ xs ≡ y ∷ ys → x ≡ y
same_first x y xs ys e = ap (λ l. get_or l 0 x) e

same_rest : {A : Type 0} (x y : A) (xs ys : List A) → x ∷ xs ≡ y ∷ ys → xs ≡ ys
same_rest x y xs ys e = ap rest_of e

no_cons : {A : Type 0} (x : A) (xs : List A) → [] ≡ x ∷ xs → ⊥
no_cons x xs e = omega (arith, ap length e)

no_middle : {A : Type 0} (xs : List A) (y : A) (ys : List A) → [] ≡ xs ++ y ∷ ys → ⊥
no_middle xs y ys e = omega (arith, ap length e, length-append xs (y ∷ ys))

-- the rule on boundaries looks at one character ahead
pub ends : (c : ℕ) (before : List ℕ) → is_grapheme_break true (c ∷ before) [] ≡ true
unfolding is_grapheme_break
ends c before = refl

looks_ahead : (c : ℕ) (before front back : List ℕ) → 0 < length front → is_grapheme_break true (c ∷ before) ((front ++ back) ++ []) ≡ is_grapheme_break true (c ∷ before) (front ++ [])
unfolding is_grapheme_break
looks_ahead c before [] back some = absurd (omega arith)
looks_ahead c before (x ∷ front) back some = refl

breaks_still : (c : ℕ) (before front back : List ℕ) → is_grapheme_break true (c ∷ before) ((front ++ back) ++ []) ≡ true → is_grapheme_break true (c ∷ before) (front ++ []) ≡ true
breaks_still c before [] back said = ends c before
breaks_still c before (x ∷ front) back said = sym (looks_ahead c before (x ∷ front) back (omega arith)) ∙ said

-- the pieces of characters are the characters, and none is empty
concat_prepend : (part : List ℕ) (ps : List (List ℕ)) → concat (prepend part ps) ≡ part ++ concat ps
concat_prepend part [] = refl
concat_prepend part (p ∷ ps) = append_assoc part p (concat ps)

pieces_join : (before cs : List ℕ) → concat (cut (is_grapheme_break true) before cs []) ≡ cs
unfolding cut
pieces_join before [] = refl
pieces_join before (c ∷ cs) =
    let rest = cut (is_grapheme_break true) (c ∷ before) cs [] in
    elim (cases_Bool (is_grapheme_break true (c ∷ before) (cs ++ []))) [
      | inl breaks ↦ rw breaks (ap (λ l. c ∷ l) (pieces_join (c ∷ before) cs))
      | inr joins ↦ rw joins (concat_prepend (c ∷ []) rest ∙ ap (λ l. c ∷ l) (pieces_join (c ∷ before) cs))
    ]

prepend_some : (c : ℕ) (ps : List (List ℕ)) → All (λ p. 0 < length p) ps → All (λ p. 0 < length p) (prepend (c ∷ []) ps)
prepend_some c [] all = All-cons (λ p. 0 < length p) (c ∷ []) [] (omega arith) (All-nil (λ p. 0 < length p))
prepend_some c (p ∷ ps) all = All-cons (λ q. 0 < length q) (c ∷ p) ps (omega arith) (All-tail (λ q. 0 < length q) p ps all)

pieces_some : (before cs : List ℕ) → All (λ p. 0 < length p) (cut (is_grapheme_break true) before cs [])
unfolding cut
pieces_some before [] = All-nil (λ p. 0 < length p)
pieces_some before (c ∷ cs) =
    let rest = cut (is_grapheme_break true) (c ∷ before) cs [] in
    let all = pieces_some (c ∷ before) cs in
    elim (cases_Bool (is_grapheme_break true (c ∷ before) (cs ++ []))) [
      | inl breaks ↦ rw breaks (All-cons (λ p. 0 < length p) (c ∷ []) rest (omega arith) all)
      | inr joins ↦ rw joins (prepend_some c rest all)
    ]

-- a part as the last piece, if it has characters
abbrev pub some_part : List ℕ → List (List ℕ)
some_part [] = []
some_part (c ∷ cs) = (c ∷ cs) ∷ []

-- characters up to a place within a piece are cut into the pieces before it and its part
abbrev IsCutAlike : List ℕ → List (List ℕ) → List ℕ → Type 0
IsCutAlike before done part = cut (is_grapheme_break true) before (concat done ++ part) [] ≡ done ++ some_part part

one_alone : (before : List ℕ) (c : ℕ) → cut (is_grapheme_break true) before (c ∷ []) [] ≡ (c ∷ []) ∷ []
unfolding cut
one_alone before c = rw (ends c before) refl

pub concat_middle : (done : List (List ℕ)) (part back : List ℕ) (more : List (List ℕ)) → concat (done ++ (part ++ back) ∷ more) ≡ (concat done ++ part) ++ (back ++ concat more)
concat_middle [] part back more = append_assoc part back (concat more)
concat_middle (d ∷ done) part back more =
    ap (λ l. d ++ l) (concat_middle done part back more) ∙ sym (append_assoc d (concat done ++ part) (back ++ concat more)) ∙ ap (λ l. l ++ (back ++ concat more)) (sym (append_assoc d (concat done) part))

-- where the first character is a piece of its own
cut_first : (before : List ℕ) (c : ℕ) (cs : List ℕ) (rest : List (List ℕ)) (back : List ℕ) → is_grapheme_break true (c ∷ before) (cs ++ []) ≡ true → cs ≡ concat rest
    → ((done : List (List ℕ)) (part : List ℕ) (more : List (List ℕ)) → rest ≡ done ++ (part ++ back) ∷ more → IsCutAlike (c ∷ before) done part)
    → (done : List (List ℕ)) (part : List ℕ) (more : List (List ℕ)) → (c ∷ []) ∷ rest ≡ done ++ (part ++ back) ∷ more → IsCutAlike before done part
unfolding cut
cut_first before c cs rest back breaks joined so [] [] more e = refl
cut_first before c cs rest back breaks joined so [] (x ∷ []) more e = one_alone before x
cut_first before c cs rest back breaks joined so [] (x ∷ y ∷ part) more e = absurd (no_cons y (part ++ back) (same_rest c x [] (y ∷ (part ++ back)) (same_first (c ∷ []) (x ∷ y ∷ (part ++ back)) rest more e)))
cut_first before c cs rest back breaks joined so (d ∷ done) part more e =
    let first : c ∷ [] ≡ d = same_first (c ∷ []) d rest (done ++ (part ++ back) ∷ more) e in
    let later : rest ≡ done ++ (part ++ back) ∷ more = same_rest (c ∷ []) d rest (done ++ (part ++ back) ∷ more) e in
    let alike = so done part more later in
    let front = concat done ++ part in
    let whole : cs ≡ front ++ (back ++ concat more) = joined ∙ ap concat later ∙ concat_middle done part back more in
    let still = breaks_still c before front (back ++ concat more) (subst (λ l. is_grapheme_break true (c ∷ before) (l ++ []) ≡ true) whole breaks) in
    subst (λ q. IsCutAlike before (q ∷ done) part) first (rw still (ap (λ l. (c ∷ []) ∷ l) alike))

-- where it begins the first of the other pieces
cut_joined : (before : List ℕ) (c : ℕ) (cs r : List ℕ) (rs : List (List ℕ)) (back : List ℕ) → is_grapheme_break true (c ∷ before) (cs ++ []) ≡ false → cs ≡ concat (r ∷ rs) → 0 < length r
    → ((done : List (List ℕ)) (part : List ℕ) (more : List (List ℕ)) → r ∷ rs ≡ done ++ (part ++ back) ∷ more → IsCutAlike (c ∷ before) done part)
    → (done : List (List ℕ)) (part : List ℕ) (more : List (List ℕ)) → (c ∷ r) ∷ rs ≡ done ++ (part ++ back) ∷ more → IsCutAlike before done part
unfolding cut
cut_joined before c cs r rs back joins joined some so [] [] more e = refl
cut_joined before c cs r rs back joins joined some so [] (x ∷ []) more e = one_alone before x
cut_joined before c cs r rs back joins joined some so [] (x ∷ y ∷ part) more e =
    let piece : c ∷ r ≡ x ∷ y ∷ (part ++ back) = same_first (c ∷ r) (x ∷ y ∷ (part ++ back)) rs more e in
    let first : c ≡ x = same_first c x r (y ∷ (part ++ back)) piece in
    let tail : r ≡ y ∷ (part ++ back) = same_rest c x r (y ∷ (part ++ back)) piece in
    let alike = so [] (y ∷ part) rs (ap (λ l. l ∷ rs) tail) in
    let whole : cs ≡ (y ∷ part) ++ (back ++ concat rs) = joined ∙ ap (λ l. l ++ concat rs) tail ∙ ap (λ l. y ∷ l) (append_assoc part back (concat rs)) in
    let still = sym (looks_ahead c before (y ∷ part) (back ++ concat rs) (omega arith)) ∙ subst (λ l. is_grapheme_break true (c ∷ before) (l ++ []) ≡ false) whole joins in
    subst (λ q. IsCutAlike before [] (q ∷ y ∷ part)) first (rw still (ap (prepend (c ∷ [])) alike))
cut_joined before c cs r rs back joins joined some so (d ∷ done) part more e =
    let first : c ∷ r ≡ d = same_first (c ∷ r) d rs (done ++ (part ++ back) ∷ more) e in
    let later : rs ≡ done ++ (part ++ back) ∷ more = same_rest (c ∷ r) d rs (done ++ (part ++ back) ∷ more) e in
    let alike = so (r ∷ done) part more (ap (λ l. r ∷ l) later) in
    let front = concat (r ∷ done) ++ part in
    let whole : cs ≡ front ++ (back ++ concat more) = joined ∙ ap (λ l. concat (r ∷ l)) later ∙ concat_middle (r ∷ done) part back more in
    let long : 0 < length front = omega (arith, some, length-append (concat (r ∷ done)) part, length-append r (concat done)) in
    let still = sym (looks_ahead c before front (back ++ concat more) long) ∙ subst (λ l. is_grapheme_break true (c ∷ before) (l ++ []) ≡ false) whole joins in
    subst (λ q. IsCutAlike before (q ∷ done) part) first (rw still (ap (prepend (c ∷ [])) alike))

cut_by : (before : List ℕ) (c : ℕ) (cs : List ℕ) (back : List ℕ) (b : Bool) (rest : List (List ℕ)) → is_grapheme_break true (c ∷ before) (cs ++ []) ≡ b → cut (is_grapheme_break true) (c ∷ before) cs [] ≡ rest
    → ((done : List (List ℕ)) (part : List ℕ) (more : List (List ℕ)) → rest ≡ done ++ (part ++ back) ∷ more → IsCutAlike (c ∷ before) done part)
    → (done : List (List ℕ)) (part : List ℕ) (more : List (List ℕ)) → cond b ((c ∷ []) ∷ rest) (prepend (c ∷ []) rest) ≡ done ++ (part ++ back) ∷ more → IsCutAlike before done part
cut_by before c cs back true rest breaks is so done part more e = cut_first before c cs rest back breaks (sym (pieces_join (c ∷ before) cs) ∙ ap concat is) so done part more e
cut_by before c cs back false [] joins is so done part more e =
    let none : cs ≡ [] = sym (pieces_join (c ∷ before) cs) ∙ ap concat is in
    absurd (false≢true (sym joins ∙ ap (λ l. is_grapheme_break true (c ∷ before) (l ++ [])) none ∙ ends c before))
cut_by before c cs back false (r ∷ rs) joins is so done part more e =
    cut_joined before c cs r rs back joins (sym (pieces_join (c ∷ before) cs) ∙ ap concat is) (All-head (λ p. 0 < length p) r rs (subst (All (λ p. 0 < length p)) is (pieces_some (c ∷ before) cs)))
    so done part more e

cut_alike : (before cs : List ℕ) (back : List ℕ) (done : List (List ℕ)) (part : List ℕ) (more : List (List ℕ)) → cut (is_grapheme_break true) before cs [] ≡ done ++ (part ++ back) ∷ more → IsCutAlike before done part
unfolding cut
cut_alike before [] back done part more e = absurd (no_middle done (part ++ back) more e)
cut_alike before (c ∷ cs) back done part more e =
    cut_by before c cs back (is_grapheme_break true (c ∷ before) (cs ++ [])) (cut (is_grapheme_break true) (c ∷ before) cs []) refl refl (cut_alike (c ∷ before) cs back) done part more e

-- the pieces of characters of which clusters are the bytes
record HasPieces (ps : List (List ℕ)) (done : List (List ℕ)) (cluster : List ℕ) : Type 0 where
  front : List (List ℕ)
  piece : List ℕ
  rest : List (List ℕ)
  is : ps ≡ front ++ piece ∷ rest
  front_is : map encode_utf8_all front ≡ done
  piece_is : encode_utf8_all piece ≡ cluster

pieces_of : (ps done : List (List ℕ)) (cluster : List ℕ) (more : List (List ℕ)) → map encode_utf8_all ps ≡ done ++ cluster ∷ more → HasPieces ps done cluster
pieces_of [] done cluster more e = absurd (no_middle done cluster more e)
pieces_of (p ∷ ps) [] cluster more e =
    record { front = []; piece = p; rest = ps; is = refl; front_is = refl; piece_is = same_first (encode_utf8_all p) cluster (map encode_utf8_all ps) more e }
pieces_of (p ∷ ps) (d ∷ done) cluster more e =
    let first = same_first (encode_utf8_all p) d (map encode_utf8_all ps) (done ++ cluster ∷ more) e in
    let others = pieces_of ps done cluster more (same_rest (encode_utf8_all p) d (map encode_utf8_all ps) (done ++ cluster ∷ more) e) in
    record {
      front = p ∷ others.front;
      piece = others.piece;
      rest = others.rest;
      is = ap (λ l. p ∷ l) others.is;
      front_is = ap (λ q. q ∷ map encode_utf8_all others.front) first ∙ ap (λ l. d ∷ l) others.front_is;
      piece_is = others.piece_is;
    }

scalars_parts : (xs ys : List ℕ) → scalars (xs ++ ys) ≡ true → (scalars xs ≡ true) × (scalars ys ≡ true)
scalars_parts [] ys said = (refl, said)
scalars_parts (x ∷ xs) ys said =
    let here = and_parts (scalar x) (scalars (xs ++ ys)) said in
    let parts = scalars_parts xs ys here.1 in
    (rw (here.0, parts.0) refl, parts.1)

encodes_concat : (ps : List (List ℕ)) → encode_utf8_all (concat ps) ≡ concat (map encode_utf8_all ps)
encodes_concat [] = refl
encodes_concat (p ∷ ps) = encodes-append p (concat ps) ∙ ap (λ l. encode_utf8_all p ++ l) (encodes_concat ps)

pub concat_append : (xs ys : List (List ℕ)) → concat (xs ++ ys) ≡ concat xs ++ concat ys
concat_append [] ys = refl
concat_append (x ∷ xs) ys = ap (λ l. x ++ l) (concat_append xs ys) ∙ sym (append_assoc x (concat xs) (concat ys))

pub flat_append : {A B : Type 0} (f : A → List B) (xs ys : List A) → flat_map f (xs ++ ys) ≡ flat_map f xs ++ flat_map f ys
flat_append f [] ys = refl
flat_append f (x ∷ xs) ys = ap (λ l. f x ++ l) (flat_append f xs ys) ∙ sym (append_assoc (f x) (flat_map f xs) (flat_map f ys))

take_front : (xs ys : List ℕ) (k : ℕ) → k ≤ length xs → take k (xs ++ ys) ≡ take k xs
take_front xs ys zero le = refl
take_front [] ys (suc k) le = absurd (omega (arith, le))
take_front (x ∷ xs) ys (suc k) le = ap (λ l. x ∷ l) (take_front xs ys k (omega (arith, le)))

take_past : (xs ys : List ℕ) (k : ℕ) → take (length xs + k) (xs ++ ys) ≡ xs ++ take k ys
take_past [] ys k = let all : 0 + k ≡ k = omega arith in rw all refl
take_past (x ∷ xs) ys k = let one : suc (length xs) + k ≡ suc (length xs + k) = omega arith in rw one (ap (λ l. x ∷ l) (take_past xs ys k))

drop_past : (xs ys : List ℕ) → drop (length xs) (xs ++ ys) ≡ ys
drop_past [] ys = refl
drop_past (x ∷ xs) ys = drop_past xs ys

take_drop : (xs : List ℕ) (k : ℕ) → xs ≡ take k xs ++ drop k xs
take_drop xs zero = refl
take_drop [] (suc k) = refl
take_drop (x ∷ xs) (suc k) = ap (λ l. x ∷ l) (take_drop xs k)

-- a cluster in a text: where it stands, and which of its bytes make a part of it
pub record IsClusterOf (text : List ℕ) (done : List (List ℕ)) (cluster rest : List ℕ) : Type 0 where
  pub whole : text ≡ concat done ++ (cluster ++ rest)
  pub before : IsUtf8 (concat done)
  pub seam : IsCharBoundary text (length (concat done))

in_text : (text : List ℕ) (done : List (List ℕ)) (cluster : List ℕ) (more : List (List ℕ)) → IsUtf8 text → graphemes true text ≡ done ++ cluster ∷ more → (s : HasPieces (cut (is_grapheme_break true) [] (chars text) []) done cluster)
    → (scalars (concat s.front) ≡ true) × (scalars s.piece ≡ true) × IsClusterOf text done cluster (concat more)
in_text text done cluster more utf8 is s =
    let all : chars text ≡ concat s.front ++ (s.piece ++ concat s.rest) = sym (pieces_join [] (chars text)) ∙ ap concat s.is ∙ concat_append s.front (s.piece ∷ s.rest) in
    let parts = scalars_parts (concat s.front) (s.piece ++ concat s.rest) (subst (λ l. scalars l ≡ true) all (scalars-chars text utf8)) in
    let later = scalars_parts s.piece (concat s.rest) parts.1 in
    let whole : text ≡ concat done ++ (cluster ++ concat more) = sym (concat-segments (is_grapheme_break true) text utf8) ∙ ap concat is ∙ concat_append done (cluster ∷ more) in
    let before : IsUtf8 (concat done) = (concat s.front, (parts.0, encodes_concat s.front ∙ ap concat s.front_is)) in (
      parts.0,
      later.0,
      record { whole = whole; before = before; seam = IsCharBoundary-at_seam text (concat done) (cluster ++ concat more) whole (IsUtf8-after text (concat done) (cluster ++ concat more) utf8 before whole) },
    )

-- a part of a cluster up to a boundary is a text
part_text : (text : List ℕ) (done : List (List ℕ)) (cluster rest : List ℕ) (k : ℕ) → IsUtf8 text → IsClusterOf text done cluster rest → k ≤ length cluster → IsCharBoundary text (length (concat done) + k) → IsUtf8 (take k cluster)
part_text text done cluster rest k utf8 is le boundary =
    let at = length (concat done) in
    let size : at + k - at ≡ k = omega arith in
    let part : take (at + k - at) (drop at text) ≡ take k cluster =
    ap (λ n. take n (drop at text)) size ∙ ap (λ l. take k (drop at l)) is.whole ∙ ap (take k) (drop_past (concat done) (cluster ++ rest)) ∙ take_front cluster rest k le in
    subst IsUtf8 part (IsUtf8-between text at (at + k) utf8 (omega arith) is.seam boundary)

led_part : (cs : List ℕ) → chars (encode_utf8_all cs) ≡ cs → flat_map led (map encode_utf8_all (some_part cs)) ≡ with_lead (str_width false cs) cs
led_part [] back = refl
led_part (c ∷ cs) back = append-nil (led (encode_utf8_all (c ∷ cs))) ∙ ap (λ l. with_lead (str_width false l) l) back

-- the clusters of a text up to a boundary within one
pub led_prefix : (text : List ℕ) (done : List (List ℕ)) (cluster : List ℕ) (more : List (List ℕ)) (k : ℕ) → IsUtf8 text → graphemes true text ≡ done ++ cluster ∷ more → k ≤ length cluster
    → IsCharBoundary text (length (concat done) + k) → led_text (take (length (concat done) + k) text) ≡ flat_map led done ++ led (take k cluster)
unfolding segments
led_prefix text done cluster more k utf8 is le boundary =
    let s = pieces_of (cut (is_grapheme_break true) [] (chars text) []) done cluster more is in
    let known = in_text text done cluster more utf8 is s in
    let place = known.2 in
    let part = take k cluster in
    let part_is = part_text text done cluster (concat more) k utf8 place le boundary in
    let back = chars (drop k cluster) in
    let piece : s.piece ≡ chars part ++ back = sym (chars-encodes s.piece known.1) ∙ ap chars (s.piece_is ∙ take_drop cluster k) ∙ chars-append part (drop k cluster) part_is in
    let alike = cut_alike [] (chars text) back s.front (chars part) s.rest (s.is ∙ ap (λ l. s.front ++ l ∷ s.rest) piece) in
    let bytes : take (length (concat done) + k) text ≡ concat done ++ part =
    ap (take (length (concat done) + k)) place.whole ∙ take_past (concat done) (cluster ++ concat more) k ∙ ap (λ l. concat done ++ l) (take_front cluster (concat more) k le) in
    let before : chars (concat done) ≡ concat s.front = ap chars (sym (encodes_concat s.front ∙ ap concat s.front_is)) ∙ chars-encodes (concat s.front) known.0 in
    let spelled : chars (take (length (concat done) + k) text) ≡ concat s.front ++ chars part = ap chars bytes ∙ chars-append (concat done) part place.before ∙ ap (λ l. l ++ chars part) before in
    ap (λ cs. flat_map led (map encode_utf8_all (cut (is_grapheme_break true) [] cs []))) spelled
    ∙ ap (λ ps. flat_map led (map encode_utf8_all ps)) alike
    ∙ ap (flat_map led) (map-append encode_utf8_all s.front (some_part (chars part)))
    ∙ flat_append led (map encode_utf8_all s.front) (map encode_utf8_all (some_part (chars part)))
    ∙ ap (λ l. flat_map led l ++ flat_map led (map encode_utf8_all (some_part (chars part)))) s.front_is
    ∙ ap (λ l. flat_map led done ++ l) (led_part (chars part) (chars-encodes (chars part) (scalars-chars part part_is)))

pub part_is_text : (text : List ℕ) (done : List (List ℕ)) (cluster : List ℕ) (more : List (List ℕ)) (k : ℕ) → IsUtf8 text → graphemes true text ≡ done ++ cluster ∷ more → k ≤ length cluster
    → IsCharBoundary text (length (concat done) + k) → IsUtf8 (take k cluster)
unfolding segments
part_is_text text done cluster more k utf8 is le boundary =
    part_text text done cluster (concat more) k utf8 (in_text text done cluster more utf8 is (pieces_of (cut (is_grapheme_break true) [] (chars text) []) done cluster more is)).2 le boundary

pub cluster_end : (text : List ℕ) (done : List (List ℕ)) (cluster : List ℕ) (more : List (List ℕ)) → IsUtf8 text → graphemes true text ≡ done ++ cluster ∷ more → length (concat done) + length cluster ≤ length text
cluster_end text done cluster more utf8 is =
    let whole : text ≡ concat done ++ (cluster ++ concat more) = sym (concat-segments (is_grapheme_break true) text utf8) ∙ ap concat is ∙ concat_append done (cluster ∷ more) in
    omega (arith, ap length whole, length-append (concat done) (cluster ++ concat more), length-append cluster (concat more))

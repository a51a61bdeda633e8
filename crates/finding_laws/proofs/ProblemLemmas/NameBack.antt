-- The name of a problem's line ends where its place begins: no shorter name has a place.
use Rattle.std.proofs.Common.{◌≡◌, ℕ, zero, suc, ◌+◌, ◌-◌, ◌<◌, ◌≤◌, ◌==◌, ◌&&◌, ◌||◌, not, if◌then◌else◌, cond, Bool, true, false, List, [], ◌∷◌, ◌++◌, length, take, drop, get_or, Some, None, nat_le, nat_lt, refl, sym, ap, ap₂, ◌∙◌, subst, arith, eqb-true, ltb}
use borrow.Author.Tests.{ltb-true, ltb-false}
use Rattle.std.specs.List.{slice_index, list_all, prefix_len, position_or_len, range_with_len}
use Rattle.std.specs.Option.{option_map, option_or, unwrap_or}
use Rattle.std.proofs.lemmas.Bool.{and_from, and_parts, eq-eqb, le-leb, leb-true, ne_eqb, not-true, or_left, or_right}
use Rattle.std.proofs.lemmas.List.{get_or_append_left, get_or-drop, take-append-le, drop-append-le, length-append}
use Rattle.std.proofs.lemmas.List.Folds.{prefix_len-append}
use Rattle.std.proofs.lemmas.List.FromFn.{get_or-range_with_len, length-range_with_len}
use Rattle.std.proofs.lemmas.List.Sums.{fails_before_first, passes_at_first}
use Rattle.line_shapes.specs.declared.bytes.Kind.{Kind}
use Rattle.line_shapes.specs.declared.bytes.Kind.TheVariants.{Angled, Blank, Digit}
use Rattle.line_shapes.specs.declared.name.NameKind.TheVariants.{Any}
use Rattle.line_shapes.specs.declared.part.Part.{Part}
use Rattle.line_shapes.specs.declared.part.Part.TheVariants.{AnyBlanks, Byte, Blanks, Decimal}
use Rattle.line_shapes.specs.Bytes.{is_in}
use Rattle.line_shapes.specs.Name.{angle_behind, angle_len, begins_name, ends_name, first_fault, is_fault, is_file, is_name, is_plain, stops}
use Rattle.line_shapes.specs.Part.{Seen, before, may_begin, past_run}
use Rattle.line_shapes.specs.Place.{afters, first_fit, fits_behind, named, placed_at}
use Rattle.line_shapes.proofs.PartLemmas.{not_begun}
use Rattle.finding_laws.specs.Problems.Plain.{has_no_colon}

-- ---- colons

pub no_colon_at : (text : List ℕ) (k : ℕ) → has_no_colon text ≡ true → (slice_index text k == 0x3A) ≡ false
no_colon_at [] zero none = refl
no_colon_at [] (suc k) none = refl
no_colon_at (x ∷ xs) zero none = not-true (x == 0x3A) (and_parts (not (x == 0x3A)) (has_no_colon xs) none).0
no_colon_at (x ∷ xs) (suc k) none = no_colon_at xs k (and_parts (not (x == 0x3A)) (has_no_colon xs) none).1

drop_colonless : (k : ℕ) (text : List ℕ) → has_no_colon text ≡ true → has_no_colon (drop k text) ≡ true
drop_colonless zero text none = none
drop_colonless (suc k) [] none = refl
drop_colonless (suc k) (x ∷ xs) none = drop_colonless k xs (and_parts (not (x == 0x3A)) (has_no_colon xs) none).1

-- ---- a name is one in the whole line too

no_scheme : (stopped file b c : Bool) → (stopped || (not file && ((false && b) && c))) ≡ stopped
no_scheme true file b c = refl
no_scheme false true b c = refl
no_scheme false false b c = refl

fault_is : (word file : Bool) (text : List ℕ) (k : ℕ) → (slice_index text (k - 2) == 0x3A) ≡ false → is_fault word file text k ≡ stops word (slice_index text k) (slice_index text (k - 1))
fault_is word file text k other =
    ap (λ v. stops word (slice_index text k) (slice_index text (k - 1)) || (not file && ((v && (slice_index text (k - 1) == 0x2F)) && (slice_index text k == 0x2F)))) other
    ∙ no_scheme (stops word (slice_index text k) (slice_index text (k - 1))) file (slice_index text (k - 1) == 0x2F) (slice_index text k == 0x2F)

fault_same : (word : Bool) (name rest : List ℕ) (k : ℕ) → has_no_colon name ≡ true → k < length name → is_fault word (is_file (name ++ rest)) (name ++ rest) k ≡ is_fault word (is_file name) name k
fault_same word name rest k none low =
    let line : List ℕ = name ++ rest in
    fault_is word (is_file line) line k (ap (λ byte. byte == 0x3A) (get_or_append_left name rest 0 (k - 2) (omega arith)) ∙ no_colon_at name (k - 2) none)
    ∙ (ap₂ (stops word) (get_or_append_left name rest 0 k low) (get_or_append_left name rest 0 (k - 1) (omega arith))
    ∙ sym (fault_is word (is_file name) name k (no_colon_at name (k - 2) none)))

at_range : (n k : ℕ) → k < n → get_or (range_with_len 0 n) k 0 ≡ k
at_range n k low = let same : 0 + k ≡ k = omega arith in get_or-range_with_len 0 n k 0 low ∙ same

-- where two tests agree, the first that passes comes no earlier
no_earlier : (f g : ℕ → Bool) (n m : ℕ) → n ≤ m → ((k : ℕ) → k < n → g k ≡ f k) → n ≤ position_or_len f (range_with_len 0 n) → n ≤ position_or_len g (range_with_len 0 m)
no_earlier f g n m low same high =
    let at : ℕ = position_or_len g (range_with_len 0 m) in
    elim (ltb at n) as (λ v. ltb at n ≡ v → n ≤ at) [
      | true ↦ (λ is.
          let before_n : at < n = ltb-true at n is in
          let within : at < length (range_with_len 0 m) = omega (arith, length-range_with_len 0 m) in
          let here : g at ≡ true = ap g (sym (at_range m at (omega arith))) ∙ passes_at_first g (range_with_len 0 m) 0 within in
          let there : f at ≡ false = ap f (sym (at_range n at before_n)) ∙ fails_before_first f (range_with_len 0 n) at 0 (omega arith) in
          let clash : true ≡ false = sym here ∙ (same at before_n ∙ there) in cc)
      | false ↦ (λ is. ltb-false at n is)
    ] refl

fault_low : (n at count whole : ℕ) → n ≤ at → n ≤ whole → n ≤ unwrap_or (cond (nat_lt at count) (Some at) None) whole
fault_low n at count whole low high = elim (nat_lt at count) as (λ v. n ≤ unwrap_or (cond v (Some at) None) whole) [ true ↦ low | false ↦ high ]

fault_back : (n at count : ℕ) → count ≡ n → n ≤ unwrap_or (cond (nat_lt at count) (Some at) None) n → n ≤ at
fault_back n at count same is =
    elim (nat_lt at count) as (λ v. nat_lt at count ≡ v → n ≤ unwrap_or (cond v (Some at) None) n → n ≤ at) [ true ↦ (λ _ low. low) | false ↦ (λ so _. omega (arith, ltb-false at count so)) ] refl is

fault_later : (name rest : List ℕ) → has_no_colon name ≡ true → nat_le (length name) (first_fault Any name) ≡ true → nat_le (length name) (first_fault Any (name ++ rest)) ≡ true
unfolding first_fault
fault_later name rest none so =
    let line : List ℕ = name ++ rest in
    let f : ℕ → Bool = is_fault false (is_file name) name in
    let g : ℕ → Bool = is_fault false (is_file line) line in
    let n : ℕ = length name in
    let longer : n ≤ length line = omega (arith, length-append name rest) in
    let low : n ≤ position_or_len f (range_with_len 0 n) =
    fault_back n (position_or_len f (range_with_len 0 n)) (length (range_with_len 0 n)) (length-range_with_len 0 n)
    (leb-true n (unwrap_or (cond (nat_lt (position_or_len f (range_with_len 0 n)) (length (range_with_len 0 n))) (Some (position_or_len f (range_with_len 0 n))) None) n) so) in
    let later : n ≤ position_or_len g (range_with_len 0 (length line)) = no_earlier f g n (length line) longer (λ k high. fault_same false name rest k none high) low in
    le-leb n (unwrap_or (cond (nat_lt (position_or_len g (range_with_len 0 (length line))) (length (range_with_len 0 (length line)))) (Some (position_or_len g (range_with_len 0 (length line)))) None) (length line))
    (fault_low n (position_or_len g (range_with_len 0 (length line))) (length (range_with_len 0 (length line))) (length line) later longer)

-- no byte of a name is a fault
pub fault_none : (name : List ℕ) (k : ℕ) → nat_le (length name) (first_fault Any name) ≡ true → k < length name → is_fault false (is_file name) name k ≡ false
unfolding first_fault
fault_none name k so high =
    let f : ℕ → Bool = is_fault false (is_file name) name in
    let n : ℕ = length name in
    let low : n ≤ position_or_len f (range_with_len 0 n) =
    fault_back n (position_or_len f (range_with_len 0 n)) (length (range_with_len 0 n)) (length-range_with_len 0 n)
    (leb-true n (unwrap_or (cond (nat_lt (position_or_len f (range_with_len 0 n)) (length (range_with_len 0 n))) (Some (position_or_len f (range_with_len 0 n))) None) n) so) in
    ap f (sym (at_range n k high)) ∙ fails_before_first f (range_with_len 0 n) k 0 (omega arith)

begins_same : (name rest : List ℕ) → begins_name Any name ≡ true → begins_name Any (name ++ rest) ≡ true
begins_same [] rest begins = cc
begins_same (x ∷ xs) rest begins = begins

plain_more : (name rest : List ℕ) → has_no_colon name ≡ true → is_plain Any name (length name) ≡ true → is_plain Any (name ++ rest) (length name) ≡ true
plain_more name rest none is =
    let both : ((begins_name Any name && ends_name (take (length name) name)) ≡ true) × (nat_le (length name) (first_fault Any name) ≡ true) =
    and_parts (begins_name Any name && ends_name (take (length name) name)) (nat_le (length name) (first_fault Any name)) is in
    let two : (begins_name Any name ≡ true) × (ends_name (take (length name) name) ≡ true) = and_parts (begins_name Any name) (ends_name (take (length name) name)) both.0 in
    and_from (begins_name Any (name ++ rest) && ends_name (take (length name) (name ++ rest))) (nat_le (length name) (first_fault Any (name ++ rest)))
    (and_from (begins_name Any (name ++ rest)) (ends_name (take (length name) (name ++ rest))) (begins_same name rest two.0) (ap ends_name (take-append-le (length name) name rest (omega arith)) ∙ two.1))
    (fault_later name rest none both.1)

behind_same : (xs rest : List ℕ) → angle_behind (prefix_len (is_in Angled) xs) xs ≡ suc (length xs) → angle_behind (prefix_len (is_in Angled) (xs ++ rest)) (xs ++ rest) ≡ suc (length xs)
behind_same xs rest e =
    let n : ℕ = prefix_len (is_in Angled) xs in
    elim (nat_le 1 n && (slice_index xs n == 0x3E)) as (
    λ v. (nat_le 1 n && (slice_index xs n == 0x3E)) ≡ v → (if v then n + 2 else 0) ≡ suc (length xs) → angle_behind (prefix_len (is_in Angled) (xs ++ rest)) (xs ++ rest) ≡ suc (length xs)) [
      | true ↦ (λ both e.
          let within : n < length xs = omega (arith, e) in
          let same : prefix_len (is_in Angled) (xs ++ rest) ≡ n = prefix_len-append (is_in Angled) xs rest ∙ ap (λ v. cond v (length xs + prefix_len (is_in Angled) rest) n) (ne_eqb n (length xs) (λ e. omega (arith, e, within))) in
          ap (λ m. angle_behind m (xs ++ rest)) same
          ∙ (ap (λ byte. if nat_le 1 n && (byte == 0x3E) then n + 2 else 0) (get_or_append_left xs rest 0 n within) ∙ (ap (λ v. if v then n + 2 else 0) both ∙ e)))
      | false ↦ (λ _ e. absurd (omega (arith, e)))
    ] refl e

angle_same : (name rest : List ℕ) → 1 ≤ length name → angle_len name ≡ length name → angle_len (name ++ rest) ≡ length name
angle_same [] rest low e = absurd (omega arith)
angle_same (x ∷ xs) rest low e =
    elim (x == 0x3C) as (
    λ v. (if v then angle_behind (prefix_len (is_in Angled) xs) xs else 0) ≡ suc (length xs) → (if v then angle_behind (prefix_len (is_in Angled) (xs ++ rest)) (xs ++ rest) else 0) ≡ suc (length xs)) [
      | true ↦ (λ e. behind_same xs rest e)
      | false ↦ (λ e. absurd (omega (arith, e)))
    ] e

pub name_in_line : (name rest : List ℕ) → has_no_colon name ≡ true → is_name Any name (length name) ≡ true → is_name Any (name ++ rest) (length name) ≡ true
name_in_line name rest none is =
    let n : ℕ = length name in
    elim (nat_le 1 n && (angle_len name == n)) as (λ v. (nat_le 1 n && (angle_len name == n)) ≡ v → (v || is_plain Any name n) ≡ true → is_name Any (name ++ rest) n ≡ true) [
      | true ↦ (λ angled _.
          let two : (nat_le 1 n ≡ true) × ((angle_len name == n) ≡ true) = and_parts (nat_le 1 n) (angle_len name == n) angled in
          or_left (nat_le 1 n && (angle_len (name ++ rest) == n)) (is_plain Any (name ++ rest) n)
          (and_from (nat_le 1 n) (angle_len (name ++ rest) == n) two.0 (eq-eqb (angle_len (name ++ rest)) n (angle_same name rest (leb-true 1 n two.0) (eqb-true (angle_len name) n two.1)))))
      | false ↦ (λ _ plain. or_right (nat_le 1 n && (angle_len (name ++ rest) == n)) (is_plain Any (name ++ rest) n) (plain_more name rest none plain))
    ] refl is

pub name_some : (name : List ℕ) → is_name Any name (length name) ≡ true → 1 ≤ length name
name_some [] is = cc
name_some (x ∷ xs) is = omega arith

-- ---- no shorter name has a place

-- behind the first colon of a text stands a blank
abbrev blank_behind_colon : List ℕ → Bool
blank_behind_colon [] = false
blank_behind_colon (x ∷ xs) = if x == 0x3A then is_in Blank (slice_index xs 0) else blank_behind_colon xs

first_colon : (text tail : List ℕ) → has_no_colon text ≡ true → blank_behind_colon (text ++ 0x3A ∷ tail) ≡ is_in Blank (slice_index tail 0)
first_colon [] tail none = refl
first_colon (x ∷ xs) tail none =
    let parts : (not (x == 0x3A) ≡ true) × (has_no_colon xs ≡ true) = and_parts (not (x == 0x3A)) (has_no_colon xs) none in
    ap (λ v. if v then is_in Blank (slice_index (xs ++ 0x3A ∷ tail) 0) else blank_behind_colon (xs ++ 0x3A ∷ tail)) (not-true (x == 0x3A) parts.0) ∙ first_colon xs tail parts.1

pub not_this : (p : ℕ → Bool) (x y : ℕ) → p x ≡ true → p y ≡ false → (x == y) ≡ false
not_this p x y is is_not =
    elim (x == y) as (λ v. (x == y) ≡ v → v ≡ false)
    [ true ↦ (λ same. sym is ∙ (ap p (eqb-true x y same) ∙ is_not)) | false ↦ (λ _. refl) ] refl

-- a run of bytes that are no colons doesn't matter
past_colonless : (kind : Kind) (text : List ℕ) → is_in kind 0x3A ≡ false → blank_behind_colon (drop (prefix_len (is_in kind) text) text) ≡ blank_behind_colon text
past_colonless kind [] other = refl
past_colonless kind (x ∷ xs) other =
    let n : ℕ = prefix_len (is_in kind) xs in
    elim (is_in kind x) as (λ v. is_in kind x ≡ v → blank_behind_colon (drop (cond v (1 + n) 0) (x ∷ xs)) ≡ blank_behind_colon (x ∷ xs)) [
      | true ↦ (λ is.
          let longer : 1 + n ≡ suc n = omega arith in
          ap (λ m. blank_behind_colon (drop m (x ∷ xs))) longer
          ∙ (past_colonless kind xs other ∙ sym (ap (λ v. if v then is_in Blank (slice_index xs 0) else blank_behind_colon xs) (not_this (is_in kind) x 0x3A is other))))
      | false ↦ (λ _. refl)
    ] refl

-- the first colon of a shape is followed by blanks
abbrev begins_blanks : List Part → Bool
begins_blanks (Blanks ∷ parts) = true
begins_blanks _ = false

abbrev wants_blank : List Part → Bool
wants_blank [] = false
wants_blank (Byte byte ∷ parts) = if byte == 0x3A then begins_blanks parts else wants_blank parts
wants_blank (Decimal figure ∷ parts) = wants_blank parts
wants_blank (Blanks ∷ parts) = wants_blank parts
wants_blank (AnyBlanks ∷ parts) = wants_blank parts
wants_blank _ = false

blanks_not : (parts : List Part) (text : List ℕ) → begins_blanks parts ≡ true → is_in Blank (slice_index text 0) ≡ false → may_begin parts text ≡ false
blanks_not (Blanks ∷ parts) text begins none = ap (λ v. unwrap_or (option_map (may_begin parts) (past_run Blank v text)) false) none
blanks_not parts text begins none = cc

run_not : (kind : Kind) (begins : Bool) (parts : List Part) (text : List ℕ) → may_begin parts (drop (prefix_len (is_in kind) text) text) ≡ false → unwrap_or (option_map (may_begin parts) (past_run kind begins text)) false ≡ false
run_not kind true parts text none = none
run_not kind false parts text none = refl

behind_byte : (byte : ℕ) (parts : List Part) (xs : List ℕ) → (if byte == 0x3A then begins_blanks parts else wants_blank parts) ≡ true → blank_behind_colon (byte ∷ xs) ≡ false
    → (wants_blank parts ≡ true → blank_behind_colon xs ≡ false → may_begin parts xs ≡ false) → may_begin parts xs ≡ false
behind_byte byte parts xs wants none later =
    elim (byte == 0x3A) as (
    λ v. (if v then begins_blanks parts else wants_blank parts) ≡ true → (if v then is_in Blank (slice_index xs 0) else blank_behind_colon xs) ≡ false → may_begin parts xs ≡ false) [
      | true ↦ (λ wants none. blanks_not parts xs wants none)
      | false ↦ (λ wants none. later wants none)
    ] wants none

not_there : (parts : List Part) (text : List ℕ) → wants_blank parts ≡ true → blank_behind_colon text ≡ false → may_begin parts text ≡ false
not_there [] text wants none = cc
not_there (Byte byte ∷ parts) [] wants none = refl
not_there (Byte byte ∷ parts) (x ∷ xs) wants none =
    elim (x == byte) as (λ v. (x == byte) ≡ v → unwrap_or (option_map (may_begin parts) (if v then Some xs else None)) false ≡ false) [
      | true ↦ (λ same. behind_byte byte parts xs wants (subst (λ b. blank_behind_colon (b ∷ xs) ≡ false) (eqb-true x byte same) none) (not_there parts xs))
      | false ↦ (λ _. refl)
    ] refl
not_there (Decimal figure ∷ parts) text wants none =
    run_not Digit (is_in Digit (slice_index text 0)) parts text (not_there parts (drop (prefix_len (is_in Digit) text) text) wants (past_colonless Digit text refl ∙ none))
not_there (Blanks ∷ parts) text wants none =
    run_not Blank (is_in Blank (slice_index text 0)) parts text (not_there parts (drop (prefix_len (is_in Blank) text) text) wants (past_colonless Blank text refl ∙ none))
not_there (AnyBlanks ∷ parts) text wants none = not_there parts (drop (prefix_len (is_in Blank) text) text) wants (past_colonless Blank text refl ∙ none)
not_there parts text wants none = cc

abbrev opens_with_colon : List Part → Bool
opens_with_colon (Byte byte ∷ parts) = byte == 0x3A
opens_with_colon _ = false

colon_not : (shape : List Part) (text : List ℕ) → opens_with_colon shape ≡ true → (slice_index text 0 == 0x3A) ≡ false → may_begin shape text ≡ false
colon_not (Byte byte ∷ parts) [] opens other = refl
colon_not (Byte byte ∷ parts) (x ∷ xs) opens other =
    ap (λ v. unwrap_or (option_map (may_begin parts) (if v then Some xs else None)) false) (subst (λ b. (x == b) ≡ false) (sym (eqb-true byte 0x3A opens)) other)
colon_not shape text opens other = cc

shape_not : (shape : List Part) (text : List ℕ) → (opens_with_colon shape || wants_blank shape) ≡ true → (slice_index text 0 == 0x3A) ≡ false → blank_behind_colon text ≡ false → may_begin shape text ≡ false
shape_not shape text is other none =
    elim (opens_with_colon shape) as (λ v. opens_with_colon shape ≡ v → (v || wants_blank shape) ≡ true → may_begin shape text ≡ false) [
      | true ↦ (λ opens _. colon_not shape text opens other)
      | false ↦ (λ _ wants. not_there shape text wants none)
    ] refl is

none_fits : (shapes : List (List Part)) (s : Seen) → list_all (λ shape. opens_with_colon shape || wants_blank shape) shapes ≡ true → (slice_index s.rest 0 == 0x3A) ≡ false → blank_behind_colon s.rest ≡ false → first_fit shapes s ≡ None
none_fits [] s all other none = refl
none_fits (shape ∷ shapes) s all other none =
    let parts : ((opens_with_colon shape || wants_blank shape) ≡ true) × (list_all (λ shape. opens_with_colon shape || wants_blank shape) shapes ≡ true) =
    and_parts (opens_with_colon shape || wants_blank shape) (list_all (λ shape. opens_with_colon shape || wants_blank shape) shapes) all in
    ap (λ found. option_or found (first_fit shapes s)) (not_begun shape s (shape_not shape s.rest parts.0 other none)) ∙ none_fits shapes s parts.1 other none

-- each row of the table begins with a colon, or has blanks behind its first one
afters_want : list_all (λ shape. opens_with_colon shape || wants_blank shape) afters ≡ true
unfolding afters
afters_want = refl

pub no_shorter : (name tail : List ℕ) (k : ℕ) → has_no_colon name ≡ true → is_in Blank (slice_index tail 0) ≡ false → k < length name → placed_at Any (before (name ++ 0x3A ∷ tail)) k ≡ None
unfolding placed_at
no_shorter name tail k none other low =
    let line : List ℕ = name ++ 0x3A ∷ tail in
    let same : k + 0 ≡ k = omega arith in
    let first : (slice_index (drop k line) 0 == 0x3A) ≡ false =
    ap (λ byte. byte == 0x3A) (get_or-drop k line 0 0 ∙ (ap (λ n. get_or line n 0) same ∙ get_or_append_left name (0x3A ∷ tail) 0 k low)) ∙ no_colon_at name k none in
    let apart : blank_behind_colon (drop k line) ≡ false =
    ap blank_behind_colon (drop-append-le k name (0x3A ∷ tail) (omega arith)) ∙ (first_colon (drop k name) tail (drop_colonless k name none) ∙ other) in
    let nothing : first_fit afters (record (before line) { rest = drop k line }) ≡ None = none_fits afters (record (before line) { rest = drop k line }) afters_want first apart in
    elim (is_name Any line k) as (λ v. (if v then option_map (named (before line) k) (fits_behind (before line) k) else None) ≡ None)
    [ true ↦ ap (option_map (named (before line) k)) nothing | false ↦ refl ]

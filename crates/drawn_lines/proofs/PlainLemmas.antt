-- Paint ends with its line: a text without its paint has the same lines, each without its own.
use Rattle.std.proofs.Common.{◌≡◌, ℕ, zero, suc, ◌+◌, ◌-◌, ◌<◌, ◌≤◌, ◌==◌, if◌then◌else◌, not, Bool, true, false, cond, List, [], ◌∷◌, ◌++◌, length, map, All, take, drop, Some, None, refl, sym, ap, ap₂, ◌∙◌, append_assoc, append-nil, length-drop, arith}
use Rattle.std.specs.Prelude.{unwrap_or, slice_index}
use Rattle.std.specs.List.{onto_first, prefix_len, slice_split}
use Rattle.std.proofs.lemmas.Bool.Decides.{nat_tests}
use Rattle.std.proofs.lemmas.List.{drop-append-le}
use Rattle.std.proofs.lemmas.List.Elements.{All-nil, All-cons, All-head, All-tail, All-append}
use Rattle.std.proofs.lemmas.List.Splits.{length-slice_split, slice_split-cons_yes, slice_split-cons_no, slice_split_none, slice_split_at}
use Rattle.std.proofs.lemmas.List.Sums.{prefix_len-le-length}
use Rattle.memchr.specs.Find.{is_byte}
use Rattle.tool_lines.specs.Lines.{lines_of as lines_in, without_cr}
use Rattle.tool_lines.specs.Paint.{behind_bracket, behind_escape, behind_paren, color_end, color_len, ends_color, ends_link, is_color_byte, link_end, link_len, paint_len, unpainted, unpainted_from}
use Rattle.fed_lines.proofs.FeedLemmas.{some_length}
use Rattle.drawn_lines.specs.Text.{begun_with, came_behind, came_of, lines_in_text, lines_of, read_line, without_bare_end, without_lf, without_mark}

abbrev pub cuts : List ℕ → List (List ℕ)
cuts text = slice_split (is_byte 0x0A) text

abbrev pub Uncut : List ℕ → Type 0
Uncut part = All (λ byte. is_byte 0x0A byte ≡ false) part

-- ---- the paint that stands in a line is that which stands before its LF

prefix_cut : (p : ℕ → Bool) (c more : List ℕ) → p 0x0A ≡ false → prefix_len p (c ++ 0x0A ∷ more) ≡ prefix_len p c
prefix_cut p [] more is = ap (λ b. cond b (1 + prefix_len p more) 0) is
prefix_cut p (x ∷ c) more is = ap (λ n. cond (p x) (1 + n) 0) (prefix_cut p c more is)

index_cut : (c more : List ℕ) (k : ℕ) → k ≤ length c → ends_color (slice_index (c ++ 0x0A ∷ more) k) ≡ ends_color (slice_index c k)
index_cut [] more zero within = refl
index_cut [] more (suc k) within = absurd (omega arith)
index_cut (x ∷ c) more zero within = refl
index_cut (x ∷ c) more (suc k) within = index_cut c more k (omega arith)

index_high : (c : List ℕ) (k : ℕ) → ends_color (slice_index c k) ≡ true → k < length c
index_high [] k e = cc
index_high (x ∷ c) zero e = omega arith
index_high (x ∷ c) (suc k) e = let high : k < length c = index_high c k e in omega (arith, high)

color_cut : (c more : List ℕ) → color_len (c ++ 0x0A ∷ more) ≡ color_len c
color_cut c more =
    ap (λ n. color_end n (c ++ 0x0A ∷ more)) (prefix_cut is_color_byte c more refl)
    ∙ ap (λ v. if v then prefix_len is_color_byte c + 3 else 0) (index_cut c more (prefix_len is_color_byte c) (prefix_len-le-length is_color_byte c))

color_within : (c : List ℕ) → color_len c ≤ length c + 2
color_within c =
    let n : ℕ = prefix_len is_color_byte c in
    elim (ends_color (slice_index c n)) as (λ v. ends_color (slice_index c n) ≡ v → (if v then n + 3 else 0) ≤ length c + 2) [
      | true ↦ (λ e. let high : n < length c = index_high c n e in omega (arith, high))
      | false ↦ (λ e. omega arith)
    ] refl

neither : (b : Bool) → ◌≡◌ {A = ℕ} (if b then 0 else 0) 0
neither true = refl
neither false = refl

link_end_cut : (n : ℕ) (d more : List ℕ) → link_end n (d ++ 0x0A ∷ more) ≡ link_end n d
link_end_cut n [] [] = refl
link_end_cut n [] (m ∷ more) = refl
link_end_cut n (x ∷ []) more = ap (λ z. if x == 0x07 then n + 5 else z) (neither (x == 0x1B))
link_end_cut n (x ∷ (y ∷ d)) more = refl

link_end_within : (n : ℕ) (d : List ℕ) → link_end n d ≤ n + length d + 4
link_end_within n [] = omega arith
link_end_within n (x ∷ []) = elim (x == 0x07) as (λ v. (if v then n + 5 else 0) ≤ n + 1 + 4) [ true ↦ omega arith | false ↦ omega arith ]
link_end_within n (x ∷ (y ∷ d)) =
    elim (x == 0x07) as (λ v. (if v then n + 5 else if x == 0x1B then (if y == 0x5C then n + 6 else 0) else 0) ≤ n + length (x ∷ (y ∷ d)) + 4) [
      | true ↦ omega arith
      | false ↦ elim (x == 0x1B) as (λ v. (if v then (if y == 0x5C then n + 6 else 0) else 0) ≤ n + length (x ∷ (y ∷ d)) + 4) [
        | true ↦ elim (y == 0x5C) as (λ v. (if v then n + 6 else 0) ≤ n + length (x ∷ (y ∷ d)) + 4) [ true ↦ omega arith | false ↦ omega arith ]
        | false ↦ omega arith
      ]
    ]

abbrev in_link : ℕ → Bool
in_link byte = not (ends_link byte)

link_cut : (c more : List ℕ) → link_len (c ++ 0x0A ∷ more) ≡ link_len c
link_cut c more =
    ap (λ k. link_end k (drop k (c ++ 0x0A ∷ more))) (prefix_cut in_link c more refl)
    ∙ (ap (link_end (prefix_len in_link c)) (drop-append-le (prefix_len in_link c) c (0x0A ∷ more) (prefix_len-le-length in_link c))
    ∙ link_end_cut (prefix_len in_link c) (drop (prefix_len in_link c) c) more)

link_within : (c : List ℕ) → link_len c ≤ length c + 4
link_within c =
    let n : ℕ = prefix_len in_link c in
    let end : link_end n (drop n c) ≤ n + length (drop n c) + 4 = link_end_within n (drop n c) in
    omega (arith, end, length-drop n c, prefix_len-le-length in_link c)

bracket_cut : (c more : List ℕ) → behind_bracket (c ++ 0x0A ∷ more) ≡ behind_bracket c
bracket_cut [] [] = refl
bracket_cut [] (m ∷ more) = refl
bracket_cut (x ∷ []) more = neither (x == 0x38)
bracket_cut (x ∷ (y ∷ c)) more = ap (λ n. if x == 0x38 then (if y == 0x3B then n else 0) else 0) (link_cut c more)

bracket_within : (c : List ℕ) → behind_bracket c ≤ length c + 2
bracket_within [] = omega arith
bracket_within (x ∷ []) = omega arith
bracket_within (x ∷ (y ∷ c)) =
    let rest : link_len c ≤ length c + 4 = link_within c in
    elim (x == 0x38) as (λ v. (if v then (if y == 0x3B then link_len c else 0) else 0) ≤ length (x ∷ (y ∷ c)) + 2) [
      | true ↦ elim (y == 0x3B) as (λ v. (if v then link_len c else 0) ≤ length (x ∷ (y ∷ c)) + 2) [ true ↦ omega (arith, rest) | false ↦ omega arith ]
      | false ↦ omega arith
    ]

paren_cut : (c more : List ℕ) → behind_paren (c ++ 0x0A ∷ more) ≡ behind_paren c
paren_cut [] more = refl
paren_cut (x ∷ c) more = refl

paren_within : (c : List ℕ) → behind_paren c ≤ length c + 2
paren_within [] = omega arith
paren_within (x ∷ c) = elim (x == 0x42) as (λ v. (if v then 3 else 0) ≤ length (x ∷ c) + 2) [ true ↦ omega arith | false ↦ omega arith ]

escape_cut : (c more : List ℕ) → behind_escape (c ++ 0x0A ∷ more) ≡ behind_escape c
escape_cut [] more = refl
escape_cut (x ∷ c) more =
    ap₂ (λ a b. if x == 0x5B then a else if x == 0x5D then b else if x == 0x28 then behind_paren (c ++ 0x0A ∷ more) else 0) (color_cut c more) (bracket_cut c more)
    ∙ ap (λ n. if x == 0x5B then color_len c else if x == 0x5D then behind_bracket c else if x == 0x28 then n else 0) (paren_cut c more)

escape_within : (c : List ℕ) → behind_escape c ≤ length c + 1
escape_within [] = omega arith
escape_within (x ∷ c) =
    let color : color_len c ≤ length c + 2 = color_within c in
    let bracket : behind_bracket c ≤ length c + 2 = bracket_within c in
    let paren : behind_paren c ≤ length c + 2 = paren_within c in
    elim (x == 0x5B) as (λ v. (if v then color_len c else if x == 0x5D then behind_bracket c else if x == 0x28 then behind_paren c else 0) ≤ length (x ∷ c) + 1) [
      | true ↦ omega (arith, color)
      | false ↦ elim (x == 0x5D) as (λ v. (if v then behind_bracket c else if x == 0x28 then behind_paren c else 0) ≤ length (x ∷ c) + 1) [
        | true ↦ omega (arith, bracket)
        | false ↦ elim (x == 0x28) as (λ v. (if v then behind_paren c else 0) ≤ length (x ∷ c) + 1) [ true ↦ omega (arith, paren) | false ↦ omega arith ]
      ]
    ]

paint_cut : (x : ℕ) (c more : List ℕ) → paint_len (x ∷ (c ++ 0x0A ∷ more)) ≡ paint_len (x ∷ c)
paint_cut x c more = ap (λ n. if x == 0x1B then n else 0) (escape_cut c more)

paint_within : (x : ℕ) (c : List ℕ) → paint_len (x ∷ c) ≤ length c + 1
paint_within x c = elim (x == 0x1B) as (λ v. (if v then behind_escape c else 0) ≤ length c + 1) [ true ↦ escape_within c | false ↦ omega arith ]

-- ---- a text without its paint

plain_line : (k : ℕ) (c more : List ℕ) → k ≤ length c → unpainted_from k (c ++ 0x0A ∷ more) ≡ unpainted_from k c ++ 0x0A ∷ unpainted more
unfolding unpainted_from
plain_line zero [] more within = refl
plain_line (suc k) [] more within = absurd (omega arith)
plain_line (suc k) (x ∷ c) more within = plain_line k c more (omega arith)
plain_line zero (x ∷ c) more within =
    let m : ℕ = paint_len (x ∷ c) in
    let least : m ≤ length c + 1 = paint_within x c in
    ap (λ n. if n == 0 then x ∷ unpainted_from 0 (c ++ 0x0A ∷ more) else unpainted_from (n - 1) (c ++ 0x0A ∷ more)) (paint_cut x c more)
    ∙ elim (m == 0) as (λ v.
    (if v then x ∷ unpainted_from 0 (c ++ 0x0A ∷ more) else unpainted_from (m - 1) (c ++ 0x0A ∷ more))
    ≡ (if v then x ∷ unpainted_from 0 c else unpainted_from (m - 1) c) ++ 0x0A ∷ unpainted more) [
      | true ↦ ap (λ t. x ∷ t) (plain_line 0 c more (omega arith))
      | false ↦ plain_line (m - 1) c more (omega (arith, least))
    ]

plain_uncut : (k : ℕ) (c : List ℕ) → Uncut c → Uncut (unpainted_from k c)
unfolding unpainted_from
plain_uncut k [] uncut = All-nil (λ byte. is_byte 0x0A byte ≡ false)
plain_uncut (suc k) (x ∷ c) uncut = plain_uncut k c (All-tail (λ byte. is_byte 0x0A byte ≡ false) x c uncut)
plain_uncut zero (x ∷ c) uncut =
    let m : ℕ = paint_len (x ∷ c) in
    let rest : Uncut c = All-tail (λ byte. is_byte 0x0A byte ≡ false) x c uncut in
    elim (m == 0) as (λ v. Uncut (if v then x ∷ unpainted_from 0 c else unpainted_from (m - 1) c)) [
      | true ↦ All-cons (λ byte. is_byte 0x0A byte ≡ false) x (unpainted_from 0 c) (All-head (λ byte. is_byte 0x0A byte ≡ false) x c uncut) (plain_uncut 0 c rest)
      | false ↦ plain_uncut (m - 1) c rest
    ]

-- ---- its lines

pub cuts_some : (text : List ℕ) → 1 ≤ length (cuts text)
cuts_some text = omega (arith, length-slice_split (is_byte 0x0A) text)

pub begun_empty : (lines : List (List ℕ)) → 1 ≤ length lines → lines ≡ begun_with [] lines
begun_empty [] some = absurd (omega (arith, some))
begun_empty (line ∷ rest) some = refl

begun_onto : (c : List ℕ) (y : ℕ) (lines : List (List ℕ)) → begun_with c (onto_first y lines) ≡ begun_with (c ++ y ∷ []) lines
begun_onto c y [] = refl
begun_onto c y (line ∷ rest) = ap (λ (l : List ℕ). l ∷ rest) (sym (append_assoc c (y ∷ []) line))

pub lf_is : (y : ℕ) → (y == 0x0A) ≡ true → y ≡ 0x0A
lf_is y e = grind (arith, nat_tests, e)

-- a text with a part of a line before it
plain_behind : (c text : List ℕ) → Uncut c → cuts (unpainted (c ++ text)) ≡ map unpainted (begun_with c (cuts text))
plain_behind c [] uncut =
    ap (λ t. cuts (unpainted t)) (append-nil c) ∙ (slice_split_none (is_byte 0x0A) (unpainted c) (plain_uncut 0 c uncut) ∙ ap (λ t. unpainted t ∷ []) (sym (append-nil c)))
plain_behind c (y ∷ text) uncut =
    elim (y == 0x0A) as (λ v. (y == 0x0A) ≡ v → cuts (unpainted (c ++ y ∷ text)) ≡ map unpainted (begun_with c (cuts (y ∷ text)))) [
      | true ↦ (λ e.
          ap (λ b. cuts (unpainted (c ++ b ∷ text))) (lf_is y e)
          ∙ (ap cuts (plain_line 0 c text (omega arith))
          ∙ (slice_split_at (is_byte 0x0A) (unpainted c) 0x0A (unpainted text) (plain_uncut 0 c uncut) refl
          ∙ (ap (λ ls. unpainted c ∷ ls) (plain_behind [] text (All-nil (λ byte. is_byte 0x0A byte ≡ false)) ∙ ap (map unpainted) (sym (begun_empty (cuts text) (cuts_some text))))
          ∙ (ap (λ t. unpainted t ∷ map unpainted (cuts text)) (sym (append-nil c))
          ∙ ap (λ ls. map unpainted (begun_with c ls)) (sym (slice_split-cons_yes (is_byte 0x0A) y text e)))))))
      | false ↦ (λ e.
          ap (λ t. cuts (unpainted t)) (sym (append_assoc c (y ∷ []) text))
          ∙ (plain_behind (c ++ y ∷ []) text
          (All-append (λ byte. is_byte 0x0A byte ≡ false) c (y ∷ []) uncut (All-cons (λ byte. is_byte 0x0A byte ≡ false) y [] e (All-nil (λ byte. is_byte 0x0A byte ≡ false))))
          ∙ (ap (map unpainted) (sym (begun_onto c y (cuts text)))
          ∙ ap (λ ls. map unpainted (begun_with c ls)) (sym (slice_split-cons_no (is_byte 0x0A) y text e)))))
    ] refl

-- ---- a last LF begins no line

-- the last line doesn't count where it is empty
abbrev without_empty_end : List (List ℕ) → List (List ℕ)
without_empty_end [] = []
without_empty_end (line ∷ []) = if length line == 0 then [] else line ∷ []
without_empty_end (line ∷ (next ∷ rest)) = line ∷ without_empty_end (next ∷ rest)

ended_line : (line : List ℕ) (rest : List (List ℕ)) → 1 ≤ length rest → without_empty_end (line ∷ rest) ≡ line ∷ without_empty_end rest
ended_line line [] some = absurd (omega (arith, some))
ended_line line (next ∷ rest) some = refl

end_onto : (x : ℕ) (lines : List (List ℕ)) → without_empty_end (onto_first x lines) ≡ onto_first x (without_empty_end lines)
end_onto x [] = ap (λ v. if v then [] else (x ∷ []) ∷ []) (some_length x [])
end_onto x ([] ∷ []) = ap (λ v. if v then [] else (x ∷ []) ∷ []) (some_length x [])
end_onto x ((y ∷ line) ∷ []) =
    ap (λ v. if v then [] else (x ∷ (y ∷ line)) ∷ []) (some_length x (y ∷ line)) ∙ ap (λ v. onto_first x (if v then [] else (y ∷ line) ∷ [])) (sym (some_length y line))
end_onto x (line ∷ (next ∷ rest)) = refl

lf_cons : (x y : ℕ) (text : List ℕ) → without_lf (x ∷ (y ∷ text)) ≡ x ∷ without_lf (y ∷ text)
lf_cons x y text =
    let n : ℕ = length (y ∷ text) - 1 in
    let more : length (x ∷ (y ∷ text)) - 1 ≡ suc n = omega arith in
    ap (λ k. unwrap_or (if slice_index (x ∷ (y ∷ text)) k == 0x0A then Some (take k (x ∷ (y ∷ text))) else None) (x ∷ (y ∷ text))) more
    ∙ elim (slice_index (y ∷ text) n == 0x0A) as (λ v.
    unwrap_or (if v then Some (x ∷ take n (y ∷ text)) else None) (x ∷ (y ∷ text)) ≡ x ∷ unwrap_or (if v then Some (take n (y ∷ text)) else None) (y ∷ text)) [
      | true ↦ refl
      | false ↦ refl
    ]

one_byte : (x : ℕ) → without_empty_end (cuts (x ∷ [])) ≡ cuts (without_lf (x ∷ []))
one_byte x =
    elim (x == 0x0A) as (λ v. (x == 0x0A) ≡ v →
    without_empty_end (cond v ([] ∷ [] ∷ []) ((x ∷ []) ∷ [])) ≡ cuts (unwrap_or (if v then Some [] else None) (x ∷ []))) [
      | true ↦ (λ e. refl)
      | false ↦ (λ e. ap (λ v. if v then [] else (x ∷ []) ∷ []) (some_length x []) ∙ sym (slice_split-cons_no (is_byte 0x0A) x [] e))
    ] refl

end_dropped : (x : ℕ) (text : List ℕ) → without_empty_end (cuts (x ∷ text)) ≡ cuts (without_lf (x ∷ text))
end_dropped x [] = one_byte x
end_dropped x (y ∷ text) =
    elim (x == 0x0A) as (λ v. without_empty_end (cond v ([] ∷ cuts (y ∷ text)) (onto_first x (cuts (y ∷ text)))) ≡ cond v ([] ∷ cuts (without_lf (y ∷ text))) (onto_first x (cuts (without_lf (y ∷ text))))) [
      | true ↦ ended_line [] (cuts (y ∷ text)) (cuts_some (y ∷ text)) ∙ ap (λ (ls : List (List ℕ)). [] ∷ ls) (end_dropped y text)
      | false ↦ end_onto x (cuts (y ∷ text)) ∙ ap (onto_first x) (end_dropped y text)
    ]
    ∙ ap cuts (sym (lf_cons x y text))

text_lines : (text : List ℕ) → map without_cr (without_empty_end (cuts text)) ≡ lines_in_text text
unfolding lines_in_text lines_in
text_lines [] = refl
text_lines (x ∷ text) =
    ap (map without_cr) (end_dropped x text) ∙ ap (λ v. if v then [] else map without_cr (cuts (without_lf (x ∷ text)))) (sym (some_length x text))

-- lines as they came, each read
read_ended : (lines : List (List ℕ)) → map read_line (without_bare_end lines) ≡ map without_cr (without_empty_end (map unpainted lines))
unfolding read_line
read_ended [] = refl
read_ended (line ∷ []) =
    elim (length (unpainted line) == 0) as (λ v. map read_line (if v then [] else line ∷ []) ≡ map without_cr (if v then [] else unpainted line ∷ [])) [
      | true ↦ refl
      | false ↦ refl
    ]
read_ended (line ∷ (next ∷ rest)) = ap (λ ls. without_cr (unpainted line) ∷ ls) (read_ended (next ∷ rest))

-- the lines of a text as they came are its lines, once they are read
pub lines_are : (text : List ℕ) → map read_line (came_of text) ≡ lines_of text
unfolding came_behind
lines_are text =
    read_ended (begun_with [] (cuts (without_mark text)))
    ∙ (ap (λ ls. map without_cr (without_empty_end ls)) (sym (plain_behind [] (without_mark text) (All-nil (λ byte. is_byte 0x0A byte ≡ false))))
    ∙ text_lines (unpainted (without_mark text)))

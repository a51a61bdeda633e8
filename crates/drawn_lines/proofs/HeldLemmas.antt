-- Lines out of bytes that come.
use Rattle.std.proofs.Common.{◌≡◌, ℕ, ◌+◌, ◌-◌, ◌<◌, ◌≤◌, ◌==◌, get_or, if◌then◌else◌, true, false, List, [], ◌∷◌, ◌++◌, length, map, take, drop, min, Err, Ok, Result, Some, None, Vec, Global, refl, sym, ap, ap₂, ◌∙◌, subst, append_assoc, append-nil, arith}
use Rattle.std.specs.Prelude.{IfOk, nat_eq}
use Rattle.std.specs.List.{onto_first, starts_with}
use Rattle.std.specs.Vec.{vec_len}
use Rattle.std.proofs.lemmas.Bool.{false_from_ne_true}
use Rattle.std.proofs.lemmas.Bool.Decides.{nat_tests}
use Rattle.std.proofs.lemmas.List.{drop_more, get_or-take, length-drop, length-map, length-take, map-append, take-append-drop, take_all}
use Rattle.std.proofs.lemmas.List.Elements.{All-from_get_or, All-head, All-tail}
use Rattle.std.proofs.lemmas.List.Splits.{slice_split-cons_no, slice_split_at}
use Rattle.memchr.specs.Find.{IsFirstByte, is_byte}
use Rattle.tool_lines.specs.Lines.{without_cr}
use Rattle.tool_lines.specs.Paint.{unpainted}
use Rattle.fed_lines.proofs.FeedLemmas.{turned_away}
use Rattle.drawn_lines.specs.Text.{AreRead, begun_with, came_behind, came_of, came_to_come, goes_on, lines_of, read_line, rest_to_come, without_bare_end, without_mark}
use Rattle.drawn_lines.specs.declared.held.HeldLines.{HeldLines}
use Rattle.drawn_lines.proofs.LineLemmas.{drop_within}
use Rattle.drawn_lines.proofs.PlainLemmas.{Uncut, begun_empty, cuts, cuts_some, lf_is, lines_are}

-- no LF stands before the first one, and none where there is none
pub before_first : (text : List ℕ) (at : ℕ) → IsFirstByte (is_byte 0x0A) text (Some at) → Uncut (take at text)
before_first text at first =
    All-from_get_or (λ x. is_byte 0x0A x ≡ false) (take at text) 0
    (λ k within.
    let low : k < at = omega (arith, within, length-take at text) in
    subst (λ x. is_byte 0x0A x ≡ false) (sym (get_or-take at text k 0 low)) (false_from_ne_true (is_byte 0x0A (get_or text k 0)) (first.0.before k (omega arith) low)))

pub none_there : (text : List ℕ) → IsFirstByte (is_byte 0x0A) text None → Uncut text
none_there text first =
    All-from_get_or (λ x. is_byte 0x0A x ≡ false) text 0 (λ k within. false_from_ne_true (is_byte 0x0A (get_or text k 0)) (first k (omega arith) within))

pub cut_at : (text : List ℕ) (at : ℕ) → IsFirstByte (is_byte 0x0A) text (Some at)
    → text ≡ take at text ++ 0x0A ∷ take (length text - (at + 1)) (drop (at + 1) text)
cut_at text at first =
    let rest : drop at text ≡ 0x0A ∷ drop (at + 1) text =
    drop_more text at 0 first.0.high ∙ ap (λ x. x ∷ drop (at + 1) text) (lf_is (get_or text at 0) first.1) in
    sym (take-append-drop at text)
    ∙ ap (λ t. take at text ++ t) (rest ∙ ap (λ t. 0x0A ∷ t) (sym (take_all (length text - (at + 1)) (drop (at + 1) text) (omega (arith, length-drop (at + 1) text)))))

-- a part of a line stands before its rest
onto : (x : ℕ) (part : List ℕ) (lines : List (List ℕ)) → onto_first x (begun_with part lines) ≡ begun_with (x ∷ part) lines
onto x part [] = refl
onto x part (line ∷ rest) = refl

cuts_part : (part more : List ℕ) → Uncut part → cuts (part ++ more) ≡ begun_with part (cuts more)
cuts_part [] more uncut = begun_empty (cuts more) (cuts_some more)
cuts_part (x ∷ part) more uncut =
    slice_split-cons_no (is_byte 0x0A) x (part ++ more) (All-head (λ byte. is_byte 0x0A byte ≡ false) x part uncut)
    ∙ (ap (onto_first x) (cuts_part part more (All-tail (λ byte. is_byte 0x0A byte ≡ false) x part uncut)) ∙ onto x part (cuts more))

begun_again : (tail part : List ℕ) (lines : List (List ℕ)) → begun_with tail (begun_with part lines) ≡ begun_with (tail ++ part) lines
begun_again tail part [] = refl
begun_again tail part (line ∷ rest) = ap (λ (l : List ℕ). l ∷ rest) (sym (append_assoc tail part line))

-- the same lines come behind a part that came
part_behind : (tail part more : List ℕ) → Uncut part → came_behind (tail ++ part) more ≡ came_behind tail (part ++ more)
unfolding came_behind
part_behind tail part more uncut =
    sym (ap (λ ls. without_bare_end (begun_with tail ls)) (cuts_part part more uncut) ∙ ap without_bare_end (begun_again tail part (cuts more)))

pub ruleset cut_rules = (before_first, none_there, cut_at)

pub part_came : (next held : HeldLines) (part more : List ℕ) → Uncut part → next.came.items ≡ held.came.items → next.tail.items ≡ held.tail.items ++ part
    → goes_on next more ≡ goes_on held (part ++ more)
part_came next held part more uncut lines tail =
    ap₂ (λ (ls : List _) t. map (λ line. line.items) ls ++ came_behind t more) lines tail
    ∙ ap (λ rest. map (λ line. line.items) held.came.items ++ rest) (part_behind held.tail.items part more uncut)

-- a line that is ended
ended_bare : (line : List ℕ) (rest : List (List ℕ)) → 1 ≤ length rest → without_bare_end (line ∷ rest) ≡ line ∷ without_bare_end rest
ended_bare line [] some = absurd (omega (arith, some))
ended_bare line (next ∷ rest) some = refl

line_behind : (tail part more : List ℕ) → Uncut part → came_behind tail (part ++ 0x0A ∷ more) ≡ (tail ++ part) ∷ came_behind [] more
unfolding came_behind
line_behind tail part more uncut =
    ap (λ ls. without_bare_end (begun_with tail ls)) (slice_split_at (is_byte 0x0A) part 0x0A more uncut refl)
    ∙ (ended_bare (tail ++ part) (cuts more) (cuts_some more) ∙ ap (λ ls. (tail ++ part) ∷ without_bare_end ls) (begun_empty (cuts more) (cuts_some more)))

pub line_came : (next held : HeldLines) (part line more : List ℕ) → Uncut part → line ≡ held.tail.items ++ part
    → map (λ l. l.items) next.came.items ≡ map (λ l. l.items) held.came.items ++ line ∷ [] → next.tail.items ≡ []
    → goes_on next more ≡ goes_on held (part ++ 0x0A ∷ more)
line_came next held part line more uncut line_is lines tail =
    ap₂ (λ ls t. ls ++ came_behind t more) lines tail
    ∙ (append_assoc (map (λ l. l.items) held.came.items) (line ∷ []) (came_behind [] more)
    ∙ ap (λ rest. map (λ l. l.items) held.came.items ++ rest)
    (ap (λ l. l ∷ came_behind [] more) line_is ∙ sym (line_behind held.tail.items part more uncut)))

-- it is read, as those before it are
pub one_more : (next held : HeldLines) (line read : List ℕ) → map (λ l. l.items) next.lines.items ≡ map (λ l. l.items) held.lines.items ++ read ∷ []
    → map (λ l. l.items) next.came.items ≡ map (λ l. l.items) held.came.items ++ line ∷ [] → read ≡ read_line line → AreRead held → AreRead next
one_more next held line read lines came read_is before =
    lines ∙ ap₂ (λ ls l. ls ++ l ∷ []) before read_is
    ∙ sym (ap (map read_line) came ∙ map-append read_line (map (λ l. l.items) held.came.items) (line ∷ []))

-- nothing comes any more
abbrev end_by : ℕ → List ℕ → List (List ℕ)
end_by count tail = if count == 0 then [] else tail ∷ []

end_is : (tail : List ℕ) → came_behind tail [] ≡ end_by (length (unpainted tail)) tail
unfolding came_behind
end_is tail = ap (λ t. end_by (length (unpainted t)) t) (append-nil tail)

some_by : (n : ℕ) → (n == 0) ≡ false → 1 ≤ n
some_by n is = grind (arith, nat_tests, is)

pub some_items : (bytes : Vec ℕ Global) → (vec_len bytes == 0) ≡ false → 1 ≤ length bytes.items
some_items bytes is = omega (arith, some_by (vec_len bytes) is, bytes.ok)

not_none : (n : ℕ) → 1 ≤ n → (n == 0) ≡ false
not_none n some = grind (arith, nat_tests, some)

end_some : (n : ℕ) (tail : List ℕ) → 1 ≤ n → end_by n tail ≡ tail ∷ []
end_some n tail some = ap (λ v. if v then [] else tail ∷ []) (not_none n some)

pub ended_none : (held : HeldLines) (plain : List ℕ) → plain ≡ unpainted held.tail.items → length plain ≡ 0 → map (λ l. l.items) held.came.items ≡ goes_on held []
ended_none held plain is empty =
    let came : List (List ℕ) = map (λ l. l.items) held.came.items in
    sym (ap (λ rest. came ++ rest) (end_is held.tail.items ∙ ap (λ n. end_by n held.tail.items) (ap length (sym is) ∙ empty)) ∙ append-nil came)

pub ended_some : (held : HeldLines) (plain : List ℕ) (came : List (List ℕ)) → plain ≡ unpainted held.tail.items → 1 ≤ length plain
    → came ≡ map (λ l. l.items) held.came.items ++ held.tail.items ∷ [] → came ≡ goes_on held []
ended_some held plain came is some came_are =
    came_are
    ∙ ap (λ rest. map (λ l. l.items) held.came.items ++ rest)
    (sym (end_is held.tail.items ∙ (ap (λ n. end_by n held.tail.items) (ap length (sym is)) ∙ end_some (length plain) held.tail.items some)))

pub read_is : (line : List ℕ) → without_cr (unpainted line) ≡ read_line line
unfolding read_line
read_is line = refl

-- the lines of a text that came whole
pub whole_read : (held all : HeldLines) (text : List ℕ) → map (λ l. l.items) all.came.items ≡ came_to_come held [] → came_to_come held [] ≡ came_of text
    → AreRead all → map (λ l. l.items) all.lines.items ≡ lines_of text
whole_read held all text came whole read = read ∙ (ap (map read_line) (came ∙ whole) ∙ lines_are text)

-- the first lines are let go, at most all
pub first_gone : {A B : Type 0} (f : A → B) (count least left : ℕ) (xs ys zs : List A) → least ≡ min count (length xs) → left + least ≡ length xs
    → ys ≡ drop least xs ++ take least xs → zs ≡ take left ys → map f zs ≡ drop count (map f xs)
first_gone f count least left xs ys zs least_is whole turned cut =
    turned_away f least left xs ys zs whole turned cut
    ∙ (ap (λ n. drop n (map f xs)) (least_is ∙ ap (min count) (sym (length-map xs f))) ∙ drop_within count (map f xs))

-- ---- a byte order mark before the lines

mark_settled : (first more : List ℕ) → 3 ≤ length first → without_mark (first ++ more) ≡ without_mark first ++ more
mark_settled [] more long = absurd (omega (arith, long))
mark_settled (a ∷ []) more long = absurd (omega (arith, long))
mark_settled (a ∷ (b ∷ [])) more long = absurd (omega (arith, long))
mark_settled (a ∷ (b ∷ (c ∷ rest))) more long =
    elim (starts_with nat_eq (a ∷ (b ∷ (c ∷ rest))) (0xEF ∷ 0xBB ∷ 0xBF ∷ [])) as
    (λ v. (if v then rest ++ more else a ∷ (b ∷ (c ∷ (rest ++ more)))) ≡ (if v then rest else a ∷ (b ∷ (c ∷ rest))) ++ more) [ true ↦ refl | false ↦ refl ]

-- lines are cut already
pub cut_already : (held : HeldLines) (more : List ℕ) → held.begun ≡ true → came_to_come held more ≡ goes_on held more
cut_already held more is = ap (λ b. map (λ l. l.items) held.came.items ++ rest_to_come b held.tail.items more) is

pub not_begun : (held : HeldLines) (more : List ℕ) → held.begun ≡ false → came_to_come held more ≡ map (λ l. l.items) held.came.items ++ came_of (held.tail.items ++ more)
not_begun held more is = ap (λ b. map (λ l. l.items) held.came.items ++ rest_to_come b held.tail.items more) is

pub more_came : (next held : HeldLines) (bytes more : List ℕ) → held.begun ≡ true → next.begun ≡ held.begun → goes_on next more ≡ goes_on held (bytes ++ more)
    → came_to_come next more ≡ came_to_come held (bytes ++ more)
more_came next held bytes more is same goes = cut_already next more (same ∙ is) ∙ (goes ∙ sym (cut_already held (bytes ++ more) is))

-- too few came to tell
pub still_open : (next held : HeldLines) (bytes more : List ℕ) → held.begun ≡ false → next.begun ≡ held.begun → next.came.items ≡ held.came.items
    → next.tail.items ≡ held.tail.items ++ bytes → came_to_come next more ≡ came_to_come held (bytes ++ more)
still_open next held bytes more is same came tail =
    not_begun next more (same ∙ is)
    ∙ (ap₂ (λ (ls : List _) t. map (λ l. l.items) ls ++ came_of t) came (ap (λ t. t ++ more) tail ∙ append_assoc held.tail.items bytes more)
    ∙ sym (not_begun held (bytes ++ more) is))

-- enough came
pub first_cut : (next held : HeldLines) (all bytes more : List ℕ) → held.begun ≡ false → next.begun ≡ true → all ≡ held.tail.items ++ bytes → 3 ≤ length all
    → goes_on next more ≡ map (λ l. l.items) held.came.items ++ came_behind [] (without_mark all ++ more) → came_to_come next more ≡ came_to_come held (bytes ++ more)
first_cut next held all bytes more is begun all_is long goes =
    cut_already next more begun
    ∙ (goes
    ∙ (ap (λ t. map (λ l. l.items) held.came.items ++ came_behind [] t) (sym (mark_settled all more long))
    ∙ (ap (λ t. map (λ l. l.items) held.came.items ++ came_of t) (ap (λ t. t ++ more) all_is ∙ append_assoc held.tail.items bytes more)
    ∙ sym (not_begun held (bytes ++ more) is))))

pub first_of : {E : Type 0} (result : Result HeldLines E) (held : HeldLines) (all bytes : List ℕ) → held.begun ≡ false → all ≡ held.tail.items ++ bytes → 3 ≤ length all
    → IfOk result (λ next. (more : List ℕ) → goes_on next more ≡ map (λ l. l.items) held.came.items ++ came_behind [] (without_mark all ++ more))
    → IfOk result (λ next. next.begun ≡ true) → IfOk result (λ next. (more : List ℕ) → came_to_come next more ≡ came_to_come held (bytes ++ more))
first_of (Ok next) held all bytes is all_is long goes begun = λ more. first_cut next held all bytes more is begun all_is long (goes more)
first_of (Err why) held all bytes is all_is long goes begun = tt

-- nothing comes any more
pub end_cut : (next held : HeldLines) (came : List (List ℕ)) → held.begun ≡ false → came ≡ goes_on next []
    → goes_on next [] ≡ map (λ l. l.items) held.came.items ++ came_behind [] (without_mark held.tail.items ++ []) → came ≡ came_to_come held []
end_cut next held came is came_is goes =
    came_is
    ∙ (goes
    ∙ (ap (λ t. map (λ l. l.items) held.came.items ++ came_behind [] t) (append-nil (without_mark held.tail.items) ∙ ap without_mark (sym (append-nil held.tail.items)))
    ∙ sym (not_begun held [] is)))

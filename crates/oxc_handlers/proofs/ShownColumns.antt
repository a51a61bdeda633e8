-- The drawn text of a row of ASCII, escapes aside, has a character for each column.
use Rattle.std.proofs.Common.{◌≡◌, ℕ, ◌-◌, ◌%◌, ◌<◌, ◌≤◌, Bool, true, false, not, cond, List, [], ◌∷◌, ◌++◌, map, fold, length, take, drop, replicate, encode_utf8, eqb, refl, sym, ap, ◌∙◌, arith, zero, suc, All, append_assoc}
use Rattle.std.specs.Str.{IsAscii}
use Rattle.std.proofs.lemmas.Bool.Decides.{nat_tests}
use Rattle.std.proofs.lemmas.List.{take-append-drop}
use Rattle.std.proofs.lemmas.List.Elements.{All-head, All-tail, All-from_get_or}
use Rattle.std.proofs.lemmas.Str.{encode_ascii}
use Rattle.oxc_plan.specs.declared.columns.Pen.{Pen}
use Rattle.oxc_plan.specs.Columns.{drawn_char, drawn_from, drawn_text}
use Rattle.oxc_plan.specs.Rows.{RowView}
use Rattle.oxc_plan.specs.Width.{at_margin, led_text, moved, stays_in_escape}
use Rattle.oxc_plan.proofs.AsciiLemmas.{columns_are_drawn, drawn_walked as drawn_as_walked, lone, take_ascii, walked, walked_ascii}
use Rattle.oxc_handlers.specs.Cells.{repeated}
use Rattle.oxc_handlers.specs.Colors.{unstyled, unstyled_from}
use Rattle.oxc_handlers.specs.ShownRows.{HasColumnsAsShown}
use Rattle.oxc_handlers.specs.Texts.{shown_char, shown_from, shown_text}
use Rattle.oxc_handlers.proofs.CellsLemmas.{repeated_first, repeated_none}
use Rattle.oxc_handlers.proofs.TabsLemmas.{bytes_from, shown_bytes}

-- the spaces of a tab stay
spaces_stay : (n : ℕ) (rest : List ℕ) → unstyled_from false (repeated n (encode_utf8 0x20) ++ rest) ≡ replicate n 0x20 ++ unstyled_from false rest
unfolding unstyled_from
spaces_stay zero rest = ap (λ l. unstyled_from false (l ++ rest)) (repeated_none (encode_utf8 0x20))
spaces_stay (suc n) rest =
    let space : encode_utf8 0x20 ≡ 0x20 ∷ [] = encode_ascii 0x20 (omega arith) in
    ap (λ l. unstyled_from false (l ++ rest)) (repeated_first n (encode_utf8 0x20))
    ∙ ap (λ s. unstyled_from false ((s ++ repeated n (encode_utf8 0x20)) ++ rest)) space
    ∙ ap (λ l. 0x20 ∷ l) (spaces_stay n rest)

-- a character within an escape is taken out, and `m` ends it
inside : (tab column c : ℕ) (rest : List ℕ) → c < 128
    → unstyled_from true (shown_char tab (record { column = column; in_escape = true }) c ++ rest) ≡ unstyled_from (not (eqb c 0x6D)) rest
unfolding unstyled_from shown_char
inside tab column c rest low =
    elim (eqb c 9) as (λ v. eqb c 9 ≡ v → unstyled_from true (shown_char tab (record { column = column; in_escape = true }) c ++ rest) ≡ unstyled_from (not (eqb c 0x6D)) rest) [
      | true ↦ λ e. let no_end : eqb c 0x6D ≡ false = grind (arith, nat_tests) in rw (e, no_end) refl
      | false ↦ λ e. rw (e, encode_ascii c low) (ends (eqb c 0x6D) refl)
    ] refl
  where
    ends : (b : Bool) → eqb c 0x6D ≡ b → unstyled_from true (c ∷ rest) ≡ unstyled_from (not (eqb c 0x6D)) rest
    ends true e = rw e refl
    ends false e = rw e refl

-- any other stays as it is drawn
outside : (tab column c : ℕ) (rest : List ℕ) → c < 128
    → unstyled_from false (shown_char tab (record { column = column; in_escape = false }) c ++ rest)
    ≡ drawn_char tab (record { column = column; in_escape = false }) c ++ unstyled_from (eqb c 0x1B) rest
unfolding unstyled_from shown_char
outside tab column c rest low =
    elim (eqb c 9) as (λ v. eqb c 9 ≡ v → unstyled_from false (shown_char tab (record { column = column; in_escape = false }) c ++ rest) ≡ drawn_char tab (record { column = column; in_escape = false }) c ++ unstyled_from (eqb c 0x1B) rest) [
      | true ↦ λ e. let no_escape : eqb c 0x1B ≡ false = grind (arith, nat_tests) in rw (e, no_escape) (spaces_stay (tab - column % tab) rest)
      | false ↦ λ e. rw (e, encode_ascii c low) (begins (eqb c 0x1B) refl)
    ] refl
  where
    begins : (b : Bool) → eqb c 0x1B ≡ b → unstyled_from false (c ∷ rest) ≡ cond (eqb c 0x1B) [] (c ∷ []) ++ unstyled_from (eqb c 0x1B) rest
    begins true e = rw e refl
    begins false e = rw e refl

one_char : (tab column : ℕ) (escape : Bool) (c : ℕ) (rest : List ℕ) → c < 128
    → unstyled_from escape (shown_char tab (record { column = column; in_escape = escape }) c ++ rest)
    ≡ drawn_char tab (record { column = column; in_escape = escape }) c ++ unstyled_from (stays_in_escape escape c) rest
one_char tab column true c rest low = inside tab column c rest low
one_char tab column false c rest low = outside tab column c rest low

-- bytes of ASCII, escapes aside
bytes_unstyled : (tab : ℕ) (pen : Pen) (cs : List ℕ) → All (λ c. c < 128) cs → unstyled_from pen.in_escape (shown_from tab pen (map lone cs)) ≡ drawn_from tab pen (map lone cs)
unfolding unstyled_from shown_from
bytes_unstyled tab pen [] low = refl
bytes_unstyled tab pen (c ∷ cs) low =
    let next = moved tab pen (lone c) in
    one_char tab pen.column pen.in_escape c (shown_from tab next (map lone cs)) (All-head (λ c. c < 128) c cs low)
    ∙ ap (λ l. drawn_char tab pen c ++ l) (bytes_unstyled tab next cs (All-tail (λ c. c < 128) c cs low))

drawn_bytes : (tab : ℕ) (text : List ℕ) → IsAscii text → drawn_text tab text ≡ drawn_from tab at_margin (map lone text)
unfolding drawn_text
drawn_bytes tab text ascii =
    drawn_as_walked tab at_margin (led_text text)
    ∙ walked_ascii tab (drawn_char tab) at_margin text ascii
    ∙ sym (drawn_as_walked tab at_margin (map lone text))

shown_unstyled : (tab : ℕ) (text : List ℕ) → IsAscii text → unstyled (shown_text tab text) ≡ drawn_text tab text
unfolding bytes_from
shown_unstyled tab text ascii =
    ap unstyled (shown_bytes tab text ascii)
    ∙ bytes_unstyled tab at_margin text (All-from_get_or (λ c. c < 128) text 0 (λ i h. ascii i))
    ∙ sym (drawn_bytes tab text ascii)

-- a front of bytes is drawn as the front of all
front_shown : (tab : ℕ) (pen : Pen) (xs ys : List ℕ)
    → shown_from tab pen (map lone (xs ++ ys)) ≡ shown_from tab pen (map lone xs) ++ shown_from tab (fold (moved tab) pen (map lone xs)) (map lone ys)
unfolding shown_from
front_shown tab pen [] ys = refl
front_shown tab pen (x ∷ xs) ys =
    let next = moved tab pen (lone x) in
    ap (λ l. shown_char tab pen x ++ l) (front_shown tab next xs ys)
    ∙ sym (append_assoc (shown_char tab pen x) (shown_from tab next (map lone xs)) (shown_from tab (fold (moved tab) next (map lone xs)) (map lone ys)))

front_of_row : (tab : ℕ) (text : List ℕ) (n : ℕ) → IsAscii text
    → shown_text tab text ≡ shown_text tab (take n text) ++ shown_from tab (fold (moved tab) at_margin (map lone (take n text))) (map lone (drop n text))
unfolding bytes_from
front_of_row tab text n ascii =
    let rest = shown_from tab (fold (moved tab) at_margin (map lone (take n text))) (map lone (drop n text)) in
    shown_bytes tab text ascii
    ∙ ap (λ l. shown_from tab at_margin (map lone l)) (sym (take-append-drop n text))
    ∙ front_shown tab at_margin (take n text) (drop n text)
    ∙ ap (λ l. l ++ rest) (sym (shown_bytes tab (take n text) (take_ascii text n ascii)))

pub columns_are_shown : (tab : ℕ) (row : RowView) → HasColumnsAsShown tab row
columns_are_shown tab row ascii offset at_start from within =
    let place = offset - row.offset in
    record {
      rest = shown_from tab (fold (moved tab) at_margin (map lone (take place row.text))) (map lone (drop place row.text));
      front = front_of_row tab row.text place ascii;
      column = columns_are_drawn tab row ascii offset at_start from within ∙ ap length (sym (shown_unstyled tab (take place row.text) (take_ascii row.text place ascii)));
    }

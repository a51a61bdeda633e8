-- A text of ASCII without escapes is drawn by its bytes: what stands between two tabs as it is.
use Rattle.std.proofs.Common.{◌≡◌, ◌≢◌, ℕ, ◌+◌, ◌-◌, ◌%◌, ◌<◌, ◌≤◌, Bool, true, false, cond, List, [], ◌∷◌, ◌++◌, map, length, take, drop, get_or, encode_utf8, eqb, refl, sym, ap, ◌∙◌, arith}
use Rattle.std.specs.Prelude.{All}
use Rattle.std.specs.Str.{IsAscii}
use Rattle.std.proofs.lemmas.Bool.Decides.{nat_tests}
use Rattle.std.proofs.lemmas.List.{append_assoc, append-nil, at_drop_more, get_or-take, length-take, take-append-drop, take_all}
use Rattle.std.proofs.lemmas.List.Elements.{All-head, All-tail, All-from_get_or}
use Rattle.std.proofs.lemmas.Str.{encode_ascii}
use Rattle.memchr.specs.Find.{NoneBefore, Nowhere, Passes, is_byte}
use Rattle.oxc_plan.specs.declared.columns.Pen.{Pen}
use Rattle.oxc_plan.specs.Width.{at_margin, is_control, led_text, moved}
use Rattle.oxc_plan.proofs.AsciiLemmas.{lone, walked, walked_ascii}
use Rattle.oxc_handlers.specs.Cells.{repeated}
use Rattle.oxc_handlers.specs.Texts.{shown_char, shown_from, shown_text}

-- the pen at a column, in no escape
abbrev at_column : ℕ → Pen
at_column column = record { column = column; in_escape = false }

-- bytes as they are drawn from a column on
unfoldable pub bytes_from : ℕ → ℕ → List ℕ → List ℕ
bytes_from tab column bytes = shown_from tab (at_column column) (map lone bytes)

shown_walked : (tab : ℕ) (pen : Pen) (ps : List (ℕ × ℕ)) → shown_from tab pen ps ≡ walked tab (shown_char tab) pen ps
unfolding shown_from walked
shown_walked tab pen [] = refl
shown_walked tab pen (p ∷ ps) = ap (λ l. shown_char tab pen p.1 ++ l) (shown_walked tab (moved tab pen p) ps)

pub shown_bytes : (tab : ℕ) (text : List ℕ) → IsAscii text → shown_text tab text ≡ bytes_from tab 0 text
unfolding shown_text bytes_from
shown_bytes tab text ascii =
    shown_walked tab at_margin (led_text text)
    ∙ walked_ascii tab (shown_char tab) at_margin text ascii
    ∙ sym (shown_walked tab at_margin (map lone text))

-- a byte of ASCII that is no tab and begins no escape takes one column, and is drawn as it is
abbrev IsPlainByte : ℕ → Type 0
IsPlainByte c = (c < 128) × (eqb c 9 ≡ false) × (eqb c 27 ≡ false)

same_either_way : (b : Bool) (n : ℕ) → cond b n n ≡ n
same_either_way true n = refl
same_either_way false n = refl

plain_moves : (tab column c : ℕ) → IsPlainByte c → moved tab (at_column column) (lone c) ≡ at_column (column + 1)
plain_moves tab column c (low, no_tab, no_escape) =
    rw (no_tab, no_escape) (ap (λ n. at_column (column + n)) (same_either_way (is_control c) 1))

plain_shown : (tab column c : ℕ) → IsPlainByte c → shown_char tab (at_column column) c ≡ c ∷ []
unfolding shown_char
plain_shown tab column c (low, no_tab, no_escape) = rw no_tab (encode_ascii c low)

plain_first : (tab column c : ℕ) (rest : List ℕ) → IsPlainByte c → bytes_from tab column (c ∷ rest) ≡ c ∷ bytes_from tab (column + 1) rest
unfolding bytes_from shown_from
plain_first tab column c rest plain =
    ap (λ l. l ++ shown_from tab (moved tab (at_column column) (lone c)) (map lone rest)) (plain_shown tab column c plain)
    ∙ ap (λ pen. c ∷ shown_from tab pen (map lone rest)) (plain_moves tab column c plain)

plain_run : (tab column : ℕ) (run rest : List ℕ) → All IsPlainByte run → bytes_from tab column (run ++ rest) ≡ run ++ bytes_from tab (column + length run) rest
plain_run tab column [] rest plain =
    let here : column ≡ column + 0 = omega arith in
    ap (λ n. bytes_from tab n rest) here
plain_run tab column (c ∷ run) rest plain =
    let there : column + 1 + length run ≡ column + length (c ∷ run) = omega arith in
    plain_first tab column c (run ++ rest) (All-head IsPlainByte c run plain)
    ∙ ap (λ l. c ∷ l) (plain_run tab (column + 1) run rest (All-tail IsPlainByte c run plain) ∙ ap (λ n. run ++ bytes_from tab n rest) there)

-- a tab goes on from the next stop
tab_first : (tab column : ℕ) (rest : List ℕ)
    → bytes_from tab column (9 ∷ rest) ≡ repeated (tab - column % tab) (encode_utf8 0x20) ++ bytes_from tab (column + (tab - column % tab)) rest
unfolding bytes_from shown_from shown_char
tab_first tab column rest = refl

-- what stands before the first tab is plain
plain_before : (text : List ℕ) (at : ℕ) → at ≤ length text → IsAscii text → All (λ byte. byte ≢ 0x1B) text → Nowhere (Passes (is_byte 9) text) 0 at → All IsPlainByte (take at text)
plain_before text at within ascii no_escape none =
    All-from_get_or IsPlainByte (take at text) 0 (λ i lt.
    let before : i < at = omega (arith, length-take at text, lt, within) in
    rw (get_or-take at text i 0 before) (
      ascii i,
      grind (arith, nat_tests, none i (omega arith) before),
      grind (arith, nat_tests, no_escape i 0 (omega (arith, before, within))),
    ))

-- one tab more, and none
pub tab_more : (out : List ℕ) (tab column at : ℕ) (rest : List ℕ) → IsAscii rest → All (λ byte. byte ≢ 0x1B) rest → NoneBefore (Passes (is_byte 9) rest) 0 (length rest) at → Passes (is_byte 9) rest at
    → out ++ take at rest ++ repeated (tab - (column + at) % tab) (encode_utf8 0x20) ++ bytes_from tab (column + at + (tab - (column + at) % tab)) (drop (at + 1) rest) ≡ out ++ bytes_from tab column rest
tab_more out tab column at rest ascii no_escape first is_tab =
    let within : at ≤ length rest = omega (arith, first.high) in
    let tab_there : get_or rest at 0 ≡ 9 = grind (arith, nat_tests, is_tab) in
    let spaces = repeated (tab - (column + at) % tab) (encode_utf8 0x20) in
    let later = bytes_from tab (column + at + (tab - (column + at) % tab)) (drop (at + 1) rest) in
    let passed : column + length (take at rest) ≡ column + at = omega (arith, length-take at rest, within) in
    let parts : take at rest ++ 9 ∷ drop (at + 1) rest ≡ rest =
    ap (λ c. take at rest ++ c ∷ drop (at + 1) rest) (sym tab_there) ∙ sym (at_drop_more (λ l. take at rest ++ l) rest at 0 first.high) ∙ take-append-drop at rest in
    let drawn : bytes_from tab column rest ≡ take at rest ++ (spaces ++ later) =
    ap (bytes_from tab column) (sym parts)
    ∙ plain_run tab column (take at rest) (9 ∷ drop (at + 1) rest) (plain_before rest at within ascii no_escape first.before)
    ∙ ap (λ n. take at rest ++ bytes_from tab n (9 ∷ drop (at + 1) rest)) passed
    ∙ ap (λ l. take at rest ++ l) (tab_first tab (column + at) (drop (at + 1) rest)) in
    append_assoc (out ++ take at rest) spaces later ∙ append_assoc out (take at rest) (spaces ++ later) ∙ ap (λ l. out ++ l) (sym drawn)

pub tab_none : (out : List ℕ) (tab column : ℕ) (rest : List ℕ) → IsAscii rest → All (λ byte. byte ≢ 0x1B) rest → Nowhere (Passes (is_byte 9) rest) 0 (length rest) → out ++ rest ≡ out ++ bytes_from tab column rest
unfolding bytes_from shown_from
tab_none out tab column rest ascii no_escape none =
    let whole : take (length rest) rest ≡ rest = take_all (length rest) rest (omega arith) in
    let plain : All IsPlainByte rest = rw whole at (plain_before rest (length rest) (omega arith) ascii no_escape none) in
    ap (λ l. out ++ l) (sym (ap (bytes_from tab column) (sym (append-nil rest)) ∙ plain_run tab column rest [] plain ∙ append-nil rest))

-- A text without tabs is drawn as it is.
use Rattle.std.proofs.Common.{◌≡◌, ℕ, Bool, true, false, not, ◌&&◌, List, [], ◌∷◌, ◌++◌, map, length, get_or, encode_utf8, eqb, refl, sym, ap, subst, ◌∙◌, arith, if◌then◌else◌}
use Rattle.std.specs.List.{concat, flat_map, list_all}
use Rattle.std.specs.Str.{IsUtf8, all_scalars, chars, encode_utf8_all}
use Rattle.std.proofs.lemmas.Bool.{and_parts as both}
use Rattle.std.proofs.lemmas.Bool.Decides.{nat_tests}
use Rattle.std.proofs.lemmas.List.{map-append}
use Rattle.std.proofs.lemmas.List.Elements.{All-from_get_or}
use Rattle.std.proofs.lemmas.List.Folds.{list_all-append}
use Rattle.std.proofs.lemmas.List.Sums.{list_all-from_AllPass}
use Rattle.std.proofs.lemmas.Str.{chars-encodes, encodes-chars, scalars-chars}
use Rattle.memchr.specs.Find.{Nowhere, Passes, is_byte}
use Rattle.unicode_segmentation.specs.Grapheme.{is_grapheme_break}
use Rattle.unicode_segmentation.specs.Segments.{Rule, cut, prepend, segments}
use Rattle.oxc_plan.specs.declared.columns.Pen.{Pen}
use Rattle.oxc_plan.specs.Width.{at_margin, led, led_text, moved, with_lead}
use Rattle.oxc_handlers.specs.Texts.{shown_char, shown_from, shown_text}
use lib.Utf8.{scalar}

abbrev pub is_no_tab : ℕ → Bool
is_no_tab c = not (eqb c 9)

abbrev pub HasNoTab : List ℕ → Type 0
HasNoTab text = list_all is_no_tab text ≡ true

parts_without : (a b : List ℕ) → HasNoTab (a ++ b) → HasNoTab a × HasNoTab b
parts_without a b none = both (list_all is_no_tab a) (list_all is_no_tab b) (sym (list_all-append is_no_tab a b) ∙ none)

-- a tab is its own byte
tab_byte : list_all is_no_tab (encode_utf8 9) ≡ false
unfolding lib.Utf8.encode
tab_byte = refl

no_tab_char : (c : ℕ) → HasNoTab (encode_utf8 c) → is_no_tab c ≡ true
no_tab_char c none =
    elim (eqb c 9) as (λ v. eqb c 9 ≡ v → not v ≡ true) [
      | true ↦ λ e. let is : c ≡ 9 = grind (arith, nat_tests) in let no : false ≡ true = sym tab_byte ∙ subst (λ n. list_all is_no_tab (encode_utf8 n) ≡ true) is none in cc
      | false ↦ λ e. refl
    ] refl

chars_without : (cs : List ℕ) → HasNoTab (encode_utf8_all cs) → HasNoTab cs
chars_without [] none = refl
chars_without (c ∷ cs) none =
    let parts = parts_without (encode_utf8 c) (encode_utf8_all cs) none in
    rw (no_tab_char c parts.0, chars_without cs parts.1) refl

plain_char : (tab : ℕ) (pen : Pen) (c : ℕ) → is_no_tab c ≡ true → shown_char tab pen c ≡ encode_utf8 c
unfolding shown_char
plain_char tab pen c none = let other : eqb c 9 ≡ false = grind (arith, nat_tests) in rw other refl

-- characters that are drawn as they are
shown_plain : (tab : ℕ) (pen : Pen) (ps : List (ℕ × ℕ)) → HasNoTab (map (λ p. p.1) ps) → shown_from tab pen ps ≡ encode_utf8_all (map (λ p. p.1) ps)
unfolding shown_from
shown_plain tab pen [] none = refl
shown_plain tab pen (p ∷ ps) none =
    let parts = both (is_no_tab p.1) (list_all is_no_tab (map (λ q. q.1) ps)) none in
    ap (λ l. l ++ shown_from tab (moved tab pen p) ps) (plain_char tab pen p.1 parts.0) ∙ ap (λ l. encode_utf8 p.1 ++ l) (shown_plain tab (moved tab pen p) ps parts.1)

-- the characters of a cluster stand in its list with numbers
led_chars : (lead : ℕ) (cs : List ℕ) → map (λ p. p.1) (with_lead lead cs) ≡ cs
led_chars lead [] = refl
led_chars lead (c ∷ cs) = ap (λ l. c ∷ l) (led_chars 0 cs)

-- pieces whose characters are scalars
abbrev AreScalars : List (List ℕ) → Type 0
AreScalars [] = Unit {0}
AreScalars (p ∷ ps) = (all_scalars p ≡ true) × AreScalars ps

scalars_append : (cs ds : List ℕ) → all_scalars cs ≡ true → all_scalars ds ≡ true → all_scalars (cs ++ ds) ≡ true
scalars_append [] ds a b = b
scalars_append (c ∷ cs) ds a b = let parts = both (scalar c) (all_scalars cs) a in rw (parts.0, scalars_append cs ds parts.1 b) refl

prepended : (x : List ℕ) (ps : List (List ℕ)) → all_scalars x ≡ true → AreScalars ps → AreScalars (prepend x ps)
prepended x [] scalars pieces = (scalars, tt)
prepended x (p ∷ ps) scalars (piece, pieces) = (scalars_append x p scalars piece, pieces)

either : (b : Bool) (ps qs : List (List ℕ)) → AreScalars ps → AreScalars qs → AreScalars (if b then ps else qs)
either true ps qs x y = x
either false ps qs x y = y

cut_scalars : (rule : Rule) (before cs after : List ℕ) → all_scalars cs ≡ true → AreScalars (cut rule before cs after)
unfolding cut
cut_scalars rule before [] after scalars = tt
cut_scalars rule before (c ∷ cs) after scalars =
    let parts = both (scalar c) (all_scalars cs) scalars in
    let one : all_scalars (c ∷ []) ≡ true = rw parts.0 refl in
    let rest = cut_scalars rule (c ∷ before) cs after parts.1 in
    either (rule (c ∷ before) (cs ++ after)) ((c ∷ []) ∷ cut rule (c ∷ before) cs after) (prepend (c ∷ []) (cut rule (c ∷ before) cs after)) (one, rest) (prepended (c ∷ []) (cut rule (c ∷ before) cs after) one rest)

joined_prepended : (c : ℕ) (ps : List (List ℕ)) → concat (prepend (c ∷ []) ps) ≡ c ∷ concat ps
joined_prepended c [] = refl
joined_prepended c (p ∷ ps) = refl

joined_either : (b : Bool) (c : ℕ) (ps : List (List ℕ)) → concat (if b then (c ∷ []) ∷ ps else prepend (c ∷ []) ps) ≡ c ∷ concat ps
joined_either true c ps = refl
joined_either false c ps = joined_prepended c ps

-- the pieces of characters, joined, are the characters
joined_cut : (rule : Rule) (before cs after : List ℕ) → concat (cut rule before cs after) ≡ cs
unfolding cut
joined_cut rule before [] after = refl
joined_cut rule before (c ∷ cs) after =
    joined_either (rule (c ∷ before) (cs ++ after)) c (cut rule (c ∷ before) cs after) ∙ ap (λ l. c ∷ l) (joined_cut rule (c ∷ before) cs after)

led_pieces : (ps : List (List ℕ)) → AreScalars ps → map (λ p. p.1) (flat_map led (map encode_utf8_all ps)) ≡ concat ps
led_pieces [] scalars = refl
led_pieces (p ∷ ps) (piece, pieces) =
    map-append (λ (q : ℕ × ℕ). q.1) (led (encode_utf8_all p)) (flat_map led (map encode_utf8_all ps))
    ∙ ap (λ l. l ++ map (λ (q : ℕ × ℕ). q.1) (flat_map led (map encode_utf8_all ps))) (led_chars _ (chars (encode_utf8_all p)) ∙ chars-encodes p piece)
    ∙ ap (λ l. p ++ l) (led_pieces ps pieces)

-- the characters of a text, by its clusters, are those of the text
led_text_chars : (text : List ℕ) → IsUtf8 text → map (λ p. p.1) (led_text text) ≡ chars text
unfolding segments
led_text_chars text utf8 =
    led_pieces (cut (is_grapheme_break true) [] (chars text) []) (cut_scalars (is_grapheme_break true) [] (chars text) [] (scalars-chars text utf8))
    ∙ joined_cut (is_grapheme_break true) [] (chars text) []

pub plain_text : (tab : ℕ) (text : List ℕ) → IsUtf8 text → HasNoTab text → shown_text tab text ≡ text
unfolding shown_text
plain_text tab text utf8 none =
    let same = led_text_chars text utf8 in
    let plain : HasNoTab (chars text) = chars_without (chars text) (subst HasNoTab (sym (encodes-chars text utf8)) none) in
    shown_plain tab at_margin (led_text text) (subst HasNoTab (sym same) plain) ∙ ap encode_utf8_all same ∙ encodes-chars text utf8

-- a text in which no tab is found
pub none_found : (text : List ℕ) → Nowhere (Passes (is_byte 9) text) 0 (length text) → HasNoTab text
none_found text nowhere =
    list_all-from_AllPass is_no_tab text
    (All-from_get_or (λ c. is_no_tab c ≡ true) text 0 (λ i lt. let fails : eqb (get_or text i 0) 9 ≡ false = grind (arith, nat_tests, nowhere i (omega arith) lt) in rw fails refl))

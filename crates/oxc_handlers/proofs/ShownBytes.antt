-- What each byte of a text passes, a space passing too, each byte of its drawn text passes.
use Rattle.std.proofs.Common.{◌≡◌, ℕ, ◌-◌, ◌%◌, Bool, true, false, List, [], ◌∷◌, ◌++◌, map, encode_utf8, eqb, refl, sym, subst, ◌∙◌, if◌then◌else◌, ◌&&◌, zero, suc, replicate}
use Rattle.std.specs.List.{flat_map, concat, list_all}
use lib.Utf8.{scalar}
use Rattle.std.specs.Str.{chars, IsUtf8, encode_utf8_all, all_scalars}
use Rattle.std.proofs.lemmas.Str.{chars-encodes, encodes-chars, scalars-chars}
use Rattle.std.proofs.lemmas.List.Folds.{list_all-append}
use Rattle.unicode_segmentation.specs.Grapheme.{graphemes, is_grapheme_break}
use Rattle.unicode_segmentation.specs.Segments.{Rule, cut, prepend, segments}
use Rattle.oxc_plan.specs.declared.columns.Pen.{Pen}
use Rattle.oxc_plan.specs.Width.{with_lead, led, moved, at_margin}
use Rattle.oxc_handlers.specs.Cells.{repeated}
use Rattle.oxc_handlers.specs.Texts.{shown_char, shown_from, shown_text}

module _ (test : ℕ → Bool) (space : test 0x20 ≡ true) where
  abbrev Clean : List ℕ → Type 0
  Clean text = list_all test text ≡ true

  clean_append : (a b : List ℕ) → Clean a → Clean b → Clean (a ++ b)
  clean_append a b ca cb = list_all-append test a b ∙ rw (ca, cb) refl

  both : (a b : Bool) → (a && b) ≡ true → (a ≡ true) × (b ≡ true)
  both true b e = (refl, e)
  both false b e = let no : false ≡ true = e in cc

  clean_parts : (a b : List ℕ) → Clean (a ++ b) → Clean a × Clean b
  clean_parts a b c = both (list_all test a) (list_all test b) (sym (list_all-append test a b) ∙ c)

  -- characters whose bytes are clean
  abbrev CleanChars : List ℕ → Type 0
  CleanChars [] = Unit {0}
  CleanChars (c ∷ cs) = Clean (encode_utf8 c) × CleanChars cs

  clean_chars : (cs : List ℕ) → Clean (encode_utf8_all cs) → CleanChars cs
  clean_chars [] clean = tt
  clean_chars (c ∷ cs) clean = let parts = clean_parts (encode_utf8 c) (encode_utf8_all cs) clean in (parts.0, clean_chars cs parts.1)

  chars_append : (cs ds : List ℕ) → CleanChars cs → CleanChars ds → CleanChars (cs ++ ds)
  chars_append [] ds a b = b
  chars_append (c ∷ cs) ds (h, a) b = (h, chars_append cs ds a b)

  -- pieces of clean scalars
  abbrev ArePieces : List (List ℕ) → Type 0
  ArePieces [] = Unit {0}
  ArePieces (p ∷ ps) = (CleanChars p × (all_scalars p ≡ true)) × ArePieces ps

  scalars_append : (cs ds : List ℕ) → all_scalars cs ≡ true → all_scalars ds ≡ true → all_scalars (cs ++ ds) ≡ true
  scalars_append [] ds a b = b
  scalars_append (c ∷ cs) ds a b = let parts = both (scalar c) (all_scalars cs) a in rw (parts.0, scalars_append cs ds parts.1 b) refl

  prepended : (x : List ℕ) (ps : List (List ℕ)) → CleanChars x → all_scalars x ≡ true → ArePieces ps → ArePieces (prepend x ps)
  prepended x [] clean scalars pieces = ((clean, scalars), tt)
  prepended x (p ∷ ps) clean scalars (piece, pieces) = ((chars_append x p clean piece.0, scalars_append x p scalars piece.1), pieces)

  pieces_if : (b : Bool) (ps qs : List (List ℕ)) → ArePieces ps → ArePieces qs → ArePieces (if b then ps else qs)
  pieces_if true ps qs x y = x
  pieces_if false ps qs x y = y

  cut_pieces : (rule : Rule) (before cs after : List ℕ) → CleanChars cs → all_scalars cs ≡ true → ArePieces (cut rule before cs after)
  unfolding cut
  cut_pieces rule before [] after clean scalars = tt
  cut_pieces rule before (c ∷ cs) after (h, clean) scalars =
      let parts = both (scalar c) (all_scalars cs) scalars in
      let one : all_scalars (c ∷ []) ≡ true = rw parts.0 refl in
      let rest = cut_pieces rule (c ∷ before) cs after clean parts.1 in
      pieces_if (rule (c ∷ before) (cs ++ after)) ((c ∷ []) ∷ cut rule (c ∷ before) cs after) (prepend (c ∷ []) (cut rule (c ∷ before) cs after))
      (((h, tt), one), rest) (prepended (c ∷ []) (cut rule (c ∷ before) cs after) (h, tt) one rest)

  clean_space : Clean (encode_utf8 0x20)
  unfolding lib.Utf8.encode
  clean_space = rw space refl

  clean_repeated : (n : ℕ) (text : List ℕ) → Clean text → Clean (repeated n text)
  unfolding repeated
  clean_repeated zero text clean = refl
  clean_repeated (suc n) text clean = clean_append text (concat (replicate n text)) clean (clean_repeated n text clean)

  clean_if : (b : Bool) (x y : List ℕ) → Clean x → Clean y → Clean (if b then x else y)
  clean_if true x y a b = a
  clean_if false x y a b = b

  clean_shown_char : (tab : ℕ) (pen : Pen) (c : ℕ) → Clean (encode_utf8 c) → Clean (shown_char tab pen c)
  unfolding shown_char
  clean_shown_char tab pen c clean =
      clean_if (eqb c 0x09) _ _ (clean_if pen.in_escape _ _ refl (clean_repeated (tab - pen.column % tab) (encode_utf8 0x20) clean_space)) clean

  abbrev CleanLed : List (ℕ × ℕ) → Type 0
  CleanLed [] = Unit {0}
  CleanLed (p ∷ ps) = Clean (encode_utf8 p.1) × CleanLed ps

  clean_shown_from : (tab : ℕ) (pen : Pen) (ps : List (ℕ × ℕ)) → CleanLed ps → Clean (shown_from tab pen ps)
  unfolding shown_from
  clean_shown_from tab pen [] clean = refl
  clean_shown_from tab pen (p ∷ ps) (h, clean) =
      clean_append (shown_char tab pen p.1) (shown_from tab (moved tab pen p) ps) (clean_shown_char tab pen p.1 h) (clean_shown_from tab (moved tab pen p) ps clean)

  led_append : (ps qs : List (ℕ × ℕ)) → CleanLed ps → CleanLed qs → CleanLed (ps ++ qs)
  led_append [] qs a b = b
  led_append (p ∷ ps) qs (h, a) b = (h, led_append ps qs a b)

  led_clean : (lead : ℕ) (cs : List ℕ) → CleanChars cs → CleanLed (with_lead lead cs)
  led_clean lead [] clean = tt
  led_clean lead (c ∷ cs) (h, clean) = (h, led_clean 0 cs clean)

  pieces_clean : (ps : List (List ℕ)) → ArePieces ps → CleanLed (flat_map led (map encode_utf8_all ps))
  pieces_clean [] pieces = tt
  pieces_clean (p ∷ ps) (piece, pieces) =
      led_append (led (encode_utf8_all p)) (flat_map led (map encode_utf8_all ps)) (led_clean _ (chars (encode_utf8_all p)) (subst CleanChars (sym (chars-encodes p piece.1)) piece.0)) (pieces_clean ps pieces)

  pub shown_passes : (tab : ℕ) (text : List ℕ) → IsUtf8 text → list_all test text ≡ true → list_all test (shown_text tab text) ≡ true
  unfolding shown_text segments
  shown_passes tab text utf8 clean =
      clean_shown_from tab at_margin (flat_map led (graphemes true text))
      (pieces_clean (cut (is_grapheme_break true) [] (chars text) [])
      (cut_pieces (is_grapheme_break true) [] (chars text) [] (clean_chars (chars text) (subst Clean (sym (encodes-chars text utf8)) clean)) (scalars-chars text utf8)))

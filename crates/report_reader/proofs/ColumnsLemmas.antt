-- A text has few columns: at most 19 for each byte.
use Rattle.std.proofs.Common.{◌≡◌, ℕ, ◌+◌, ◌-◌, ◌*◌, ◌≤◌, ◌==◌, nat_le, Bool, true, false, not, ◌&&◌, List, [], ◌∷◌, ◌++◌, length, map, fold, take, drop, get_or, Option, Some, None, if◌then◌else◌, ltb, refl, subst, arith, zero, suc}
use lib.Utf8.{scalar}
use Rattle.std.specs.List.{flat_map, prefix_len}
use Rattle.std.specs.Str.{chars, IsUtf8, IsCharBoundary, encode_utf8_all, all_scalars}
use Rattle.std.proofs.lemmas.Bool.Decides.{nat_tests}
use Rattle.std.proofs.lemmas.List.{length-take, length-drop, get_or-drop}
use Rattle.std.proofs.lemmas.List.Sums.{prefix_len-le-length, prefix_len_stops}
use Rattle.std.proofs.lemmas.Str.{chars-encodes, scalars-chars, IsUtf8-take, IsCharBoundary-start}
use Rattle.unicode_segmentation.specs.Grapheme.{graphemes, is_grapheme_break}
use Rattle.unicode_segmentation.specs.Segments.{Rule, cut, prepend, segments}
use Rattle.unicode_width.specs.Width.{added, alone, of_kind, single, changed, is_emoji_variation_base, is_joined_emoji, is_line_feed, is_plain, is_quote, joined_or, skips_marks, joins, past_selectors, in_context, past_emoji, step, read_before, plain, str_width}
use Rattle.unicode_width.specs.declared.kind.Kind.{Kind}
use Rattle.unicode_width.specs.declared.kind.Kind.TheVariants.{Zero, Narrow, Wide, Ambiguous, Alef, KhmerLetter, TifinaghConsonant, LisuTone, RegionalIndicator, EmojiModifier, Emoji, Single}
use Rattle.unicode_width.specs.Kind.{kind, is_ligature_transparent, is_text_presentation_base}
use Rattle.unicode_width.specs.declared.state.After.{After}
use Rattle.unicode_width.specs.declared.state.State.{State}
use Rattle.unicode_width.specs.declared.state.Change.{Change}
use Rattle.unicode_width.specs.declared.state.Change.TheVariants.{Less, Same, One, Three}
use Rattle.oxc_plan.specs.declared.columns.Pen.{Pen}
use Rattle.oxc_plan.specs.Columns.{is_char_start, boundary_down, boundary_up, column_in, column_at}
use Rattle.oxc_plan.specs.Rows.{RowView}
use Rattle.oxc_plan.specs.Width.{with_lead, led, moved, at_margin, text_width}
use Rattle.oxc_plan.proofs.WidthLemmas.{advance_of-le, few_chars}
use Rattle.std.proofs.lemmas.Bool.{and_parts as both}

-- a character adds at most three columns to a text's width

unfoldable AtMost : ℕ → ℕ × State → Type 0
AtMost n r = r.0 ≤ n

pick : (b : Bool) (x y : ℕ × State) (n : ℕ) → AtMost n x → AtMost n y → AtMost n (if b then x else y)
pick true x y n le other = le
pick false x y n le other = other

at : (n m : ℕ) (s : State) → m ≤ n → AtMost n (m, s)
unfolding AtMost
at n m s le = le

single_le : (c : ℕ) → AtMost 3 (single false c)
single_le c =
    pick (c == 0x05DC) _ _ 3 (at 3 1 _ (omega arith)) (pick (c == 0xFB3C) _ _ 3 (at 3 1 _ (omega arith)) (pick (c == 0x17D8) _ _ 3 (at 3 3 _ (omega arith)) (pick (c == 0x1A10) _ _ 3 (at 3 1 _ (omega arith)) (pick (c == 0x10C03) _ _ 3 (at 3 1 _ (omega arith)) (pick (c == 0x16D67) _ _ 3 (at 3 1 _ (omega arith)) (pick (c == 0x16D68) _ _ 3 (at 3 1 _ (omega arith)) (pick (c == 0xFE0F) _ _ 3 (at 3 0 _ (omega arith)) (pick (c == 0xFE01) _ _ 3 (at 3 0 _ (omega arith)) (pick (c == 0xFE0E) _ _ 3 (at 3 0 _ (omega arith)) (at 3 0 _ (omega arith)))))))))))

kind_le : (c : ℕ) (k : Kind) → AtMost 3 (of_kind false c k)
kind_le c Zero = at 3 0 _ (omega arith)
kind_le c Narrow = at 3 1 _ (omega arith)
kind_le c Wide = at 3 2 _ (omega arith)
kind_le c Ambiguous = at 3 1 _ (omega arith)
kind_le c Alef = at 3 1 _ (omega arith)
kind_le c KhmerLetter = at 3 1 _ (omega arith)
kind_le c TifinaghConsonant = at 3 1 _ (omega arith)
kind_le c LisuTone = at 3 1 _ (omega arith)
kind_le c RegionalIndicator = at 3 1 _ (omega arith)
kind_le c EmojiModifier = at 3 2 _ (omega arith)
kind_le c Emoji = at 3 2 _ (omega arith)
kind_le c Single = single_le c

alone_le : (c : ℕ) → AtMost 3 (alone false c)
unfolding alone
alone_le c = kind_le c (kind c)

changed_le : (total : ℕ) (change : Change) → changed total change ≤ total + 3
changed_le total Less = omega arith
changed_le total Same = omega arith
changed_le total One = omega arith
changed_le total Three = omega arith

added_le : (total : ℕ) (own : ℕ × State) → AtMost 3 own → AtMost (total + 3) (added total own)
unfolding AtMost
added_le total own le = omega (arith, le)

joined_le : (total : ℕ) (join : Option (Change × After)) (own : ℕ × State) → AtMost 3 own → AtMost (total + 3) (joined_or total join own)
joined_le total (Some j) own le = at (total + 3) (changed total j.0) _ (changed_le total j.0)
joined_le total None own le = added_le total own le

past_selectors_le : (c total : ℕ) (after : After) → AtMost (total + 3) (past_selectors false c total after)
unfolding past_selectors
past_selectors_le c total after =
    pick (skips_marks after && (c == 0x200D)) _ _ (total + 3) (at (total + 3) total _ (omega arith))
    (pick (skips_marks after && is_ligature_transparent c) _ _ (total + 3) (at (total + 3) total _ (omega arith)) (joined_le total (joins false after c) (alone false c) (alone_le c)))

in_context_le : (c total : ℕ) (s : State) → AtMost (total + 3) (in_context false c total s)
unfolding in_context
in_context_le c total s =
    pick (c == 0xFE0F) _ _ (total + 3) (at (total + 3) total _ (omega arith)) (pick (c == 0xFE01) _ _ (total + 3) (at (total + 3) total _ (omega arith))
    (pick (c == 0xFE0E) _ _ (total + 3) (at (total + 3) total _ (omega arith)) (pick (s.text && is_text_presentation_base c) _ _ (total + 3) (at (total + 3) (total + 1) _ (omega arith))
    (pick (s.quote && is_quote c) _ _ (total + 3) (at (total + 3) (total + 2) _ (omega arith)) (past_selectors_le c total s.after)))))

past_emoji_le : (c total : ℕ) (s : State) → AtMost (total + 3) (past_emoji false c total s)
unfolding past_emoji
past_emoji_le c total s =
    pick (c == 0x0A) _ _ (total + 3) (at (total + 3) (total + 1) _ (omega arith)) (pick ((c == 0x0D) && is_line_feed s.after) _ _ (total + 3) (at (total + 3) total _ (omega arith))
    (pick (nat_le c 0xA0) _ _ (total + 3) (at (total + 3) (total + 1) _ (omega arith)) (pick (is_plain s) _ _ (total + 3) (added_le total (alone false c) (alone_le c)) (in_context_le c total s))))

most_two : (b : Bool) (total : ℕ) → total + (if b then 0 else 2) ≤ total + 3
most_two true total = omega arith
most_two false total = omega arith

step_at : (c total : ℕ) (s : State) → AtMost (total + 3) (step false c (total, s))
unfolding step
step_at c total s =
    pick (not s.emoji) _ _ (total + 3) (past_emoji_le c total s)
    (pick (is_emoji_variation_base c) _ _ (total + 3) (at (total + 3) (total + (if is_joined_emoji s.after then 0 else 2)) _ (most_two (is_joined_emoji s.after) total)) (past_emoji_le c total _))

step_of : (c : ℕ) (r : ℕ × State) → (step false c r).0 ≤ r.0 + 3
unfolding AtMost
step_of c (total, s) = step_at c total s

read_le : (cs : List ℕ) → (read_before false cs (0, plain)).0 ≤ 3 * length cs
read_le [] = omega arith
read_le (c ∷ cs) = omega (arith, read_le cs, step_of c (read_before false cs (0, plain)))

str_width_le : (cs : List ℕ) → str_width false cs ≤ 3 * length cs
unfolding str_width
str_width_le cs = read_le cs

-- characters with leads move the pen by no more than their leads and sixteen columns each

abbrev cost : List (ℕ × ℕ) → ℕ
cost [] = 0
cost (p ∷ more) = p.0 + 16 + cost more

cost_append : (ps qs : List (ℕ × ℕ)) → cost (ps ++ qs) ≡ cost ps + cost qs
cost_append [] qs = omega arith
cost_append (p ∷ ps) qs = omega (arith, cost_append ps qs)

pen_le : (tab : ℕ) (pen : Pen) (ps : List (ℕ × ℕ)) → tab ≤ 16 → (fold (moved tab) pen ps).column ≤ pen.column + cost ps
pen_le tab pen [] most = omega arith
pen_le tab pen ((lead, c) ∷ ps) most =
    omega (arith, pen_le tab (moved tab pen (lead, c)) ps most, advance_of-le tab pen.in_escape pen.column lead c most)

cost_lead : (lead : ℕ) (cs : List ℕ) → cost (with_lead lead cs) ≤ lead + 16 * length cs
cost_lead lead [] = omega arith
cost_lead lead (c ∷ cs) = omega (arith, cost_lead 0 cs)

-- the characters of pieces

abbrev count : List (List ℕ) → ℕ
count [] = 0
count (p ∷ ps) = length p + count ps

abbrev AreScalars : List (List ℕ) → Type 0
AreScalars [] = Unit {0}
AreScalars (p ∷ ps) = (all_scalars p ≡ true) × AreScalars ps

count_prepend : (c : ℕ) (ps : List (List ℕ)) → count (prepend (c ∷ []) ps) ≡ count ps + 1
count_prepend c [] = refl
count_prepend c (p ∷ ps) = omega arith

scalars_prepend : (c : ℕ) (ps : List (List ℕ)) → scalar c ≡ true → AreScalars ps → AreScalars (prepend (c ∷ []) ps)
scalars_prepend c [] is are = (rw is refl, tt)
scalars_prepend c (p ∷ ps) is (piece, are) = (rw (is, piece) refl, are)

cut_if : (n : ℕ) (b : Bool) (ps qs : List (List ℕ)) → (count ps ≡ n) × AreScalars ps → (count qs ≡ n) × AreScalars qs → (count (if b then ps else qs) ≡ n) × AreScalars (if b then ps else qs)
cut_if n true ps qs x y = x
cut_if n false ps qs x y = y

cut_counts : (rule : Rule) (before cs after : List ℕ) → all_scalars cs ≡ true → (count (cut rule before cs after) ≡ length cs) × AreScalars (cut rule before cs after)
unfolding cut
cut_counts rule before [] after scalars = (refl, tt)
cut_counts rule before (c ∷ cs) after scalars =
    let parts = both (scalar c) (all_scalars cs) scalars in
    let pieces : List (List ℕ) = cut rule (c ∷ before) cs after in
    let rest = cut_counts rule (c ∷ before) cs after parts.1 in
    cut_if (length (c ∷ cs)) (rule (c ∷ before) (cs ++ after)) ((c ∷ []) ∷ pieces) (prepend (c ∷ []) pieces)
    (omega (arith, rest.0), (rw parts.0 refl, rest.1))
    (omega (arith, rest.0, count_prepend c pieces), scalars_prepend c pieces parts.0 rest.1)

cluster_le : (p : List ℕ) → all_scalars p ≡ true → cost (led (encode_utf8_all p)) ≤ 19 * length p
cluster_le p scalars =
    let same : chars (encode_utf8_all p) ≡ p = chars-encodes p scalars in
    rw same (omega (arith, cost_lead (str_width false p) p, str_width_le p))

clusters_le : (ps : List (List ℕ)) → AreScalars ps → cost (flat_map led (map encode_utf8_all ps)) ≤ 19 * count ps
clusters_le [] scalars = omega arith
clusters_le (p ∷ ps) (piece, scalars) =
    omega (arith, cost_append (led (encode_utf8_all p)) (flat_map led (map encode_utf8_all ps)), cluster_le p piece, clusters_le ps scalars)

text_width_le : (tab : ℕ) (text : List ℕ) → tab ≤ 16 → IsUtf8 text → text_width tab text ≤ 19 * length text
unfolding text_width segments
text_width_le tab text most utf8 =
    let pieces : List (List ℕ) = cut (is_grapheme_break true) [] (chars text) [] in
    let counts = cut_counts (is_grapheme_break true) [] (chars text) [] (scalars-chars text utf8) in
    omega (arith, pen_le tab at_margin (flat_map led (graphemes true text)) most, clusters_le pieces counts.1, counts.0, few_chars text utf8)

-- a text is cut at a boundary

down_at : (text : List ℕ) (at : ℕ) → IsUtf8 text → at ≤ length text → IsCharBoundary text (boundary_down text at)
unfolding boundary_down
down_at text zero utf8 le = IsCharBoundary-start text utf8
down_at text (suc at) utf8 le =
    elim (is_char_start (get_or text (suc at) 0)) as (λ v. is_char_start (get_or text (suc at) 0) ≡ v → IsCharBoundary text (if v then suc at else boundary_down text at)) [
      | true ↦ λ e. (le, λ lt big. grind (arith, nat_tests))
      | false ↦ λ e. down_at text at utf8 (omega (arith, le))
    ] refl

up_at : (text : List ℕ) (at : ℕ) → at ≤ length text → IsCharBoundary text (boundary_up text at)
unfolding boundary_up
up_at text at le =
    let p : ℕ → Bool = λ byte. not (is_char_start byte) in
    let n : ℕ = prefix_len p (drop at text) in
    let size : length (drop at text) ≡ length text - at = length-drop at text in (
      omega (arith, prefix_len-le-length p (drop at text)),
      λ lt big.
          let stops : not (is_char_start (get_or (drop at text) n 0)) ≡ false = prefix_len_stops p (drop at text) 0 (omega (arith, lt)) in
          let here : not (is_char_start (get_or text (at + n) 0)) ≡ false = subst (λ b. not (is_char_start b) ≡ false) (get_or-drop at text n 0) stops in
          grind (arith, nat_tests),
    )

near : (text : List ℕ) (place : ℕ) (at_start : Bool) → IsUtf8 text → place ≤ length text → IsCharBoundary text (if at_start then boundary_down text place else boundary_up text place)
near text place true utf8 le = down_at text place utf8 le
near text place false utf8 le = up_at text place le

taken_le : (tab : ℕ) (text : List ℕ) (k : ℕ) → tab ≤ 16 → IsUtf8 text → IsCharBoundary text k → text_width tab (take k text) ≤ 19 * length text
taken_le tab text k most utf8 boundary =
    let size = length-take k text in
    omega (arith, text_width_le tab (take k text) most (IsUtf8-take text k utf8 boundary), size)

column_in_le : (tab : ℕ) (text : List ℕ) (place : ℕ) (at_start : Bool) → tab ≤ 16 → IsUtf8 text → column_in tab text place at_start ≤ 19 * length text + 1
unfolding column_in
column_in_le tab text place at_start most utf8 =
    elim (ltb (length text) place) as (λ v. ltb (length text) place ≡ v → (if v then text_width tab text + 1 else text_width tab (take (if at_start then boundary_down text place else boundary_up text place) text)) ≤ 19 * length text + 1) [
      | true ↦ λ e. omega (arith, text_width_le tab text most utf8)
      | false ↦ λ e.
          let le : place ≤ length text = grind (arith, nat_tests) in
          omega (arith, taken_le tab text (if at_start then boundary_down text place else boundary_up text place) most utf8 (near text place at_start utf8 le))
    ] refl

pub column_le : (tab : ℕ) (row : RowView) (offset : ℕ) (at_start : Bool) → tab ≤ 16 → IsUtf8 row.text → column_at tab row offset at_start ≤ 19 * length row.text + 1
column_le tab row offset at_start most utf8 = column_in_le tab row.text (offset - row.offset) at_start most utf8

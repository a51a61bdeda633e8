-- The columns before places of a text, one after another.
use Rattle.std.proofs.Common.{◌≡◌, true, ℕ, ◌+◌, ◌-◌, ◌*◌, ◌<◌, ◌≤◌, List, [], ◌∷◌, ◌++◌, length, map, get_or, take, fold, refl, sym, ap, subst, ◌∙◌, arith, append_assoc, append-nil, length-append}
use Rattle.std.specs.List.{concat, flat_map}
use Rattle.std.specs.List.Sorted.{IsNonDecreasingBy}
use Rattle.std.specs.Str.{IsCharBoundary, IsUtf8}
use Rattle.std.proofs.lemmas.List.{get_or-map, length-map, map-append, take_all, take_more}
use Rattle.std.proofs.lemmas.List.Elements.{All-append, All-cons, All-nil}
use Rattle.std.proofs.lemmas.List.Sums.{fold-append}
use Rattle.std.proofs.lemmas.Str.{IsCharBoundary-from_take}
use Rattle.unicode_segmentation.specs.Grapheme.{graphemes, is_grapheme_break}
use Rattle.unicode_segmentation.proofs.SegmentsLemmas.{concat-segments}
use Rattle.oxc_plan.specs.declared.columns.Pen.{Pen}
use Rattle.oxc_plan.specs.Measuring.{HaveColumns, HaveColumnsUpTo, IsAhead, IsGoneThrough, widths_before}
use Rattle.oxc_plan.specs.Width.{at_margin, led, led_text, moved, text_width}
use Rattle.oxc_plan.proofs.ClustersLemmas.{cluster_end, concat_append, flat_append, led_prefix, part_is_text}

-- one column more
pub have_more : (tab : ℕ) (text places columns : List ℕ) (offset column d : ℕ) → IsNonDecreasingBy (λ at. at) places → HaveColumnsUpTo tab text places columns offset → length columns < length places
    → column ≡ text_width tab (take (get_or places (length columns) d) text) → column ≤ 18 * length text → HaveColumnsUpTo tab text places (columns ++ column ∷ []) offset
have_more tab text places columns offset column d ascend have lt is small =
    let n = length columns in
    let size : length (columns ++ column ∷ []) ≡ n + 1 = length-append columns (column ∷ []) in
    let f : ℕ → ℕ = λ at. text_width tab (take at text) in
    let known : columns ++ column ∷ [] ≡ widths_before tab text (take (n + 1) places) =
    ap (λ l. l ++ column ∷ []) have.front.known ∙ ap (λ k. map f (take n places) ++ k ∷ []) is
    ∙ sym (map-append f (take n places) (get_or places n d ∷ [])) ∙ ap (map f) (sym (take_more places n d lt)) in
    record {
      few = omega (arith, size, lt);
      front = record {
        known = known ∙ ap (λ k. widths_before tab text (take k places)) (sym size);
        small = All-append (λ c. c ≤ 18 * length text) columns (column ∷ []) have.front.small (All-cons (λ c. c ≤ 18 * length text) column [] small (All-nil (λ c. c ≤ 18 * length text)));
      };
      ahead = λ more. omega (arith, have.ahead lt, ascend n (length (columns ++ column ∷ [])) 0 (omega (arith, size)) more);
    }

pub have_none : (tab : ℕ) (text places : List ℕ) → HaveColumnsUpTo tab text places [] 0
have_none tab text places = record {
  few = omega arith;
  front = record { known = refl; small = All-nil (λ c. c ≤ 18 * length text) };
  ahead = λ more. omega arith;
}

pub have_further : (tab : ℕ) (text places columns : List ℕ) (offset to : ℕ) → HaveColumnsUpTo tab text places columns offset → IsAhead places (length columns) to → HaveColumnsUpTo tab text places columns to
have_further tab text places columns offset to have ahead = record { few = have.few; front = have.front; ahead = ahead }

pub have_all : (tab : ℕ) (text places columns : List ℕ) (offset : ℕ) → HaveColumnsUpTo tab text places columns offset → length places ≤ length columns → HaveColumns tab text places columns
have_all tab text places columns offset have done = record {
  known = have.front.known ∙ ap (widths_before tab text) (take_all (length columns) places done);
  small = have.front.small;
}

-- the columns before a place that was found
pub column_found : (tab : ℕ) (text places columns : List ℕ) (i at d : ℕ) → HaveColumns tab text places columns → i < length places → get_or places i d ≡ at
    → (get_or columns i d ≡ text_width tab (take at text)) × (get_or columns i d ≤ 18 * length text)
column_found tab text places columns i at d have lt is =
    let size : length columns ≡ length places = ap length have.known ∙ length-map places (λ k. text_width tab (take k text)) in (
      ap (λ l. get_or l i d) have.known ∙ get_or-map (λ k. text_width tab (take k text)) places i d d lt ∙ ap (λ k. text_width tab (take k text)) is,
      have.small i d (omega (arith, lt, size)),
    )

pub as_many : (tab : ℕ) (text places columns : List ℕ) → HaveColumns tab text places columns → length columns ≡ length places
as_many tab text places columns have = ap length have.known ∙ length-map places (λ k. text_width tab (take k text))

-- through a text, cluster by cluster
pub gone_none : (tab : ℕ) (text : List ℕ) → IsGoneThrough tab text 0 at_margin (graphemes true text)
gone_none tab text = record { done = []; parts = refl; offset_is = refl; pen_is = refl }

pub gone_more : (tab : ℕ) (text : List ℕ) (offset : ℕ) (pen : Pen) (cluster : List ℕ) (more : List (List ℕ)) → IsGoneThrough tab text offset pen (cluster ∷ more)
    → IsGoneThrough tab text (offset + length cluster) (fold (moved tab) pen (led cluster)) more
gone_more tab text offset pen cluster more gone = record {
  done = gone.done ++ cluster ∷ [];
  parts = gone.parts ∙ sym (append_assoc gone.done (cluster ∷ []) more);
  offset_is = omega (arith, gone.offset_is, ap length (concat_append gone.done (cluster ∷ [])), length-append (concat gone.done) (cluster ++ []), length-append cluster []);
  pen_is =
      ap (λ p. fold (moved tab) p (led cluster)) gone.pen_is
      ∙ sym (fold-append (moved tab) at_margin (flat_map led gone.done) (led cluster))
      ∙ ap (λ l. fold (moved tab) at_margin (flat_map led gone.done ++ l)) (sym (append-nil (led cluster)))
      ∙ ap (fold (moved tab) at_margin) (sym (flat_append led gone.done (cluster ∷ [])));
}

pub gone_end : (tab : ℕ) (text : List ℕ) (offset : ℕ) (pen : Pen) (cluster : List ℕ) (more : List (List ℕ)) → IsUtf8 text → IsGoneThrough tab text offset pen (cluster ∷ more) → offset + length cluster ≤ length text
gone_end tab text offset pen cluster more utf8 gone = omega (arith, gone.offset_is, cluster_end text gone.done cluster more utf8 gone.parts)

pub gone_all : (tab : ℕ) (text : List ℕ) (offset : ℕ) (pen : Pen) → IsUtf8 text → IsGoneThrough tab text offset pen [] → (offset ≡ length text) × (pen.column ≡ text_width tab text)
unfolding text_width
gone_all tab text offset pen utf8 gone =
    let all : graphemes true text ≡ gone.done = gone.parts ∙ append-nil gone.done in (
      gone.offset_is ∙ ap length (sym (ap concat all) ∙ concat-segments (is_grapheme_break true) text utf8),
      ap (λ (p : Pen). p.column) gone.pen_is ∙ ap (λ ps. (fold (moved tab) at_margin (flat_map led ps)).column) (sym all),
    )

-- the columns before a place in a cluster
pub width_in : (tab : ℕ) (text : List ℕ) (offset : ℕ) (pen : Pen) (cluster : List ℕ) (more : List (List ℕ)) (at : ℕ) → IsUtf8 text → IsGoneThrough tab text offset pen (cluster ∷ more)
    → offset ≤ at → at ≤ offset + length cluster → IsCharBoundary text at → (fold (moved tab) pen (led (take (at - offset) cluster))).column ≡ text_width tab (take at text)
unfolding text_width
width_in tab text offset pen cluster more at utf8 gone from upto boundary =
    let k = at - offset in
    let place : length (concat gone.done) + k ≡ at = omega (arith, gone.offset_is, from) in
    let prefix = led_prefix text gone.done cluster more k utf8 gone.parts (omega (arith, upto)) (subst (IsCharBoundary text) (sym place) boundary) in
    ap (λ p. (fold (moved tab) p (led (take k cluster))).column) gone.pen_is
    ∙ ap (λ (p : Pen). p.column) (sym (fold-append (moved tab) at_margin (flat_map led gone.done) (led (take k cluster))))
    ∙ ap (λ l. (fold (moved tab) at_margin l).column) (sym prefix)
    ∙ ap (λ n. (fold (moved tab) at_margin (led_text (take n text))).column) place

pub cut_in : (tab : ℕ) (text : List ℕ) (offset : ℕ) (pen : Pen) (cluster : List ℕ) (more : List (List ℕ)) (at : ℕ) → IsUtf8 text → IsUtf8 cluster → IsGoneThrough tab text offset pen (cluster ∷ more)
    → offset ≤ at → at ≤ offset + length cluster → IsCharBoundary text at → IsCharBoundary cluster (at - offset)
cut_in tab text offset pen cluster more at utf8 piece gone from upto boundary =
    let k = at - offset in
    let place : length (concat gone.done) + k ≡ at = omega (arith, gone.offset_is, from) in
    IsCharBoundary-from_take cluster k piece (omega (arith, upto))
    (part_is_text text gone.done cluster more k utf8 gone.parts (omega (arith, upto)) (subst (IsCharBoundary text) (sym place) boundary))

-- The lines of a text, one after another.
use Rattle.std.proofs.Common.{◌≡◌, ℕ, ◌+◌, ◌-◌, ◌≤◌, ◌<◌, List, [], ◌∷◌, ◌++◌, length, drop, get_or, map, refl, sym, ap, subst, ◌∙◌, arith, append_assoc}
use Rattle.std.specs.Str.{IsUtf8, IsCharBoundary}
use Rattle.std.proofs.lemmas.List.{length-map, length-append}
use Rattle.std.proofs.lemmas.Str.{IsCharBoundary-from_rest}
use Rattle.std.proofs.Math.ListN.{get_or-append}
use Rattle.std.proofs.Math.Seq.{get_or-append_seam, get_or-append_right, drop-drop}
use Rattle.source_location.specs.declared.newlines.LineEnding.{LineEnding}
use Rattle.source_location.specs.Breaks.{LineBreak, breaks_of, moved}
use Rattle.source_location.specs.Rows.{line_starts}
use Rattle.source_location.specs.Newlines.{ending_bytes, IsFirstBreak}
use Rattle.source_location.proofs.BreaksLemmas.{breaks_valid}
use Rattle.source_location.proofs.CutLemmas.{length-ending}
use Rattle.source_location.proofs.IndexLemmas.{start_at}
use Rattle.source_location.proofs.NewlinesLemmas.{first_break_boundary}
use Rattle.source_location.proofs.RowsLemmas.{row_of-between}
use Rattle.text_places.specs.Places.{line_start_of}
use Rattle.utf16_places.specs.declared.wide.WideCharacter.{WideCharacter}
use Rattle.utf16_places.specs.Index.{AreWideBefore}
use Rattle.utf16_places.proofs.LineLemmas.{starts_at, line_start-row}

-- before the first place nothing is marked
pub none_marked : (text : List ℕ) (wide : List WideCharacter) → wide ≡ [] → AreWideBefore text 0 wide
none_marked text wide e = record {
  there = λ k d h. absurd (omega (arith, h, ap length e));
  before = λ k d h. absurd (omega (arith, h, ap length e));
  ascend = λ i j d lt h. absurd (omega (arith, h, ap length e));
  complete = λ at h begins. absurd (omega (arith, h));
}

pub starts_none : (list : List LineBreak) → map (λ (b : LineBreak). b.end + 1 + 0) list ≡ map (λ (b : LineBreak). b.end + 1) list
starts_none [] = refl
starts_none (b ∷ list) = let same : b.end + 1 + 0 ≡ b.end + 1 = omega arith in rw (same, starts_none list) refl

pub begins_none : (list : List LineBreak) → map (λ (b : LineBreak). b.start + 0) list ≡ map (λ (b : LineBreak). b.start) list
begins_none [] = refl
begins_none (b ∷ list) = let same : b.start + 0 ≡ b.start = omega arith in rw (same, begins_none list) refl

-- where the breaks begin, by those of what follows the first
begins_behind : (n at : ℕ) (list : List LineBreak) → map (λ (b : LineBreak). b.start + at) (map (moved n) list) ≡ map (λ (b : LineBreak). b.start + (at + n)) list
begins_behind n at [] = refl
begins_behind n at (b ∷ list) = let same : b.start + n + at ≡ b.start + (at + n) = omega arith in rw (same, begins_behind n at list) refl

pub begins_step : (begins rest behind all : List ℕ) (p at at' : ℕ) (ending : LineEnding) → IsFirstBreak rest p ending → behind ≡ drop (p + length (ending_bytes ending)) rest
    → at' ≡ at + (p + length (ending_bytes ending))
    → begins ++ map (λ (b : LineBreak). b.start + at) (breaks_of rest) ≡ all
    → (begins ++ (at + p) ∷ []) ++ map (λ (b : LineBreak). b.start + at') (breaks_of behind) ≡ all
begins_step begins rest behind all p at at' ending found is_behind is_at known =
    let n = p + length (ending_bytes ending) in
    let first : p + at ≡ at + p = omega arith in
    append_assoc begins ((at + p) ∷ []) (map (λ (b : LineBreak). b.start + at') (breaks_of behind))
    ∙ ap (λ l. begins ++ l)
    (ap (λ k. k ∷ map (λ (b : LineBreak). b.start + at') (breaks_of behind)) (sym first)
    ∙ ap (λ l. (p + at) ∷ l)
    (ap (λ k. map (λ (b : LineBreak). b.start + k) (breaks_of behind)) is_at ∙ ap (λ bytes. map (λ (b : LineBreak). b.start + (at + n)) (breaks_of bytes)) is_behind
    ∙ sym (begins_behind n at (breaks_of (drop n rest))))
    ∙ sym (ap (map (λ (b : LineBreak). b.start + at)) found.breaks))
    ∙ known

-- the places from the last known line start up to the next one are in its line
pub in_line : (text starts more : List ℕ) (at next : ℕ) → starts ++ more ≡ line_starts (breaks_of text) → 0 < length starts → get_or starts (length starts - 1) 0 ≡ at
    → (0 < length more → get_or more 0 0 ≡ next) → (place : ℕ) → at ≤ place → place < next → line_start_of text place ≡ at
in_line text starts more at next all some last first place from upto =
    let r = length starts - 1 in
    let count : length starts + length more ≡ length (breaks_of text) + 1 =
    omega (arith, length-append starts more, ap length all, length-map (breaks_of text) (λ (b : LineBreak). b.end + 1)) in
    let here : starts_at text r ≡ at =
    sym (start_at (starts ++ more) text r 0 all (omega (arith, length-append starts more))) ∙ get_or-append starts more 0 r (omega (arith, some)) ∙ last in
    let after : r < length (breaks_of text) → place < starts_at text (r + 1) = λ h.
    let gap : r + 1 - length starts ≡ 0 = omega (arith, some) in
    omega (
      arith,
      upto,
      first (omega (arith, h, count, some)),
      start_at (starts ++ more) text (r + 1) 0 all (omega (arith, length-append starts more, h, count, some)),
      get_or-append_right starts more (r + 1) 0 (omega (arith, some)),
      ap (λ k. get_or more k 0) gap,
    ) in
    line_start-row text place
    ∙ ap (starts_at text) (row_of-between (length text) (breaks_of text) place r (breaks_valid text).ordered (omega (arith, count, some)) (omega (arith, here, from)) after)
    ∙ here

-- where the first break of the rest ends, as a line start
pub next_is : (rest : List ℕ) (at p : ℕ) (ending : LineEnding) → IsFirstBreak rest p ending
    → get_or (map (λ (b : LineBreak). b.end + 1 + at) (breaks_of rest)) 0 0 ≡ at + p + length (ending_bytes ending)
next_is rest at p ending found =
    ap (λ l. get_or (map (λ (b : LineBreak). b.end + 1 + at) l) 0 0) found.breaks ∙ omega (arith, length-ending ending)

-- the text may be cut there
pub next_boundary : (text rest : List ℕ) (at p : ℕ) (ending : LineEnding) → rest ≡ drop at text → at ≤ length text → IsUtf8 rest → IsFirstBreak rest p ending
    → IsCharBoundary text (at + p + length (ending_bytes ending))
next_boundary text rest at p ending same le utf8 found =
    let place : at + (p + length (ending_bytes ending)) ≡ at + p + length (ending_bytes ending) = omega arith in
    subst (λ k. IsCharBoundary text k) place
    (IsCharBoundary-from_rest text at (p + length (ending_bytes ending)) le (subst (λ r. IsCharBoundary r (p + length (ending_bytes ending))) same (first_break_boundary rest p ending utf8 found)))

-- the last of a list that was pushed to
pub last_pushed : (list starts : List ℕ) (x y : ℕ) → list ≡ starts ++ x ∷ [] → x ≡ y → get_or list (length list - 1) 0 ≡ y
last_pushed list starts x y e is =
    let place : length list - 1 ≡ length starts = omega (arith, ap length e, length-append starts (x ∷ [])) in
    ap (λ k. get_or list k 0) place ∙ ap (λ l. get_or l (length starts) 0) e ∙ get_or-append_seam starts x [] 0 ∙ is

-- what follows the first break of the rest
pub rest_behind : (text rest : List ℕ) (at p n : ℕ) → rest ≡ drop at text → drop (at + p + n) text ≡ drop (p + n) rest
rest_behind text rest at p n same =
    let place : at + (p + n) ≡ at + p + n = omega arith in
    ap (λ k. drop k text) (sym place) ∙ sym (drop-drop (p + n) at text) ∙ ap (drop (p + n)) (sym same)

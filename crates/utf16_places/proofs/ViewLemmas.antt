-- What an index says of its text.
use Rattle.std.proofs.Common.{◌≡◌, ℕ, ◌+◌, ◌≤◌, List, length, sym, ap, subst, ◌∙◌, arith}
use Rattle.std.specs.Str.{IsCharBoundary}
use Rattle.std.specs.List.Sorted.{IsNonDecreasing}
use Rattle.std.proofs.lemmas.List.{length-map}
use Rattle.source_location.specs.Breaks.{LineBreak, breaks_of}
use Rattle.source_location.specs.Rows.{row_of, line_starts}
use Rattle.source_location.proofs.BreaksLemmas.{breaks_valid}
use Rattle.source_location.proofs.IndexLemmas.{starts_rise}
use Rattle.utf16_places.specs.Places.{IsNearest}
use Rattle.utf16_places.specs.declared.place.Place16.{Place16}
use Rattle.utf16_places.specs.declared.wide.WideCharacter.{WideCharacter}
use Rattle.utf16_places.specs.Index.{Utf16View, IsIndexOf, AreWideOf}
use Rattle.utf16_places.specs.Parts.{AreWideWithPart}
use Rattle.utf16_places.proofs.LineLemmas.{starts_at}
use Rattle.utf16_places.proofs.PlaceLemmas.{part_of, nearest_past}

pub known_now : (view now : Utf16View) (text : List ℕ) → view ≡ now → IsIndexOf view text → IsIndexOf now text
known_now view now text e known = subst (λ v. IsIndexOf v text) e known

pub wide_now : (wide : List WideCharacter) (now : Utf16View) (text : List ℕ) → wide ≡ now.wide → IsIndexOf now text → AreWideOf text wide
wide_now wide now text e known = subst (λ w. AreWideOf text w) (sym e) known.wide

pub line_count : (starts text : List ℕ) → starts ≡ line_starts (breaks_of text) → length starts ≡ length (breaks_of text) + 1
line_count starts text e = omega (arith, ap length e, length-map (breaks_of text) (λ (b : LineBreak). b.end + 1))

pub starts_ascend : (starts text : List ℕ) → starts ≡ line_starts (breaks_of text) → IsNonDecreasing starts
starts_ascend starts text e = subst IsNonDecreasing (sym e) (starts_rise (breaks_of text) (breaks_valid text).ordered)

pub with_part : (text : List ℕ) (wide : List WideCharacter) (line start limit : ℕ) → AreWideOf text wide → IsCharBoundary text limit → row_of (breaks_of text) limit ≡ line → start ≡ starts_at text line
    → AreWideWithPart wide start limit
with_part text wide line start limit are b row is = record {
  text = text;
  known = are;
  part = part_of text line limit start b row is;
}

-- past the last line the text's end is nearest
pub end_nearest : (view now : Utf16View) (text : List ℕ) (place : Place16) (lines : ℕ) → view ≡ now → IsIndexOf now text → lines ≡ length view.line_starts → lines ≤ place.line → IsNearest text place view.end
end_nearest view now text place lines same known count past =
    nearest_past text place view.end (ap (λ (v : Utf16View). v.end) same ∙ known.end)
    (omega (arith, line_count view.line_starts text (ap (λ (v : Utf16View). v.line_starts) same ∙ known.starts), count, past))

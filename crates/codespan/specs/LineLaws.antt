-- Where the lines of a text start is what the trait `Files` asks of line starts.
use Rattle.std.proofs.Common.{◌≡◌, ℕ, zero, suc, ◌+◌, ◌<◌, ◌==◌, true, List, ◌∷◌, length, map, get_or, slice_index, refl, subst, arith, All}
use Rattle.std.specs.List.{range_with_len}
use Rattle.std.specs.List.Sorted.{IsStrictlyIncreasing}
use Rattle.std.specs.Str.{IsUtf8, IsCharBoundary}
use Rattle.std.proofs.lemmas.Bool.Decides.{nat_tests}
use Rattle.std.proofs.lemmas.List.{length-map, get_or-map}
use Rattle.std.proofs.lemmas.List.Elements.{All-filter, filter_passes}
use Rattle.std.proofs.lemmas.List.FromFn.{length-range_with_len, get_or-range_with_len}
use Rattle.std.proofs.lemmas.List.Kept.{IsStrictlyIncreasing-filter}
use Rattle.std.proofs.lemmas.Str.{IsCharBoundary-start, IsCharBoundary-after_ascii}
use Rattle.codespan_reporting.specs.Lines.{AreLineStarts}
use Rattle.codespan.specs.Lines.{line_feeds, line_starts_lf}
use Rattle.base_lemmas.proofs.Ranges.{range_rises, range_within}

pub feeds_rise : (text : List ℕ) → IsStrictlyIncreasing (line_feeds text)
unfolding line_feeds
feeds_rise text = IsStrictlyIncreasing-filter (λ at. slice_index text at == 10) (range_with_len 0 (length text)) (range_rises 0 (length text))

pub feeds_within : (text : List ℕ) → All (λ at. at < length text) (line_feeds text)
unfolding line_feeds
feeds_within text = All-filter (λ at. slice_index text at == 10) (λ at. at < length text) (range_with_len 0 (length text)) (range_within (length text))

pub feeds_are : (text : List ℕ) → All (λ at. (slice_index text at == 10) ≡ true) (line_feeds text)
unfolding line_feeds
feeds_are text = filter_passes (λ at. slice_index text at == 10) (range_with_len 0 (length text))

-- the starts
pub starts_length : (text : List ℕ) → length (line_starts_lf text) ≡ length (line_feeds text) + 1
unfolding line_starts_lf
starts_length text = omega (arith, length-map (line_feeds text) (λ at. at + 1))

pub start_after_feed : (text : List ℕ) (k d e : ℕ) → k < length (line_feeds text) → get_or (line_starts_lf text) (suc k) e ≡ get_or (line_feeds text) k d + 1
unfolding line_starts_lf
start_after_feed text k d e h = get_or-map (λ at. at + 1) (line_feeds text) k d e h

moved_rise : (feeds : List ℕ) → IsStrictlyIncreasing feeds → IsStrictlyIncreasing (map (λ at. at + 1) feeds)
moved_rise feeds rise k h =
    let size = length-map feeds (λ at. at + 1) in
    let next : k + 1 < length feeds = omega (arith, size, h) in
    let here : k < length feeds = omega (arith, next) in
    omega (arith, get_or-map (λ at. at + 1) feeds k 0 0 here, get_or-map (λ at. at + 1) feeds (k + 1) 0 0 next, rise k next)

starts_rise_from : (feeds : List ℕ) → IsStrictlyIncreasing feeds → IsStrictlyIncreasing (0 ∷ map (λ at. at + 1) feeds)
starts_rise_from feeds rise zero h =
    omega (arith, get_or-map (λ at. at + 1) feeds 0 0 0 (omega (arith, length-map feeds (λ at. at + 1))))
starts_rise_from feeds rise (suc k) h =
    let one : suc (k + 1) ≡ suc k + 1 = omega arith in
    let next : k + 1 < length (map (λ at. at + 1) feeds) = omega (arith, h) in
    subst (λ m. get_or (map (λ at. at + 1) feeds) k 0 < get_or (0 ∷ map (λ at. at + 1) feeds) m 0) one (moved_rise feeds rise k next)

pub starts_rise : (text : List ℕ) → IsStrictlyIncreasing (line_starts_lf text)
unfolding line_starts_lf
starts_rise text = starts_rise_from (line_feeds text) (feeds_rise text)

-- a text may be cut where a line starts
pub starts_boundaries : (text : List ℕ) → IsUtf8 text → All (IsCharBoundary text) (line_starts_lf text)
unfolding line_starts_lf
starts_boundaries text utf8 zero d h = IsCharBoundary-start text utf8
starts_boundaries text utf8 (suc k) d h =
    let inside : k < length (line_feeds text) = omega (arith, h, starts_length text) in
    let feed = get_or (line_feeds text) k 0 in
    let is : get_or text feed 0 ≡ 10 = grind (arith, nat_tests, feeds_are text k 0 inside) in
    rw (start_after_feed text k 0 d inside) (IsCharBoundary-after_ascii text feed utf8 (feeds_within text k 0 inside) (omega (arith, is)))

pub starts_valid : (text : List ℕ) → IsUtf8 text → AreLineStarts text (line_starts_lf text)
unfolding line_starts_lf
starts_valid text utf8 = record { first = refl; rising = starts_rise text; boundaries = starts_boundaries text utf8 }

-- What follows from where the line feeds of a text stand.
use Rattle.std.proofs.Common.{◌≡◌, ℕ, zero, suc, ◌+◌, ◌-◌, ◌<◌, ◌≤◌, ◌^◌, ◌==◌, true, cond, List, [], ◌∷◌, ◌++◌, length, map, take, drop, get_or, slice_index, refl, sym, ap, subst, ◌∙◌, arith, All, count_by, leb, ltb, ⊎_elim, append-nil, append_assoc}
use Rattle.std.specs.List.{filter, flat_map, range_with_len}
use Rattle.std.specs.List.Sorted.{IsStrictlyIncreasing, IsNonDecreasingBy}
use Rattle.std.specs.Str.{IsUtf8, IsCharBoundary}
use Rattle.std.proofs.lemmas.Bool.{cases_lt, ltb-true}
use Rattle.std.proofs.lemmas.Bool.Decides.{nat_tests}
use Rattle.std.proofs.lemmas.List.{get_or_past, get_or_default, take_all, map-append}
use Rattle.std.proofs.lemmas.List.FromFn.{length-range_with_len}
use Rattle.std.proofs.lemmas.List.Kept.{AllPairs-from_increasing}
use Rattle.std.proofs.lemmas.List.Sorted.{IsPartitionedBy-ltb}
use Rattle.std.proofs.lemmas.Grind.{flat_map-append}
use Rattle.std.proofs.Math.Seq.{take-add}
use Rattle.std.proofs.lemmas.List.Sums.{length-filter, count_by-le-length, sum_by-cons}
use Rattle.std.proofs.lemmas.Str.{IsCharBoundary-end}
use Rattle.memchr.specs.Find.{is_byte, places_from, places}
use Rattle.codespan_reporting.specs.Lines.{line_at}
use Rattle.codespan.specs.declared.index.ByteIndex.{ByteIndex}
use Rattle.codespan.specs.LineLaws.{feeds_rise, feeds_within, starts_length, start_after_feed, starts_rise, starts_boundaries}
use Rattle.codespan.specs.Lines.{line_feeds, line_starts_lf, line_of, start_of_line, line_extent, bytes_of, LinesJoin}
use Rattle.codespan.proofs.Counting.{count_by_splits, range_with_len_push}

-- no more line feeds than bytes
pub few_feeds : (text : List ℕ) → length (line_feeds text) ≤ length text
unfolding line_feeds
few_feeds text =
    omega (arith, length-filter (λ at. slice_index text at == 10) (range_with_len 0 (length text)), count_by-le-length (λ at. slice_index text at == 10) (range_with_len 0 (length text)), length-range_with_len 0 (length text))

-- what a search gives are the line feeds
places_are_range : (text : List ℕ) (i n : ℕ) → places_from (is_byte 10) text i n ≡ filter (λ at. slice_index text at == 10) (range_with_len i n)
unfolding places_from
places_are_range text i zero = refl
places_are_range text i (suc n) =
    ap (λ later. cond (slice_index text i == 10) (i ∷ later) later) (places_are_range text (i + 1) n)

pub places_are_feeds : (text : List ℕ) → places (is_byte 10) text ≡ line_feeds text
unfolding line_feeds
places_are_feeds text = places_are_range text 0 (length text - 0) ∙ ap (λ n. filter (λ at. slice_index text at == 10) (range_with_len 0 n)) (omega arith)

-- the line of a place, counted by the starts
count_starts : (feeds : List ℕ) (place : ℕ) → count_by (λ start. leb start place) (map (λ at. at + 1) feeds) ≡ count_by (λ at. ltb at place) feeds
count_starts [] place = refl
count_starts (x ∷ xs) place =
    let same : leb (x + 1) place ≡ ltb x place = grind (arith, nat_tests) in
    sum_by-cons (λ y. cond (leb y place) 1 0) (x + 1) (map (λ at. at + 1) xs) ∙ rw (same, count_starts xs place) (sym (sum_by-cons (λ y. cond (ltb y place) 1 0) x xs))

pub count_starts_of : (text : List ℕ) (place : ℕ) → count_by (λ start. leb start place) (line_starts_lf text) ≡ line_of text place + 1
unfolding line_starts_lf line_of
count_starts_of text place =
    let first : leb 0 place ≡ true = grind (arith, nat_tests) in
    sum_by-cons (λ y. cond (leb y place) 1 0) 0 (map (λ at. at + 1) (line_feeds text)) ∙ rw (first, count_starts (line_feeds text) place) (omega arith)

pub line_at_is : (text : List ℕ) (place : ℕ) → line_at (line_starts_lf text) place ≡ line_of text place
unfolding line_at
line_at_is text place = omega (arith, count_starts_of text place)

-- a line that is not the first starts after a line feed
start_later : (text : List ℕ) (k : ℕ) → k < length (line_feeds text) → start_of_line text (suc k) ≡ get_or (line_feeds text) k 0 + 1
start_later text k h = start_after_feed text k 0 (length text) h

start_first : (text : List ℕ) → start_of_line text 0 ≡ 0
unfolding line_starts_lf
start_first text = refl

start_past : (text : List ℕ) (line : ℕ) → length (line_starts_lf text) ≤ line → start_of_line text line ≡ length text
start_past text line h = get_or_past (line_starts_lf text) line (length text) h

-- no line starts past the end
pub start_within : (text : List ℕ) (line : ℕ) → start_of_line text line ≤ length text
start_within text zero = omega (arith, start_first text)
start_within text (suc k) =
    ⊎_elim (λ lt. omega (arith, start_later text k lt, feeds_within text k 0 lt))
    (λ ge. omega (arith, start_past text (suc k) (omega (arith, starts_length text, ge))))
    (cases_lt k (length (line_feeds text)))

-- no line ends before it starts
pub start_le_next : (text : List ℕ) (line : ℕ) → start_of_line text line ≤ start_of_line text (line + 1)
start_le_next text line =
    ⊎_elim (λ lt.
    let starts = line_starts_lf text in
    let size = length text in
    omega (arith, starts_rise text line lt, get_or_default starts line size 0 (omega (arith, lt)), get_or_default starts (line + 1) size 0 lt))
    (λ ge. omega (arith, start_past text (line + 1) ge, start_within text line))
    (cases_lt (line + 1) (length (line_starts_lf text)))

-- the text may be cut where a line starts or would start
pub start_boundary : (text : List ℕ) (line : ℕ) → IsUtf8 text → IsCharBoundary text (start_of_line text line)
start_boundary text line utf8 =
    ⊎_elim (λ lt. starts_boundaries text utf8 line (length text) lt)
    (λ ge. subst (IsCharBoundary text) (sym (start_past text line ge)) (IsCharBoundary-end text))
    (cases_lt line (length (line_starts_lf text)))

pub line_of_le : (text : List ℕ) (place : ℕ) → line_of text place ≤ length (line_feeds text)
unfolding line_of
line_of_le text place = count_by-le-length (λ at. ltb at place) (line_feeds text)

feeds_do_not_fall : (text : List ℕ) → IsNonDecreasingBy (λ at. at) (line_feeds text)
feeds_do_not_fall text i j d le h =
    ⊎_elim (λ lt. omega (arith, AllPairs-from_increasing (line_feeds text) (feeds_rise text) i j d lt h))
    (λ ge. let same : i ≡ j = omega (arith, le, ge) in omega (arith, ap (λ k. get_or (line_feeds text) k d) same))
    (cases_lt i j)

-- the line feeds of the lines before a place stand before it
feed_before : (text : List ℕ) (place k : ℕ) → k < line_of text place → get_or (line_feeds text) k 0 < place
unfolding line_of
feed_before text place k h =
    let parted = IsPartitionedBy-ltb (λ at. at) (line_feeds text) place (feeds_do_not_fall text) in
    ltb-true _ _ ((count_by_splits (λ at. ltb at place) (line_feeds text) parted).0 k 0 h)

start_le_place_at : (text : List ℕ) (place line : ℕ) → line ≤ line_of text place → start_of_line text line ≤ place
start_le_place_at text place zero h = omega (arith, start_first text)
start_le_place_at text place (suc k) h =
    let inside : k < length (line_feeds text) = omega (arith, h, line_of_le text place) in
    omega (arith, start_later text k inside, feed_before text place k (omega (arith, h)))

-- the line of a place starts no later than the place
pub start_le_place : (text : List ℕ) (place line : ℕ) → line ≡ line_of text place → start_of_line text line ≤ place
start_le_place text place line e = start_le_place_at text place line (omega (arith, e))

-- the first lines one after another are the text up to the next one
lines_join_to : (text : List ℕ) (n : ℕ) → flat_map (λ line. bytes_of text (line_extent text line)) (range_with_len 0 n) ≡ take (start_of_line text n) text
lines_join_to text zero = rw (start_first text) refl
lines_join_to text (suc n) =
    let line : ℕ → List ℕ = λ line. bytes_of text (line_extent text line) in
    let a = start_of_line text n in
    let b = start_of_line text (n + 1) in
    let one : n + 1 ≡ suc n = omega arith in
    let room : a + (b - a) ≡ b = omega (arith, start_le_next text n) in
    ap (flat_map line) (range_with_len_push 0 n n (omega arith))
    ∙ flat_map-append line (range_with_len 0 n) (n ∷ [])
    ∙ ap (λ front. front ++ flat_map line (n ∷ [])) (lines_join_to text n)
    ∙ ap (λ back. take a text ++ back) (append-nil (take (b - a) (drop a text)))
    ∙ sym (take-add a (b - a) text)
    ∙ ap (λ m. take m text) room
    ∙ ap (λ m. take (start_of_line text m) text) one

-- all lines one after another are the text
pub lines_join : (text : List ℕ) → LinesJoin text
lines_join text =
    lines_join_to text (length (line_starts_lf text))
    ∙ ap (λ m. take m text) (start_past text (length (line_starts_lf text)) (omega arith))
    ∙ take_all (length text) text (omega arith)

-- the same of a list that is known to be the starts
pub index_rises : (text starts : List ℕ) → starts ≡ line_starts_lf text → IsStrictlyIncreasing starts
index_rises text starts e = subst IsStrictlyIncreasing (sym e) (starts_rise text)

pub index_line : (text starts : List ℕ) (place : ℕ) → starts ≡ line_starts_lf text → line_at starts place ≡ line_of text place
index_line text starts place e = ap (λ list. line_at list place) e ∙ line_at_is text place

pub index_fits : (text starts : List ℕ) (place : ℕ) → starts ≡ line_starts_lf text → length text < 4294967295 → line_at starts place < 2 ^ 32
index_fits text starts place e fits = omega (arith, index_line text starts place e, line_of_le text place, few_feeds text)

-- the same of a text and of a place that are known by other names
pub start_boundary_at : (text other : List ℕ) (line at : ℕ) → other ≡ text → at ≡ start_of_line text line → IsUtf8 other → IsCharBoundary other at
start_boundary_at text other line at same is utf8 =
    subst (λ (place : ℕ). IsCharBoundary other place) (sym is) (subst (λ (t : List ℕ). IsCharBoundary other (start_of_line t line)) same (start_boundary other line utf8))

-- the places that a search gives are within the text
pub places_within : (text : List ℕ) → All (λ at. at < length text) (places (is_byte 10) text)
places_within text = subst (All (λ at. at < length text)) (sym (places_are_feeds text)) (feeds_within text)

-- what a search gives, moved behind a first start, are the starts
pub starts_from_places : (text : List ℕ) → 0 ∷ map (λ at. at + 1) (places (is_byte 10) text) ≡ line_starts_lf text
unfolding line_starts_lf
starts_from_places text = ap (λ feeds. 0 ∷ map (λ at. at + 1) feeds) (places_are_feeds text)

-- one start more is pushed, and one place fewer is left
pub starts_push : (before now : List ByteIndex) (at : ℕ) (left rest all : List ℕ) → now ≡ before ++ record { 0 = at + 1 } ∷ [] → left ≡ at ∷ rest
    → map (λ start. start.0) before ++ map (λ at. at + 1) left ≡ all → map (λ start. start.0) now ++ map (λ at. at + 1) rest ≡ all
starts_push before now at left rest all pushed taken is =
    ap (λ list. map (λ start. start.0) list ++ map (λ at. at + 1) rest) pushed
    ∙ ap (λ list. list ++ map (λ at. at + 1) rest) (map-append (λ start. start.0) before (record { 0 = at + 1 } ∷ []))
    ∙ append_assoc (map (λ start. start.0) before) ((at + 1) ∷ []) (map (λ at. at + 1) rest)
    ∙ ap (λ list. map (λ start. start.0) before ++ map (λ at. at + 1) list) (sym taken)
    ∙ is

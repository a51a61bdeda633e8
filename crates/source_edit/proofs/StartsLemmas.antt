-- Where rows start, told by two bytes at each place, and so near an edit and far from it.
use Rattle.std.proofs.Common.{◌≡◌, ℕ, ◌+◌, ◌-◌, ◌<◌, ◌≤◌, Bool, true, false, cond, ◌&&◌, nat_le, nat_lt, List, ◌++◌, length, map, take, drop, get_or, slice_range, sym, ap, ◌∙◌, arith, count_by, append_assoc, append-nil, ◌==◌, if◌then◌else◌}
use Rattle.std.specs.List.{filter, range_with_len}
use Rattle.std.proofs.lemmas.Bool.{le-ltb, lt-ltb}
use Rattle.std.proofs.lemmas.Bool.Decides.{nat_tests}
use Rattle.std.proofs.lemmas.List.{get_or_append_left, get_or-append-add, get_or-take, get_or-drop, length-append, length-take, length-drop, take_at, drop_at}
use Rattle.std.proofs.lemmas.List.Elements.{filter-append}
use Rattle.std.proofs.lemmas.List.Sums.{sum_by-append}
use Rattle.oxc_windows.specs.Breaks.{breaks_of}
use Rattle.source_location.specs.Rows.{line_starts}
use Rattle.source_location.proofs.CutLemmas.{range_with_len-append}
use Rattle.source_edit.specs.Edits.{Change, edited}
use Rattle.source_edit.specs.Starts.{starts_between, ends_row}
use Rattle.text_places.proofs.RangesLemmas.{filter-same, filter-moved, filter-all, filter-none, count-all, count-none}
use Rattle.text_places.proofs.EndLemmas.{is_start, starts_are}

-- those before a range, those in it or at one of its ends, and those behind it
abbrev pub front_starts : List ℕ → ℕ → List ℕ
front_starts text from = filter (is_start text) (range_with_len 0 from)

abbrev pub near_starts : List ℕ → ℕ → ℕ → List ℕ
near_starts text from to = filter (is_start text) (range_with_len from (to - from + 1))

abbrev pub back_starts : List ℕ → ℕ → List ℕ
back_starts text to = filter (is_start text) (range_with_len (to + 1) (length text - to))

pub split : (text : List ℕ) (from to : ℕ) → from ≤ to → to ≤ length text
    → line_starts (breaks_of text) ≡ front_starts text from ++ (near_starts text from to ++ back_starts text to)
split text from to le within =
    let whole : length text + 1 ≡ from + (to - from + 1 + (length text - to)) = omega arith in
    let near : 0 + from ≡ from = omega arith in
    let back : 0 + from + (to - from + 1) ≡ to + 1 = omega arith in
    let test = is_start text in
    starts_are text
    ∙ ap (λ n. filter test (range_with_len 0 n)) whole
    ∙ ap (filter test) (range_with_len-append 0 from (to - from + 1 + (length text - to)))
    ∙ filter-append test (range_with_len 0 from) (range_with_len (0 + from) (to - from + 1 + (length text - to)))
    ∙ ap (λ l. front_starts text from ++ l)
    (ap (filter test) (range_with_len-append (0 + from) (to - from + 1) (length text - to))
    ∙ filter-append test (range_with_len (0 + from) (to - from + 1)) (range_with_len (0 + from + (to - from + 1)) (length text - to))
    ∙ ap (λ n. filter test (range_with_len n (to - from + 1)) ++ filter test (range_with_len (0 + from + (to - from + 1)) (length text - to))) near
    ∙ ap (λ n. near_starts text from to ++ filter test (range_with_len n (length text - to))) back)

-- counts of them
abbrev pub starts_before_place : List ℕ → ℕ → ℕ
starts_before_place text place = count_by (λ start. nat_lt start place) (line_starts (breaks_of text))

counted_split : (text : List ℕ) (from to place : ℕ) → from ≤ to → to ≤ length text
    → starts_before_place text place ≡ count_by (λ start. nat_lt start place) (front_starts text from) + (count_by (λ start. nat_lt start place) (near_starts text from to) + count_by (λ start. nat_lt start place) (back_starts text to))
counted_split text from to place le within =
    let q : ℕ → Bool = λ start. nat_lt start place in
    ap (count_by q) (split text from to le within)
    ∙ sum_by-append (λ s. cond (q s) 1 0) (front_starts text from) (near_starts text from to ++ back_starts text to)
    ∙ ap (λ n. count_by q (front_starts text from) + n) (sum_by-append (λ s. cond (q s) 1 0) (near_starts text from to) (back_starts text to))

pub front_count : (text : List ℕ) (from to : ℕ) → from ≤ to → to ≤ length text → starts_before_place text from ≡ length (front_starts text from)
front_count text from to le within =
    let q : ℕ → Bool = λ start. nat_lt start from in
    omega (
      arith,
      counted_split text from to from le within,
      count-all q (is_start text) 0 from (λ i low high. lt-ltb i from (omega arith)),
      count-none q (is_start text) from (to - from + 1) (λ i low high. le-ltb i from low),
      count-none q (is_start text) (to + 1) (length text - to) (λ i low high. le-ltb i from (omega arith)),
    )

pub near_count : (text : List ℕ) (from to : ℕ) → from ≤ to → to ≤ length text → starts_before_place text (to + 1) ≡ length (front_starts text from) + length (near_starts text from to)
near_count text from to le within =
    let q : ℕ → Bool = λ start. nat_lt start (to + 1) in
    omega (
      arith,
      counted_split text from to (to + 1) le within,
      count-all q (is_start text) 0 from (λ i low high. lt-ltb i (to + 1) (omega arith)),
      count-all q (is_start text) from (to - from + 1) (λ i low high. lt-ltb i (to + 1) (omega arith)),
      count-none q (is_start text) (to + 1) (length text - to) (λ i low high. le-ltb i (to + 1) low),
    )

-- what a search for the two counts cuts off
pub front_cut : (text : List ℕ) (from to : ℕ) → from ≤ to → to ≤ length text → take (starts_before_place text from) (line_starts (breaks_of text)) ≡ front_starts text from
front_cut text from to le within =
    ap (take (starts_before_place text from)) (split text from to le within)
    ∙ take_at (front_starts text from) (near_starts text from to ++ back_starts text to) (starts_before_place text from) (sym (front_count text from to le within))

pub back_cut : (text : List ℕ) (from to : ℕ) → from ≤ to → to ≤ length text → drop (starts_before_place text (to + 1)) (line_starts (breaks_of text)) ≡ back_starts text to
back_cut text from to le within =
    let both = front_starts text from ++ near_starts text from to in
    ap (drop (starts_before_place text (to + 1))) (split text from to le within ∙ sym (append_assoc (front_starts text from) (near_starts text from to) (back_starts text to)))
    ∙ drop_at both (back_starts text to) (starts_before_place text (to + 1)) (length-append (front_starts text from) (near_starts text from to) ∙ sym (near_count text from to le within))

pub near_cut : (text : List ℕ) (from to : ℕ) → from ≤ to → to ≤ length text
    → slice_range (line_starts (breaks_of text)) (starts_before_place text from) (starts_before_place text (to + 1)) ≡ near_starts text from to
near_cut text from to le within =
    let size : starts_before_place text (to + 1) - starts_before_place text from ≡ length (near_starts text from to) = omega (arith, front_count text from to le within, near_count text from to le within) in
    ap (λ l. take (starts_before_place text (to + 1) - starts_before_place text from) l)
    (ap (drop (starts_before_place text from)) (split text from to le within) ∙ drop_at (front_starts text from) (near_starts text from to ++ back_starts text to) (starts_before_place text from) (sym (front_count text from to le within)))
    ∙ take_at (near_starts text from to) (back_starts text to) (starts_before_place text (to + 1) - starts_before_place text from) (sym size)

-- those between two places
between_not_yet : (i from to : ℕ) → i < from → (nat_le from i && nat_le i to) ≡ false
between_not_yet i from to h = grind (arith, nat_tests)

between_yes : (i from to : ℕ) → from ≤ i → i ≤ to → (nat_le from i && nat_le i to) ≡ true
between_yes i from to h g = grind (arith, nat_tests)

between_past : (i from to : ℕ) → to < i → (nat_le from i && nat_le i to) ≡ false
between_past i from to h = grind (arith, nat_tests)

pub between_are : (text : List ℕ) (from to : ℕ) → from ≤ to → to ≤ length text → starts_between text from to ≡ near_starts text from to
between_are text from to le within =
    let q : ℕ → Bool = λ start. nat_le from start && nat_le start to in
    ap (filter q) (split text from to le within)
    ∙ filter-append q (front_starts text from) (near_starts text from to ++ back_starts text to)
    ∙ ap (λ l. l ++ filter q (near_starts text from to ++ back_starts text to)) (filter-none q (is_start text) 0 from (λ i low high. between_not_yet i from to (omega arith)))
    ∙ filter-append q (near_starts text from to) (back_starts text to)
    ∙ ap (λ l. l ++ filter q (back_starts text to)) (filter-all q (is_start text) from (to - from + 1) (λ i low high. between_yes i from to low (omega arith)))
    ∙ ap (λ l. near_starts text from to ++ l) (filter-none q (is_start text) (to + 1) (length text - to) (λ i low high. between_past i from to (omega arith)))
    ∙ append-nil (near_starts text from to)

-- the bytes of an edited text
front_length : (text insert : List ℕ) (from : ℕ) → from ≤ length text → length (take from text ++ insert) ≡ from + length insert
front_length text insert from le = omega (arith, length-append (take from text) insert, length-take from text)

pub edited_length : (text : List ℕ) (change : Change) → change.start ≤ change.end → change.end ≤ length text → length (edited text change) ≡ change.start + length change.insert + (length text - change.end)
edited_length text change le within =
    omega (arith, length-append (take change.start text ++ change.insert) (drop change.end text), front_length text change.insert change.start (omega arith), length-drop change.end text)

pub front_byte : (text : List ℕ) (change : Change) (i : ℕ) → change.start ≤ length text → i < change.start → get_or (edited text change) i 0 ≡ get_or text i 0
front_byte text change i le h =
    get_or_append_left (take change.start text ++ change.insert) (drop change.end text) 0 i (omega (arith, front_length text change.insert change.start le))
    ∙ get_or_append_left (take change.start text) change.insert 0 i (omega (arith, length-take change.start text))
    ∙ get_or-take change.start text i 0 h

pub back_byte : (text : List ℕ) (change : Change) (i : ℕ) → change.start ≤ length text → get_or (edited text change) (change.start + length change.insert + i) 0 ≡ get_or text (change.end + i) 0
back_byte text change i le =
    ap (λ n. get_or (edited text change) (n + i) 0) (sym (front_length text change.insert change.start le))
    ∙ get_or-append-add (take change.start text ++ change.insert) (drop change.end text) i 0
    ∙ get_or-drop change.end text i 0

-- before the range rows start as they did, and behind it so much further on
front_same : (text : List ℕ) (change : Change) (i : ℕ) → change.start ≤ length text → i < change.start → is_start (edited text change) i ≡ is_start text i
front_same text change i le h =
    ap (λ byte. if i == 0 then true else ends_row byte (get_or (edited text change) i 0)) (front_byte text change (i - 1) le (omega arith))
    ∙ ap (λ after. if i == 0 then true else ends_row (get_or text (i - 1) 0) after) (front_byte text change i le h)

not_zero : (i j : ℕ) → (i + 1 + j == 0) ≡ false
not_zero i j = grind (arith, nat_tests)

back_same : (text : List ℕ) (change : Change) (i : ℕ) → change.start ≤ length text → is_start (edited text change) (change.start + length change.insert + 1 + i) ≡ is_start text (change.end + 1 + i)
back_same text change i le =
    let new = edited text change in
    let at = change.start + length change.insert in
    let here : at + 1 + i - 1 ≡ at + i = omega arith in
    let old : change.end + 1 + i - 1 ≡ change.end + i = omega arith in
    let next : at + 1 + i ≡ at + (1 + i) = omega arith in
    let after : change.end + (1 + i) ≡ change.end + 1 + i = omega arith in
    ap (λ b. if b then true else ends_row (get_or new (at + 1 + i - 1) 0) (get_or new (at + 1 + i) 0)) (not_zero at i)
    ∙ ap (λ byte. ends_row byte (get_or new (at + 1 + i) 0)) (ap (λ k. get_or new k 0) here ∙ back_byte text change i le ∙ ap (λ k. get_or text k 0) (sym old))
    ∙ ap (λ byte. ends_row (get_or text (change.end + 1 + i - 1) 0) byte) (ap (λ k. get_or new k 0) next ∙ back_byte text change (1 + i) le ∙ ap (λ k. get_or text k 0) after)
    ∙ ap (λ b. if b then true else ends_row (get_or text (change.end + 1 + i - 1) 0) (get_or text (change.end + 1 + i) 0)) (sym (not_zero change.end i))

-- the row starts of an edited text: those before the range, those near what is inserted, and those behind, moved
pub mended : (text : List ℕ) (change : Change) → change.start ≤ change.end → change.end ≤ length text
    → line_starts (breaks_of (edited text change))
    ≡ take (starts_before_place text change.start) (line_starts (breaks_of text))
    ++ (starts_between (edited text change) change.start (change.start + length change.insert)
    ++ map (λ start. start - (change.end - change.start) + length change.insert) (drop (starts_before_place text (change.end + 1)) (line_starts (breaks_of text))))
mended text change le within =
    let new = edited text change in
    let at = change.start + length change.insert in
    let size = edited_length text change le within in
    let rest : length new - at ≡ length text - change.end = omega (arith, size) in
    let up : change.start ≤ at = omega arith in
    let inside : at ≤ length new = omega (arith, size) in
    split new change.start at up inside
    ∙ ap (λ l. l ++ (near_starts new change.start at ++ back_starts new at)) (filter-same (is_start new) (is_start text) 0 change.start (λ i low high. front_same text change i (omega arith) (omega arith)) ∙ sym (front_cut text change.start change.end le within))
    ∙ ap (λ l. take (starts_before_place text change.start) (line_starts (breaks_of text)) ++ (l ++ back_starts new at)) (sym (between_are new change.start at up inside))
    ∙ ap (λ l. take (starts_before_place text change.start) (line_starts (breaks_of text)) ++ (starts_between new change.start at ++ l))
    (ap (λ n. filter (is_start new) (range_with_len (at + 1) n)) rest
    ∙ filter-moved (is_start new) (is_start text) (λ start. start - (change.end - change.start) + length change.insert) (change.end + 1) (at + 1) (length text - change.end)
    (λ i lt. back_same text change i (omega arith)) (λ i lt. omega arith)
    ∙ ap (map (λ start. start - (change.end - change.start) + length change.insert)) (sym (back_cut text change.start change.end le within)))

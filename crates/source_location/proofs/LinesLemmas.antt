-- The lines of a text, from its front and from its back.
use Rattle.std.proofs.Common.{◌≡◌, ℕ, ◌+◌, ◌-◌, ◌<◌, ◌≤◌, Bool, true, false, cond, List, [], ◌∷◌, ◌++◌, length, take, drop, map, filter, slice_range, get_or, refl, sym, ap, subst, ◌∙◌, arith, add-one, add-zero, append-nil, ltb, suc, zero, ⊎_elim, ◌⊎◌, inl, inr}
use Rattle.std.specs.List.{range_with_len, concat}
use Rattle.std.specs.Str.{IsUtf8}
use Rattle.std.proofs.lemmas.Str.{IsCharBoundary-end}
use Rattle.std.proofs.lemmas.Bool.{cases_lt, ltb-true, ltb-false}
use Rattle.std.proofs.lemmas.Bool.Decides.{nat_tests}
use Rattle.std.proofs.lemmas.List.{length-map, length-append, length-drop, map-append, take_all, take-append-le, drop-append-le, drop-drop}
use Rattle.std.proofs.lemmas.List.Elements.{filter-append}
use Rattle.std.proofs.lemmas.List.Folds.{concat-append}
use Rattle.std.proofs.Math.Seq.{take-add, drop-append_seam}
use Rattle.source_location.specs.declared.newlines.LineEnding.{LineEnding}
use Rattle.source_location.specs.Breaks.{LineBreak, moved}
use Rattle.source_location.specs.Rows.{row_count, line_starts}
use Rattle.source_location.specs.Newlines.{ending_bytes, IsFirstBreak}
use Rattle.source_location.specs.Lines.{LineView, line_of, lines_of, texts_of, IsFirstLine}
use Rattle.source_location.proofs.Counting.{range_with_len_push}
use Rattle.source_location.proofs.CutLemmas.{PartsNone, breaks_of-append, length-ending}
use Rattle.source_location.proofs.BreaksLemmas.{breaks_valid}
use Rattle.source_location.proofs.RowsLemmas.{row_start_first, row_start_past, row_start-le, row_start-le-next, row_start-lt-next}
use Rattle.source_location.proofs.NewlinesLemmas.{ending_ends, first_break_boundary}
use Rattle.oxc_windows.specs.Breaks.{breaks_before, breaks_of}
use Rattle.std.proofs.lemmas.Bool.{lt-ltb as ltb_yes, le-ltb as ltb_no}
use Rattle.oxc_windows.specs.Rows.{row_start}

-- where a row of a text starts, and whether that is before the text's end
abbrev pub starts_at : List ℕ → ℕ → ℕ
starts_at text row = row_start (length text) (breaks_of text) row

abbrev pub is_line : List ℕ → ℕ → Bool
is_line text row = ltb (starts_at text row) (length text)

-- the rows of a range that are lines
abbrev pub lines_between : ℕ → List ℕ → ℕ → ℕ → List LineView
lines_between offset text from n = map (line_of offset text) (filter (is_line text) (range_with_len from n))

cons_if : {X Y : Type 0} (f : X → Y) (b : Bool) (x : X) (xs : List X) → map f (cond b (x ∷ xs) xs) ≡ cond b (f x ∷ map f xs) (map f xs)
cons_if f true x xs = refl
cons_if f false x xs = refl

-- two ranges whose numbers pass alike and give the same
map_filter-moved : {X : Type 0} (f g : ℕ → X) (p q : ℕ → Bool) (k a b n : ℕ) → b ≡ a + k → ((i : ℕ) → a ≤ i → i < a + n → p (i + k) ≡ q i) → ((i : ℕ) → a ≤ i → i < a + n → f (i + k) ≡ g i)
    → map f (filter p (range_with_len b n)) ≡ map g (filter q (range_with_len a n))
map_filter-moved f g p q k a b zero at same_test same = refl
map_filter-moved f g p q k a b (suc n) at same_test same =
    let rest = map_filter-moved f g p q k (a + 1) (b + 1) n (omega arith) (λ i low high. same_test i (omega arith) (omega arith)) (λ i low high. same i (omega arith) (omega arith)) in
    let test : p b ≡ q a = ap p at ∙ same_test a (omega arith) (omega arith) in
    let value : f b ≡ g a = ap f at ∙ same a (omega arith) (omega arith) in
    cons_if f (p b) b (filter p (range_with_len (b + 1) n))
    ∙ ap (λ said. cond said (f b ∷ map f (filter p (range_with_len (b + 1) n))) (map f (filter p (range_with_len (b + 1) n)))) test
    ∙ ap (λ l. cond (q a) (f b ∷ l) l) rest
    ∙ ap (λ x. cond (q a) (x ∷ map g (filter q (range_with_len (a + 1) n))) (map g (filter q (range_with_len (a + 1) n)))) value
    ∙ sym (cons_if g (q a) a (filter q (range_with_len (a + 1) n)))

ltb_moved : (n a b c : ℕ) → c ≡ n + b → ltb (n + a) c ≡ ltb a b
ltb_moved n a b c e = grind (arith, nat_tests)

-- one row more of a range
lines_push : (offset : ℕ) (text : List ℕ) (k : ℕ) → lines_between offset text 0 (k + 1) ≡ lines_between offset text 0 k ++ cond (is_line text k) (line_of offset text k ∷ []) []
lines_push offset text k =
    let one_more : k + 1 ≡ suc k = omega arith in
    ap (λ n. lines_between offset text 0 n) one_more
    ∙ ap (λ l. map (line_of offset text) (filter (is_line text) l)) (range_with_len_push 0 k k (omega arith))
    ∙ ap (map (line_of offset text)) (filter-append (is_line text) (range_with_len 0 k) (k ∷ []))
    ∙ map-append (line_of offset text) (filter (is_line text) (range_with_len 0 k)) (filter (is_line text) (k ∷ []))
    ∙ ap (λ l. lines_between offset text 0 k ++ l) (cons_if (line_of offset text) (is_line text k) k [])

-- an empty text has no line
pub lines_of-nil : (offset : ℕ) (text : List ℕ) → length text ≡ 0 → lines_of offset text ≡ []
unfolding lines_of breaks_of row_start breaks_before
lines_of-nil offset [] e = refl
lines_of-nil offset (x ∷ text) e = absurd (omega (arith, e))

-- the end of a row start list, for a text that goes on
get_moved : (n d d' : ℕ) (list : List LineBreak) (j : ℕ) → d ≡ n + d' → get_or (map (λ (b : LineBreak). b.end + 1) (map (moved n) list)) j d ≡ n + get_or (map (λ (b : LineBreak). b.end + 1) list) j d'
get_moved n d d' [] j e = e
get_moved n d d' (b ∷ list) zero e = omega arith
get_moved n d d' (b ∷ list) (suc j) e = get_moved n d d' list j e

row_start_next : (n len len' : ℕ) (b : LineBreak) (list : List LineBreak) (i : ℕ) → b.end + 1 ≡ n → len ≡ n + len'
    → row_start len (b ∷ map (moved n) list) (suc i) ≡ n + row_start len' list i
unfolding row_start
row_start_next n len len' b list zero first e = omega (arith, first)
row_start_next n len len' b list (suc j) first e = get_moved n len len' list j e

slice_moved : (text : List ℕ) (n s t : ℕ) → slice_range text (n + s) (n + t) ≡ slice_range (drop n text) s t
slice_moved text n s t =
    let gap : n + t - (n + s) ≡ t - s = omega arith in
    ap (λ k. take k (drop (n + s) text)) gap ∙ ap (take (t - s)) (sym (drop-drop s n text))

slice_front : (text : List ℕ) (s t n : ℕ) → s ≡ 0 → t ≡ n → slice_range text s t ≡ take n text
slice_front text s t n a b = ap (λ k. take (t - k) (drop k text)) a ∙ ap (λ k. take k text) (omega (arith, b))

view_same : (a b : LineView) → a.text ≡ b.text → a.start ≡ b.start → a ≡ b
view_same a b p q = λ i. record { text = p i; start = q i }

-- the first row of a range apart
lines_cons : (offset : ℕ) (text : List ℕ) (n : ℕ) → 0 < length text → lines_between offset text 0 (suc n) ≡ line_of offset text 0 ∷ lines_between offset text 1 n
lines_cons offset text n some =
    let rest = filter (is_line text) (range_with_len 1 n) in
    cons_if (line_of offset text) (is_line text 0) 0 rest
    ∙ ap (λ said. cond said (line_of offset text 0 ∷ map (line_of offset text) rest) (map (line_of offset text) rest))
    (ltb_yes (starts_at text 0) (length text) (omega (arith, row_start_first (length text) (breaks_of text), some)))

-- a text with a break: its first line, and the lines of what follows
module _ (offset : ℕ) (text : List ℕ) (at : ℕ) (ending : LineEnding) (n : ℕ) (found : IsFirstBreak text at ending) (is_n : at + length (ending_bytes ending) ≡ n) where
  first_break : LineBreak
  first_break = record { start = at; end = at + length (ending_bytes ending) - 1 }

  all_breaks : breaks_of text ≡ first_break ∷ map (moved n) (breaks_of (drop n text))
  unfolding first_break
  all_breaks = subst (λ k. breaks_of text ≡ record { start = at; end = at + length (ending_bytes ending) - 1 } ∷ map (moved k) (breaks_of (drop k text))) is_n found.breaks

  whole_length : length text ≡ n + length (drop n text)
  whole_length = omega (arith, length-drop n text, (ending_ends text at ending found).0, is_n)

  starts_next : (i : ℕ) → starts_at text (i + 1) ≡ n + starts_at (drop n text) i
  unfolding first_break
  starts_next i =
      ap (λ l. row_start (length text) l (i + 1)) all_breaks
      ∙ ap (row_start (length text) (first_break ∷ map (moved n) (breaks_of (drop n text)))) (add-one i)
      ∙ row_start_next n (length text) (length (drop n text)) first_break (breaks_of (drop n text)) i (omega (arith, length-ending ending, is_n)) whole_length

  next_line : (i : ℕ) → line_of offset text (i + 1) ≡ line_of (offset + n) (drop n text) i
  next_line i =
      view_same (line_of offset text (i + 1)) (line_of (offset + n) (drop n text) i)
      (ap (λ s. slice_range text s (starts_at text (i + 1 + 1))) (starts_next i)
      ∙ ap (slice_range text (n + starts_at (drop n text) i)) (starts_next (i + 1))
      ∙ slice_moved text n (starts_at (drop n text) i) (starts_at (drop n text) (i + 1)))
      (omega (arith, starts_next i))

  first_line : line_of offset text 0 ≡ record { text = take n text; start = offset }
  first_line =
      let zero_start = row_start_first (length text) (breaks_of text) in
      let one_start : starts_at text (0 + 1) ≡ n = omega (arith, starts_next 0, row_start_first (length (drop n text)) (breaks_of (drop n text))) in
      view_same (line_of offset text 0) (record { text = take n text; start = offset })
      (slice_front text (starts_at text 0) (starts_at text (0 + 1)) n zero_start one_start) (omega (arith, zero_start))

  rows_next : row_count text ≡ suc (row_count (drop n text))
  rows_next = ap (λ l. length l + 1) all_breaks ∙ omega (arith, length-map (breaks_of (drop n text)) (moved n))

  pub lines_of-first : lines_of offset text ≡ record { text = take n text; start = offset } ∷ lines_of (offset + n) (drop n text)
  unfolding lines_of
  lines_of-first =
      let some : 0 < length text = omega (arith, whole_length, length-ending ending, is_n) in
      ap (lines_between offset text 0) rows_next
      ∙ lines_cons offset text (row_count (drop n text)) some
      ∙ ap (λ l. l ∷ lines_between offset text 1 (row_count (drop n text))) first_line
      ∙ ap (λ l. record { text = take n text; start = offset } ∷ l)
      (map_filter-moved (line_of offset text) (line_of (offset + n) (drop n text)) (is_line text) (is_line (drop n text)) 1 0 1 (row_count (drop n text)) (omega arith)
      (λ i low high. ap (λ s. ltb s (length text)) (starts_next i) ∙ ltb_moved n (starts_at (drop n text) i) (length (drop n text)) (length text) whole_length)
      (λ i low high. next_line i))

-- a text without a break is one line
pub lines_of-one : (offset : ℕ) (text : List ℕ) → breaks_of text ≡ [] → 0 < length text → lines_of offset text ≡ record { text = text; start = offset } ∷ []
unfolding lines_of
lines_of-one offset text none some =
    let rows : row_count text ≡ suc 0 = ap (λ l. length l + 1) none in
    let zero_start = row_start_first (length text) (breaks_of text) in
    let one_start : starts_at text (0 + 1) ≡ length text = row_start_past (length text) (breaks_of text) 1 (omega (arith, ap length none)) in
    ap (lines_between offset text 0) rows
    ∙ lines_cons offset text 0 some
    ∙ ap (λ l. l ∷ []) (view_same (line_of offset text 0) (record { text = text; start = offset })
    (slice_front text (starts_at text 0) (starts_at text (0 + 1)) (length text) zero_start one_start ∙ take_all (length text) text (omega arith)) (omega (arith, zero_start)))

-- where the first line ends
pub first_line_found : (text : List ℕ) (at : ℕ) (ending : LineEnding) → IsUtf8 text → IsFirstBreak text at ending → IsFirstLine text (at + length (ending_bytes ending))
first_line_found text at ending utf8 found =
    record {
      some = omega (arith, length-ending ending);
      boundary = first_break_boundary text at ending utf8 found;
      lines = λ offset. lines_of-first offset text at ending (at + length (ending_bytes ending)) found refl;
    }

pub first_line_whole : (text : List ℕ) → 0 < length text → breaks_of text ≡ [] → IsFirstLine text (length text)
first_line_whole text some none =
    record {
      some = some;
      boundary = IsCharBoundary-end text;
      lines = λ offset.
          lines_of-one offset text none some
          ∙ ap (λ l. record { text = l; start = offset } ∷ []) (sym (take_all (length text) text (omega arith)))
          ∙ ap (λ l. record { text = take (length text) text; start = offset } ∷ l) (sym (lines_of-nil (offset + length text) (drop (length text) text) (omega (arith, length-drop (length text) text))));
    }

-- a text that is empty or ends in a break: its last row has no byte
abbrev pub EndsWhole : List ℕ → Type 0
EndsWhole xs = starts_at xs (length (breaks_of xs)) ≡ length xs

-- a text that is one line: it has a byte, and no break but at its end
pub record IsOneLine (ys : List ℕ) : Type 0 where
  pub some : 0 < length ys
  pub breaks : (breaks_of ys ≡ []) ⊎ ((b : LineBreak) × (breaks_of ys ≡ b ∷ []) × (b.end + 1 ≡ length ys))

get_front : (d e : ℕ) (xs ys : List LineBreak) (j : ℕ) → j < length xs → get_or (map (λ (b : LineBreak). b.end + 1) (xs ++ ys)) j d ≡ get_or (map (λ (b : LineBreak). b.end + 1) xs) j e
get_front d e [] ys j h = absurd (omega (arith, h))
get_front d e (x ∷ xs) ys zero h = refl
get_front d e (x ∷ xs) ys (suc j) h = get_front d e xs ys j (omega (arith, h))

-- the rows of a front start where they do in the whole
row_start_front : (len len' : ℕ) (xs ys : List LineBreak) (i : ℕ) → i ≤ length xs → row_start len (xs ++ ys) i ≡ row_start len' xs i
unfolding row_start
row_start_front len len' xs ys zero h = refl
row_start_front len len' xs ys (suc j) h = get_front len len' xs ys j (omega (arith, h))

-- the row behind them
pub row_start_seam : (len : ℕ) (xs : List LineBreak) (b : LineBreak) → row_start len (xs ++ b ∷ []) (length xs + 1) ≡ b.end + 1
unfolding row_start
row_start_seam len xs b =
    ap (λ k. get_or (line_starts (xs ++ b ∷ [])) k len) (add-one (length xs)) ∙ seam xs
  where
    seam : (list : List LineBreak) → get_or (map (λ (c : LineBreak). c.end + 1) (list ++ b ∷ [])) (length list) len ≡ b.end + 1
    seam [] = refl
    seam (x ∷ list) = seam list

slice_of_front : (xs ys : List ℕ) (s t : ℕ) → s ≤ length xs → t ≤ length xs → slice_range (xs ++ ys) s t ≡ slice_range xs s t
slice_of_front xs ys s t low high =
    ap (take (t - s)) (drop-append-le s xs ys low) ∙ take-append-le (t - s) (drop s xs) ys (omega (arith, length-drop s xs))

-- the lines of a text that is cut before its last line
module _ (offset : ℕ) (xs ys : List ℕ) (whole : PartsNone xs ys) (ends : EndsWhole xs) (one : IsOneLine ys) where
  both : breaks_of (xs ++ ys) ≡ breaks_of xs ++ map (moved (length xs)) (breaks_of ys)
  both = breaks_of-append xs ys whole

  long : length (xs ++ ys) ≡ length xs + length ys
  long = length-append xs ys

  front_start : (i : ℕ) → i ≤ length (breaks_of xs) → starts_at (xs ++ ys) i ≡ starts_at xs i
  front_start i h =
      ap (λ l. row_start (length (xs ++ ys)) l i) both
      ∙ row_start_front (length (xs ++ ys)) (length xs) (breaks_of xs) (map (moved (length xs)) (breaks_of ys)) i h

  front_lines : lines_between offset (xs ++ ys) 0 (length (breaks_of xs)) ≡ lines_between offset xs 0 (length (breaks_of xs))
  front_lines =
      map_filter-moved (line_of offset (xs ++ ys)) (line_of offset xs) (is_line (xs ++ ys)) (is_line xs) 0 0 0 (length (breaks_of xs)) (omega arith)
      (λ i low high. ap (is_line (xs ++ ys)) (add-zero i) ∙ early i (omega (arith, high)))
      (λ i low high. ap (line_of offset (xs ++ ys)) (add-zero i) ∙ same i (omega (arith, high)))
    where
      start-lt : (i : ℕ) → i < length (breaks_of xs) → starts_at xs i < length xs
      start-lt i h = omega (arith, row_start-lt-next (length xs) (breaks_of xs) i (breaks_valid xs).ordered h, row_start-le (length xs) (breaks_of xs) (i + 1) (breaks_valid xs))

      early : (i : ℕ) → i < length (breaks_of xs) → is_line (xs ++ ys) i ≡ is_line xs i
      early i h =
          ltb_yes (starts_at (xs ++ ys) i) (length (xs ++ ys)) (omega (arith, front_start i (omega (arith, h)), start-lt i h, long))
          ∙ sym (ltb_yes (starts_at xs i) (length xs) (start-lt i h))

      same : (i : ℕ) → i < length (breaks_of xs) → line_of offset (xs ++ ys) i ≡ line_of offset xs i
      same i h =
          let here = front_start i (omega (arith, h)) in
          let next = front_start (i + 1) (omega (arith, h)) in
          view_same (line_of offset (xs ++ ys) i) (line_of offset xs i)
          (ap (λ s. slice_range (xs ++ ys) s (starts_at (xs ++ ys) (i + 1))) here ∙ ap (slice_range (xs ++ ys) (starts_at xs i)) next
          ∙ slice_of_front xs ys (starts_at xs i) (starts_at xs (i + 1)) (row_start-le (length xs) (breaks_of xs) i (breaks_valid xs)) (row_start-le (length xs) (breaks_of xs) (i + 1) (breaks_valid xs)))
          (omega (arith, here))

  -- the empty last row of the front is none of its lines
  front_whole : lines_of offset xs ≡ lines_between offset xs 0 (length (breaks_of xs))
  unfolding lines_of
  front_whole =
      lines_push offset xs (length (breaks_of xs))
      ∙ ap (λ said. lines_between offset xs 0 (length (breaks_of xs)) ++ cond said (line_of offset xs (length (breaks_of xs)) ∷ []) [])
      (ltb_no (starts_at xs (length (breaks_of xs))) (length xs) (omega (arith, ends)))
      ∙ append-nil (lines_between offset xs 0 (length (breaks_of xs)))

  last_start : starts_at (xs ++ ys) (length (breaks_of xs)) ≡ length xs
  last_start = front_start (length (breaks_of xs)) (omega arith) ∙ ends

  -- the row behind the last line, if there is one, starts at the end
  last_end : starts_at (xs ++ ys) (length (breaks_of xs) + 1) ≡ length (xs ++ ys)
  last_end = at one.breaks
    where
      at : (breaks_of ys ≡ []) ⊎ ((b : LineBreak) × (breaks_of ys ≡ b ∷ []) × (b.end + 1 ≡ length ys)) → starts_at (xs ++ ys) (length (breaks_of xs) + 1) ≡ length (xs ++ ys)
      at (inl none) =
          let same : breaks_of (xs ++ ys) ≡ breaks_of xs = both ∙ ap (λ l. breaks_of xs ++ map (moved (length xs)) l) none ∙ append-nil (breaks_of xs) in
          ap (λ l. row_start (length (xs ++ ys)) l (length (breaks_of xs) + 1)) same ∙ row_start_past (length (xs ++ ys)) (breaks_of xs) (length (breaks_of xs) + 1) (omega arith)
      at (inr (b, is, end)) =
          let same : breaks_of (xs ++ ys) ≡ breaks_of xs ++ moved (length xs) b ∷ [] = both ∙ ap (λ l. breaks_of xs ++ map (moved (length xs)) l) is in
          ap (λ l. row_start (length (xs ++ ys)) l (length (breaks_of xs) + 1)) same ∙ row_start_seam (length (xs ++ ys)) (breaks_of xs) (moved (length xs) b) ∙ omega (arith, end, long)

  last_line : line_of offset (xs ++ ys) (length (breaks_of xs)) ≡ record { text = ys; start = offset + length xs }
  last_line =
      let gap : length (xs ++ ys) - length xs ≡ length ys = omega (arith, long) in
      view_same (line_of offset (xs ++ ys) (length (breaks_of xs))) (record { text = ys; start = offset + length xs })
      (ap (λ s. slice_range (xs ++ ys) s (starts_at (xs ++ ys) (length (breaks_of xs) + 1))) last_start ∙ ap (slice_range (xs ++ ys) (length xs)) last_end
      ∙ ap (λ k. take k (drop (length xs) (xs ++ ys))) gap ∙ ap (take (length ys)) (drop-append_seam xs ys) ∙ take_all (length ys) ys (omega arith))
      (omega (arith, last_start))

  -- the lines up to and with the last
  up_to_last : lines_between offset (xs ++ ys) 0 (length (breaks_of xs) + 1) ≡ lines_of offset xs ++ record { text = ys; start = offset + length xs } ∷ []
  up_to_last =
      lines_push offset (xs ++ ys) (length (breaks_of xs))
      ∙ ap (λ said. lines_between offset (xs ++ ys) 0 (length (breaks_of xs)) ++ cond said (line_of offset (xs ++ ys) (length (breaks_of xs)) ∷ []) [])
      (ltb_yes (starts_at (xs ++ ys) (length (breaks_of xs))) (length (xs ++ ys)) (omega (arith, last_start, long, one.some)))
      ∙ ap (λ l. l ++ line_of offset (xs ++ ys) (length (breaks_of xs)) ∷ []) (front_lines ∙ sym front_whole)
      ∙ ap (λ line. lines_of offset xs ++ line ∷ []) last_line

  pub lines_of-last : lines_of offset (xs ++ ys) ≡ lines_of offset xs ++ record { text = ys; start = offset + length xs } ∷ []
  unfolding lines_of
  lines_of-last = at one.breaks
    where
      at : (breaks_of ys ≡ []) ⊎ ((b : LineBreak) × (breaks_of ys ≡ b ∷ []) × (b.end + 1 ≡ length ys)) → lines_of offset (xs ++ ys) ≡ lines_of offset xs ++ record { text = ys; start = offset + length xs } ∷ []
      at (inl none) =
          let rows : row_count (xs ++ ys) ≡ length (breaks_of xs) + 1 = ap (λ l. length l + 1) (both ∙ ap (λ l. breaks_of xs ++ map (moved (length xs)) l) none ∙ append-nil (breaks_of xs)) in
          ap (lines_between offset (xs ++ ys) 0) rows ∙ up_to_last
      at (inr (b, is, end)) =
          let rows : row_count (xs ++ ys) ≡ length (breaks_of xs) + 1 + 1 =
          ap (λ l. length l + 1) (both ∙ ap (λ l. breaks_of xs ++ map (moved (length xs)) l) is) ∙ ap (λ n. n + 1) (length-append (breaks_of xs) (moved (length xs) b ∷ [])) in
          ap (lines_between offset (xs ++ ys) 0) rows
          ∙ lines_push offset (xs ++ ys) (length (breaks_of xs) + 1)
          ∙ ap (λ said. lines_between offset (xs ++ ys) 0 (length (breaks_of xs) + 1) ++ cond said (line_of offset (xs ++ ys) (length (breaks_of xs) + 1) ∷ []) [])
          (ltb_no (starts_at (xs ++ ys) (length (breaks_of xs) + 1)) (length (xs ++ ys)) (omega (arith, last_end)))
          ∙ append-nil (lines_between offset (xs ++ ys) 0 (length (breaks_of xs) + 1))
          ∙ up_to_last

texts_of-append : (xs ys : List LineView) → texts_of (xs ++ ys) ≡ texts_of xs ++ texts_of ys
texts_of-append xs ys = ap concat (map-append (λ (l : LineView). l.text) xs ys) ∙ concat-append (map (λ (l : LineView). l.text) xs) (map (λ (l : LineView). l.text) ys)

-- up to a row the lines are the text before it, and no more than its bytes
record IsUpTo (offset : ℕ) (text : List ℕ) (k : ℕ) : Type 0 where
  joined : texts_of (lines_between offset text 0 k) ≡ take (starts_at text k) text
  few : length (lines_between offset text 0 k) ≤ starts_at text k

row_shut : (text : List ℕ) (k : ℕ) → is_line text k ≡ false → starts_at text (k + 1) ≡ starts_at text k
row_shut text k e =
    let valid = breaks_valid text in
    omega (arith, row_start-le-next (length text) (breaks_of text) k valid, row_start-le (length text) (breaks_of text) (k + 1) valid, ltb-false (starts_at text k) (length text) e)

row_open : (text : List ℕ) (k : ℕ) → is_line text k ≡ true → starts_at text k < starts_at text (k + 1)
row_open text k e =
    let before = ltb-true (starts_at text k) (length text) e in
    ⊎_elim (λ lt. row_start-lt-next (length text) (breaks_of text) k (breaks_valid text).ordered lt)
    (λ ge. omega (arith, before, row_start_past (length text) (breaks_of text) (k + 1) (omega (arith, ge))))
    (cases_lt k (length (breaks_of text)))

up_to_more : (offset : ℕ) (text : List ℕ) (k : ℕ) (said : Bool) → is_line text k ≡ said → IsUpTo offset text k → IsUpTo offset text (k + 1)
up_to_more offset text k true e before =
    let start = starts_at text k in
    let next = starts_at text (k + 1) in
    let grows = row_open text k e in
    let push : lines_between offset text 0 (k + 1) ≡ lines_between offset text 0 k ++ line_of offset text k ∷ [] =
    lines_push offset text k ∙ ap (λ b. lines_between offset text 0 k ++ cond b (line_of offset text k ∷ []) []) e in
    let gap : start + (next - start) ≡ next = omega (arith, grows) in
    record {
      joined = ap texts_of push ∙ texts_of-append (lines_between offset text 0 k) (line_of offset text k ∷ [])
          ∙ ap (λ l. l ++ (slice_range text start next ++ [])) before.joined ∙ ap (λ l. take start text ++ l) (append-nil (slice_range text start next))
          ∙ sym (take-add start (next - start) text) ∙ ap (λ n. take n text) gap;
      few = omega (arith, ap length push, length-append (lines_between offset text 0 k) (line_of offset text k ∷ []), before.few, grows);
    }
up_to_more offset text k false e before =
    let push : lines_between offset text 0 (k + 1) ≡ lines_between offset text 0 k =
    lines_push offset text k ∙ ap (λ b. lines_between offset text 0 k ++ cond b (line_of offset text k ∷ []) []) e ∙ append-nil (lines_between offset text 0 k) in
    let shut = row_shut text k e in
    record {
      joined = ap texts_of push ∙ before.joined ∙ ap (λ n. take n text) (sym shut);
      few = omega (arith, ap length push, before.few, shut);
    }

up_to : (offset : ℕ) (text : List ℕ) (k : ℕ) → IsUpTo offset text k
up_to offset text zero = record { joined = ap (λ n. take n text) (sym (row_start_first (length text) (breaks_of text))); few = omega (arith, row_start_first (length text) (breaks_of text)) }
up_to offset text (suc k) = subst (λ n. IsUpTo offset text n) (omega arith) (up_to_more offset text k (is_line text k) refl (up_to offset text k))

-- the lines joined are the text
pub texts_of-lines_of : (offset : ℕ) (text : List ℕ) → texts_of (lines_of offset text) ≡ text
unfolding lines_of
texts_of-lines_of offset text =
    (up_to offset text (row_count text)).joined
    ∙ ap (λ n. take n text) (row_start_past (length text) (breaks_of text) (row_count text) (omega arith)) ∙ take_all (length text) text (omega arith)

-- and no more than its bytes
pub length-lines_of : (offset : ℕ) (text : List ℕ) → length (lines_of offset text) ≤ length text
unfolding lines_of
length-lines_of offset text =
    omega (arith, (up_to offset text (row_count text)).few, row_start_past (length text) (breaks_of text) (row_count text) (omega arith))

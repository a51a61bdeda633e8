-- One step of a walk over pieces.
use Rattle.std.proofs.Common.{◌≡◌, ℕ, zero, suc, ◌+◌, ◌-◌, ◌≤◌, get_or, true, false, List, [], ◌∷◌, ◌++◌, length, map, take, drop, take_all, min, Option, Some, None, Bor, arith, refl, sym, ap, ap₂, ◌∙◌, append_assoc}
use Rattle.std.specs.List.{drop-map}
use Rattle.std.proofs.lemmas.List.{map-append, take-map, take_rest}
use Rattle.found_reports.specs.Held.{Held}
use Rattle.found_reports.specs.Found.{Found}
use Rattle.line_reports.specs.declared.pieces.ReadPiece.{ReadPiece}
use Rattle.line_reports.specs.Pieces.{ReadParts, read_parts}
use Rattle.tool_lines.specs.Lines.{piece_parts, is_kept}
use Rattle.line_reports.specs.Reports.{reports_in}
use Rattle.found_reports.specs.declared.sources.Source.{Source}
use Rattle.report_texts.specs.Runs.{DrawnOn, drawn_on}
use Rattle.report_texts.specs.Texts.{drawings, drawn_count, first_drawings, look_of}
use Rattle.girzohal_options.specs.declared.Asked.{Asked}
use Rattle.drawn_lines.specs.Counts.{count_of, count_with}
use Rattle.drawn_lines.specs.Walk.{reports_placed}
use Rattle.drawn_lines.specs.declared.count.Count.{Count}
use Rattle.drawn_lines.proofs.CountLemmas.{counted_next}
use Rattle.drawn_lines.specs.Lines.{columns_of, has_colors, in_place, kept_if, reports_before, still}

in_place_kept : (asked : Asked) (given : List ℕ → Held) (most : Option ℕ) (before : List ReadParts) (from lines shown : List (List ℕ)) (piece : ReadParts) (pieces : List ReadParts)
    → is_kept piece.piece.begun.sort ≡ true
    → in_place asked given most before from lines shown (piece ∷ pieces)
    ≡ first_drawings asked most (reports_in (columns_of asked) given from before) ++ kept_if asked (has_colors asked.theme) piece.piece (take piece.piece.lines shown)
    ++ in_place asked given (still most (length (reports_in (columns_of asked) given from before))) [] (drop piece.piece.lines lines) (drop piece.piece.lines lines) (drop piece.piece.lines shown) pieces
unfolding in_place
in_place_kept asked given most before from lines shown piece pieces is = rw is refl

in_place_passed : (asked : Asked) (given : List ℕ → Held) (most : Option ℕ) (before : List ReadParts) (from lines shown : List (List ℕ)) (piece : ReadParts) (pieces : List ReadParts)
    → is_kept piece.piece.begun.sort ≡ false
    → in_place asked given most before from lines shown (piece ∷ pieces)
    ≡ in_place asked given most (before ++ piece ∷ []) from (drop piece.piece.lines lines) (drop piece.piece.lines shown) pieces
unfolding in_place
in_place_passed asked given most before from lines shown piece pieces is = rw is refl

-- a piece that is kept: the text so far with the reports before it, and then its lines
kept_next : (asked : Asked) (given : List ℕ → Held) (most : Option ℕ) (before : List ReadParts) (from lines shown : List (List ℕ)) (piece : ReadParts) (pieces : List ReadParts)
    (text drawn now : List ℕ) → is_kept piece.piece.begun.sort ≡ true
    → drawn ≡ text ++ first_drawings asked most (reports_in (columns_of asked) given from before)
    → now ≡ drawn ++ kept_if asked (has_colors asked.theme) piece.piece (take piece.piece.lines shown)
    → now ++ in_place asked given (still most (length (reports_in (columns_of asked) given from before))) [] (drop piece.piece.lines lines) (drop piece.piece.lines lines) (drop piece.piece.lines shown) pieces
    ≡ text ++ in_place asked given most before from lines shown (piece ∷ pieces)
kept_next asked given most before from lines shown piece pieces text drawn now is drawn_is now_is =
    let first = first_drawings asked most (reports_in (columns_of asked) given from before) in
    let kept = kept_if asked (has_colors asked.theme) piece.piece (take piece.piece.lines shown) in
    let rest = in_place asked given (still most (length (reports_in (columns_of asked) given from before))) [] (drop piece.piece.lines lines) (drop piece.piece.lines lines) (drop piece.piece.lines shown) pieces in
    ap (λ t. t ++ rest) (now_is ∙ ap (λ t. t ++ kept) drawn_is) ∙ ap (λ t. t ++ rest) (append_assoc text first kept) ∙ append_assoc text (first ++ kept) rest
    ∙ ap (λ t. text ++ t) (sym (in_place_kept asked given most before from lines shown piece pieces is))

passed_next : (asked : Asked) (given : List ℕ → Held) (most : Option ℕ) (before : List ReadParts) (from lines shown : List (List ℕ)) (piece : ReadParts) (pieces : List ReadParts)
    (text : List ℕ) → is_kept piece.piece.begun.sort ≡ false
    → text ++ in_place asked given most (before ++ piece ∷ []) from (drop piece.piece.lines lines) (drop piece.piece.lines shown) pieces
    ≡ text ++ in_place asked given most before from lines shown (piece ∷ pieces)
passed_next asked given most before from lines shown piece pieces text is =
    ap (λ t. text ++ t) (sym (in_place_passed asked given most before from lines shown piece pieces is))

placed_last : (asked : Asked) (given : List ℕ → Held) (most : Option ℕ) (before : List ReadParts) (from lines shown : List (List ℕ))
    → in_place asked given most before from lines shown [] ≡ first_drawings asked most (reports_in (columns_of asked) given from before)
unfolding in_place
placed_last asked given most before from lines shown = refl

-- ---- the same of values as the program has them

abbrev texts_of : List (Bor (List ℕ)) → List (List ℕ)
texts_of lines = map (λ line. line.now) lines

behind_is : (lines behind : List (Bor (List ℕ))) (count : ℕ) → behind ≡ drop count lines → texts_of behind ≡ drop count (texts_of lines)
behind_is lines behind count is = ap texts_of is ∙ sym (drop-map (λ (line : Bor (List ℕ)). line.now) count lines)

-- the first of some blocks, and the next one
taken_next : (first more : List ReadPiece) (len : ℕ) (piece : ReadPiece) → drop len first ≡ piece ∷ more → take (len + 1) first ≡ take len first ++ piece ∷ []
taken_next [] more zero piece is = cc
taken_next [] more (suc len) piece is = cc
taken_next (x ∷ first) more zero piece is = cc
taken_next (x ∷ first) more (suc len) piece is =
    let same : suc len + 1 ≡ suc (len + 1) = omega arith in
    ap (λ n. take n (x ∷ first)) same ∙ ap (λ xs. x ∷ xs) (taken_next first more len piece is)

pub dropped_next : (first more : List ReadPiece) (len : ℕ) (piece : ReadPiece) → drop len first ≡ piece ∷ more → drop (len + 1) first ≡ more
dropped_next [] more zero piece is = cc
dropped_next [] more (suc len) piece is = cc
dropped_next (x ∷ first) more zero piece is = cc
dropped_next (x ∷ first) more (suc len) piece is =
    let same : suc len + 1 ≡ suc (len + 1) = omega arith in
    ap (λ n. drop n (x ∷ first)) same ∙ dropped_next first more len piece is

before_next : (first more : List ReadPiece) (len next : ℕ) (piece : ReadPiece) → drop len first ≡ piece ∷ more → next ≡ len + 1
    → map read_parts (take next first) ≡ map read_parts (take len first) ++ read_parts piece ∷ []
before_next first more len next piece is next_is =
    ap (λ n. map read_parts (take n first)) next_is ∙ ap (map read_parts) (taken_next first more len piece is) ∙ map-append read_parts (take len first) (piece ∷ [])

pub pass_is : (asked : Asked) (given : List ℕ → Held) (most : Option ℕ) (text : List ℕ) (first more : List ReadPiece) (len next : ℕ) (piece : ReadPiece)
    (from left shown behind later : List (Bor (List ℕ))) (pieces : List ReadParts)
    → is_kept piece.piece.begun.sort ≡ false → drop len first ≡ piece ∷ more → next ≡ len + 1 → behind ≡ drop piece.piece.lines left → later ≡ drop piece.piece.lines shown
    → text ++ in_place asked given most (map read_parts (take next first)) (map (λ line. line.now) from) (map (λ line. line.now) behind) (map (λ line. line.now) later) pieces
    ≡ text ++ in_place asked given most (map read_parts (take len first)) (map (λ line. line.now) from) (map (λ line. line.now) left) (map (λ line. line.now) shown) (read_parts piece ∷ pieces)
pass_is asked given most text first more len next piece from left shown behind later pieces is follows next_is left_is shown_is =
    let before : List ReadParts = map read_parts (take len first) in
    ap₂ (λ b l. text ++ in_place asked given most b (texts_of from) l (texts_of later) pieces) (before_next first more len next piece follows next_is) (behind_is left behind piece.piece.lines left_is)
    ∙ ap (λ l. text ++ in_place asked given most (before ++ read_parts piece ∷ []) (texts_of from) (drop piece.piece.lines (texts_of left)) l pieces)
    (behind_is shown later piece.piece.lines shown_is)
    ∙ passed_next asked given most before (texts_of from) (texts_of left) (texts_of shown) (read_parts piece) pieces text is

pub keep_is : (asked : Asked) (given : List ℕ → Held) (most next : Option ℕ) (text drawn now : List ℕ) (before : List ReadParts) (none : List ReadParts) (piece : ReadPiece)
    (from left shown front behind later : List (Bor (List ℕ))) (found : List Found) (pieces : List ReadParts) → is_kept piece.piece.begun.sort ≡ true → none ≡ []
    → found ≡ reports_in (columns_of asked) given (map (λ line. line.now) from) before → drawn ≡ text ++ first_drawings asked most found
    → front ≡ take piece.piece.lines shown → now ≡ drawn ++ kept_if asked (has_colors asked.theme) (piece_parts piece.piece) (map (λ line. line.now) front)
    → behind ≡ drop piece.piece.lines left → later ≡ drop piece.piece.lines shown → next ≡ still most (length found)
    → now ++ in_place asked given next none (map (λ line. line.now) behind) (map (λ line. line.now) behind) (map (λ line. line.now) later) pieces
    ≡ text ++ in_place asked given most before (map (λ line. line.now) from) (map (λ line. line.now) left) (map (λ line. line.now) shown) (read_parts piece ∷ pieces)
keep_is asked given most next text drawn now before none piece from left shown front behind later found pieces is none_is found_is drawn_is front_is now_is left_is shown_is next_is =
    let lines : ℕ = piece.piece.lines in
    let first : texts_of front ≡ take lines (texts_of shown) = ap texts_of front_is ∙ sym (take-map (λ (line : Bor (List ℕ)). line.now) lines shown) in
    let more : next ≡ still most (length (reports_in (columns_of asked) given (texts_of from) before)) =
    next_is ∙ ap (λ fs. still most (length fs)) found_is in
    ap (λ b. now ++ in_place asked given next b (texts_of behind) (texts_of behind) (texts_of later) pieces) none_is
    ∙ ap₂ (λ m l. now ++ in_place asked given m [] l l (texts_of later) pieces) more (behind_is left behind lines left_is)
    ∙ ap (λ l. now ++ in_place asked given (still most (length (reports_in (columns_of asked) given (texts_of from) before))) []
    (drop lines (texts_of left)) (drop lines (texts_of left)) l pieces) (behind_is shown later lines shown_is)
    ∙ kept_next asked given most before (texts_of from) (texts_of left) (texts_of shown) (read_parts piece) pieces text drawn now is
    (drawn_is ∙ ap (λ fs. text ++ first_drawings asked most fs) found_is) (now_is ∙ ap (λ l. drawn ++ kept_if asked (has_colors asked.theme) (piece_parts piece.piece) l) first)

-- no pieces have no reports
pub none_before : (asked : Asked) (given : List ℕ → Held) (from : List (List ℕ)) (before : List ReadParts) → length before ≡ 0 → reports_before asked given from before ≡ []
unfolding reports_in
none_before asked given from [] none = refl
none_before asked given from (piece ∷ pieces) none = absurd (omega (arith, none))

take_none : {X : Type 0} (n : ℕ) → take {A = X} n [] ≡ []
take_none n = take_all n [] (omega arith)

pub nothing_drawn : (asked : Asked) (most : Option ℕ) (found : List Found) → found ≡ [] → first_drawings asked most found ≡ []
unfolding first_drawings
nothing_drawn asked None found none = rw none refl
nothing_drawn asked (Some most) found none = rw none (ap (drawings (look_of asked) asked.raw) (take_none (min most 0)))

pub finish_is : (asked : Asked) (given : List ℕ → Held) (most : Option ℕ) (text drawn : List ℕ) (before : List ReadParts) (from left shown : List (Bor (List ℕ))) (found : List Found)
    → found ≡ reports_in (columns_of asked) given (map (λ line. line.now) from) before → drawn ≡ text ++ first_drawings asked most found
    → drawn ≡ text ++ in_place asked given most before (map (λ line. line.now) from) (map (λ line. line.now) left) (map (λ line. line.now) shown) []
finish_is asked given most text drawn before from left shown found found_is drawn_is =
    drawn_is ∙ ap (λ fs. text ++ first_drawings asked most fs) found_is
    ∙ ap (λ t. text ++ t) (sym (placed_last asked given most before (texts_of from) (texts_of left) (texts_of shown)))

-- ---- how many reports there are

placed_kept : (asked : Asked) (given : List ℕ → Held) (before : List ReadParts) (from lines : List (List ℕ)) (piece : ReadParts) (pieces : List ReadParts)
    → is_kept piece.piece.begun.sort ≡ true
    → reports_placed asked given before from lines (piece ∷ pieces)
    ≡ reports_before asked given from before ++ reports_placed asked given [] (drop piece.piece.lines lines) (drop piece.piece.lines lines) pieces
unfolding reports_placed
placed_kept asked given before from lines piece pieces is = rw is refl

placed_passed : (asked : Asked) (given : List ℕ → Held) (before : List ReadParts) (from lines : List (List ℕ)) (piece : ReadParts) (pieces : List ReadParts)
    → is_kept piece.piece.begun.sort ≡ false
    → reports_placed asked given before from lines (piece ∷ pieces) ≡ reports_placed asked given (before ++ piece ∷ []) from (drop piece.piece.lines lines) pieces
unfolding reports_placed
placed_passed asked given before from lines piece pieces is = rw is refl

pub placed_end : (asked : Asked) (given : List ℕ → Held) (before : List ReadParts) (from lines : List (List ℕ))
    → reports_placed asked given before from lines [] ≡ reports_before asked given from before
unfolding reports_placed
placed_end asked given before from lines = refl

pub pass_counts : (asked : Asked) (given : List ℕ → Held) (count : Count) (first more : List ReadPiece) (len next : ℕ) (piece : ReadPiece) (from left behind : List (Bor (List ℕ)))
    (pieces : List ReadParts) → is_kept piece.piece.begun.sort ≡ false → drop len first ≡ piece ∷ more → next ≡ len + 1 → behind ≡ drop piece.piece.lines left
    → count_with count (count_of asked (reports_placed asked given (map read_parts (take next first)) (map (λ line. line.now) from) (map (λ line. line.now) behind) pieces))
    ≡ count_with count (count_of asked (reports_placed asked given (map read_parts (take len first)) (map (λ line. line.now) from) (map (λ line. line.now) left) (read_parts piece ∷ pieces)))
pass_counts asked given count first more len next piece from left behind pieces is follows next_is left_is =
    ap (λ fs. count_with count (count_of asked fs))
    (ap₂ (λ b l. reports_placed asked given b (texts_of from) l pieces) (before_next first more len next piece follows next_is) (behind_is left behind piece.piece.lines left_is)
    ∙ sym (placed_passed asked given (map read_parts (take len first)) (texts_of from) (texts_of left) (read_parts piece) pieces is))

pub keep_counts : (asked : Asked) (given : List ℕ → Held) (count here next : Count) (before none : List ReadParts) (piece : ReadPiece) (from left behind : List (Bor (List ℕ))) (pieces : List ReadParts)
    → is_kept piece.piece.begun.sort ≡ true → none ≡ [] → here ≡ count_of asked (reports_before asked given (map (λ line. line.now) from) before)
    → next ≡ count_with count here → behind ≡ drop piece.piece.lines left
    → count_with next (count_of asked (reports_placed asked given none (map (λ line. line.now) behind) (map (λ line. line.now) behind) pieces))
    ≡ count_with count (count_of asked (reports_placed asked given before (map (λ line. line.now) from) (map (λ line. line.now) left) (read_parts piece ∷ pieces)))
keep_counts asked given count here next before none piece from left behind pieces is none_is here_is next_is left_is =
    let lines : ℕ = piece.piece.lines in
    let fore : List Found = reports_before asked given (texts_of from) before in
    let rest : List Found = reports_placed asked given [] (drop lines (texts_of left)) (drop lines (texts_of left)) pieces in
    ap (λ b. count_with next (count_of asked (reports_placed asked given b (texts_of behind) (texts_of behind) pieces))) none_is
    ∙ ap₂ (λ n l. count_with n (count_of asked (reports_placed asked given [] l l pieces))) (next_is ∙ ap (count_with count) here_is) (behind_is left behind lines left_is)
    ∙ counted_next asked count fore rest
    ∙ ap (λ fs. count_with count (count_of asked fs)) (sym (placed_kept asked given before (texts_of from) (texts_of left) (read_parts piece) pieces is))

pub finish_counts : (asked : Asked) (given : List ℕ → Held) (count here next : Count) (before : List ReadParts) (from left : List (Bor (List ℕ)))
    → here ≡ count_of asked (reports_before asked given (map (λ line. line.now) from) before) → next ≡ count_with count here
    → next ≡ count_with count (count_of asked (reports_placed asked given before (map (λ line. line.now) from) (map (λ line. line.now) left) []))
finish_counts asked given count here next before from left here_is next_is =
    next_is ∙ ap (count_with count) here_is
    ∙ ap (λ fs. count_with count (count_of asked fs)) (sym (placed_end asked given before (texts_of from) (texts_of left)))

-- ---- one step of a loop

pub step_on : {A : Type 0} (f g : List ReadParts → A) (pieces : List ReadPiece) (item : ReadPiece) (all : A) → 1 ≤ length pieces → item ≡ get_or pieces 0 item
    → ((rest : List ReadParts) → f rest ≡ g (read_parts item ∷ rest)) → g (map read_parts pieces) ≡ all
    → f (map read_parts (take (length pieces - 1) (drop 1 pieces))) ≡ all
step_on f g [] item all some is step before = absurd (omega (arith, some))
step_on f g (x ∷ rest) item all some is step before =
    ap (λ ps. f (map read_parts ps)) (take_rest (x ∷ rest) 1) ∙ step (map read_parts rest) ∙ ap (λ p. g (read_parts p ∷ map read_parts rest)) is ∙ before

pub nil_mapped : {A B : Type 0} (f : A → B) (xs : List A) → length xs ≡ 0 → map f xs ≡ []
nil_mapped f [] none = refl
nil_mapped f (x ∷ xs) none = absurd (omega (arith, none))

-- what is drawn as it was asked for
pub first_is : (asked : Asked) (on : DrawnOn) (entries : List Source) (most : Option ℕ) (found wanted : List Found) → on ≡ drawn_on asked entries → found ≡ wanted
    → drawings on.look on.raw (take (drawn_count most (length found)) found) ≡ first_drawings asked most wanted
unfolding first_drawings
first_is asked on entries most found wanted is same = rw (is, same) refl

pub first_of : (pieces : List ReadPiece) (item : ReadPiece) → 1 ≤ length pieces → item ≡ get_or pieces 0 item → pieces ≡ item ∷ take (length pieces - 1) (drop 1 pieces)
first_of [] item some is = absurd (omega (arith, some))
first_of (x ∷ rest) item some is = ap₂ (λ y xs. y ∷ xs) (sym is) (sym (take_rest (x ∷ rest) 1))

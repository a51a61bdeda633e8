-- Findings that are printed again, in parts of what was printed.
use Rattle.std.proofs.Common.{◌≡◌, ℕ, zero, suc, ◌+◌, ◌-◌, ◌&&◌, ◌≤◌, Bor, get_or, not, Bool, true, false, if◌then◌else◌, List, [], ◌∷◌, ◌++◌, length, map, take, drop, replicate, None, refl, sym, ap, ap₂, ◌∙◌, append_assoc, append-nil, arith, length-drop}
use Rattle.std.specs.Prelude.{⊤}
use Rattle.std.specs.List.{drop-map}
use Rattle.std.proofs.lemmas.Bool.{not-true}
use Rattle.std.proofs.lemmas.List.{length-append, length-replicate, drop-append-le, take-append-le, take-map, take_rest, drop-drop}
use Rattle.build_dirs.specs.Again.{Seen}
use Rattle.tool_lines.specs.declared.lines.Piece.{Piece}
use Rattle.tool_lines.specs.Lines.{PieceParts, is_kept, piece_parts}
use Rattle.girzohal_options.specs.declared.Asked.{Asked}
use Rattle.drawn_lines.specs.Again.{RunParts, Sign, begun_by, flags_from, flags_in, fresh, is_unique, muted, muted_at, muted_if, no_run, repeated, seen_behind, seen_from, seen_with, sign_of, signs, was_printed, with_sign}
use Rattle.drawn_lines.specs.Parting.{begins_empty, is_blank, unparted, waits}
use Rattle.drawn_lines.specs.Seam.{BarePieces, all_open, opens, span}
use Rattle.drawn_lines.proofs.PartingLemmas.{unparted_bare, unparted_open, unparted_parted, unparted_span}

-- ---- each piece has a flag

flags_length : (seen : Seen) (run : RunParts) (ss : List Sign) → length (flags_from seen run ss) ≡ run.count + length ss
unfolding flags_from
flags_length seen run [] = length-replicate run.count (was_printed seen run) ∙ omega arith
flags_length seen run (s ∷ ss) =
    elim (run.found && s.joins) as (λ v.
    length (if v then flags_from seen (with_sign run s) ss else replicate run.count (was_printed seen run) ++ flags_from (seen_with seen run) (begun_by s) ss) ≡ run.count + length (s ∷ ss)) [
      | true ↦ flags_length seen (with_sign run s) ss ∙ omega arith
      | false ↦ length-append (replicate run.count (was_printed seen run)) (flags_from (seen_with seen run) (begun_by s) ss)
          ∙ omega (arith, length-replicate run.count (was_printed seen run), flags_length (seen_with seen run) (begun_by s) ss)
    ]

-- ---- what opens parts the flags

abbrev pub all_begin : List Sign → Type 0
all_begin [] = ⊤
all_begin (s ∷ ss) = s.joins ≡ false

first_flags : (seen : Seen) (run : RunParts) (ys : List Sign) → all_begin ys
    → flags_from seen run ys ≡ replicate run.count (was_printed seen run) ++ flags_from (seen_with seen run) no_run ys
unfolding flags_from
first_flags seen run [] is = sym (append-nil (replicate run.count (was_printed seen run)))
first_flags seen run (y ∷ ys) is =
    elim (run.found) as (λ v.
    (if v && y.joins then flags_from seen (with_sign run y) ys else replicate run.count (was_printed seen run) ++ flags_from (seen_with seen run) (begun_by y) ys)
    ≡ replicate run.count (was_printed seen run) ++ flags_from (seen_with seen run) (begun_by y) ys) [
      | true ↦ rw is refl
      | false ↦ refl
    ]

parted_flags : (seen : Seen) (run : RunParts) (xs ys : List Sign) → all_begin ys
    → flags_from seen run (xs ++ ys) ≡ flags_from seen run xs ++ flags_from (seen_from seen run xs) no_run ys
unfolding flags_from seen_from
parted_flags seen run [] ys is = first_flags seen run ys is
parted_flags seen run (x ∷ xs) ys is =
    elim (run.found && x.joins) as (λ v.
    (if v then flags_from seen (with_sign run x) (xs ++ ys) else replicate run.count (was_printed seen run) ++ flags_from (seen_with seen run) (begun_by x) (xs ++ ys))
    ≡ (if v then flags_from seen (with_sign run x) xs else replicate run.count (was_printed seen run) ++ flags_from (seen_with seen run) (begun_by x) xs)
    ++ flags_from (if v then seen_from seen (with_sign run x) xs else seen_from (seen_with seen run) (begun_by x) xs) no_run ys) [
      | true ↦ parted_flags seen (with_sign run x) xs ys is
      | false ↦ ap (λ fs. replicate run.count (was_printed seen run) ++ fs) (parted_flags (seen_with seen run) (begun_by x) xs ys is)
          ∙ sym (append_assoc (replicate run.count (was_printed seen run)) (flags_from (seen_with seen run) (begun_by x) xs)
          (flags_from (seen_from (seen_with seen run) (begun_by x) xs) no_run ys))
    ]

-- ---- the same of pieces

signs_length : (lines : List (List ℕ)) (ps : List PieceParts) → length (signs lines ps) ≡ length ps
signs_length lines [] = refl
signs_length lines (p ∷ ps) = ap suc (signs_length (drop p.lines lines) ps)

signs_parted : (lines more : List (List ℕ)) (front ps : List PieceParts) → span front ≤ length lines
    → signs (lines ++ more) (front ++ ps) ≡ signs lines front ++ signs (drop (span front) lines ++ more) ps
signs_parted lines more [] ps within = refl
signs_parted lines more (p ∷ front) ps within =
    let left : List (List ℕ) = drop p.lines lines in
    ap₂ (λ run ls. sign_of run p ∷ signs ls (front ++ ps)) (take-append-le p.lines lines more (omega (arith, within))) (drop-append-le p.lines lines more (omega (arith, within)))
    ∙ ap (λ (ss : List Sign). sign_of (take p.lines lines) p ∷ ss)
    (signs_parted left more front ps (omega (arith, within, length-drop p.lines lines))
    ∙ ap (λ ls. signs left front ++ signs (ls ++ more) ps) (drop-drop (span front) p.lines lines))

open_begin : (lines : List (List ℕ)) (ps : List PieceParts) → all_open ps ≡ true → all_begin (signs lines ps)
unfolding sign_of
open_begin lines [] is = tt
open_begin lines (p ∷ ps) is = not-true _ is

times_append : {X : Type 0} (a b : ℕ) (x : X) → replicate (a + b) x ≡ replicate a x ++ replicate b x
times_append zero b x = let same : zero + b ≡ b = omega arith in ap (λ n. replicate n x) same
times_append (suc a) b x = let same : suc a + b ≡ suc (a + b) = omega arith in ap (λ n. replicate n x) same ∙ ap (λ xs. x ∷ xs) (times_append a b x)

flags_parted : (asked : Asked) (seen : Seen) (lines more : List (List ℕ)) (front ps : List PieceParts) → span front ≤ length lines → all_open ps ≡ true
    → flags_in asked seen (lines ++ more) (front ++ ps) ≡ flags_in asked seen lines front ++ flags_in asked (seen_behind asked seen lines front) (drop (span front) lines ++ more) ps
flags_parted asked seen lines more front ps within is =
    let left : List (List ℕ) = drop (span front) lines ++ more in
    elim (is_unique asked) as (λ v.
    (if v then flags_from seen no_run (signs (lines ++ more) (front ++ ps)) else replicate (length (front ++ ps)) false)
    ≡ (if v then flags_from seen no_run (signs lines front) else replicate (length front) false)
    ++ (if v then flags_from (if v then seen_from seen no_run (signs lines front) else seen) no_run (signs left ps) else replicate (length ps) false)) [
      | true ↦ ap (flags_from seen no_run) (signs_parted lines more front ps within) ∙ parted_flags seen no_run (signs lines front) (signs left ps) (open_begin left ps is)
      | false ↦ ap (λ n. replicate n false) (length-append front ps) ∙ times_append (length front) (length ps) false
    ]

flags_each : (asked : Asked) (seen : Seen) (lines : List (List ℕ)) (ps : List PieceParts) → length (flags_in asked seen lines ps) ≡ length ps
flags_each asked seen lines ps =
    elim (is_unique asked) as (λ v. length (if v then flags_from seen no_run (signs lines ps) else replicate (length ps) false) ≡ length ps) [
      | true ↦ flags_length seen no_run (signs lines ps) ∙ omega (arith, signs_length lines ps)
      | false ↦ length-replicate (length ps) false
    ]

-- ---- pieces that are muted

muted_parted : (which : Bool) (fs gs : List Bool) (front ps : List PieceParts) → length fs ≡ length front → muted_at which (fs ++ gs) (front ++ ps) ≡ muted_at which fs front ++ muted_at which gs ps
muted_parted which [] gs [] ps same = refl
muted_parted which [] gs (p ∷ front) ps same = absurd (omega arith)
muted_parted which (f ∷ fs) gs [] ps same = absurd (omega arith)
muted_parted which (f ∷ fs) gs (p ∷ front) ps same =
    ap (λ xs. muted_if (if which then f else not f) p ∷ xs) (muted_parted which fs gs front ps (omega arith))

one_span : (is : Bool) (p : PieceParts) → (muted_if is p).lines ≡ p.lines
one_span true p = refl
one_span false p = refl

muted_span : (which : Bool) (fs : List Bool) (ps : List PieceParts) → length fs ≡ length ps → span (muted_at which fs ps) ≡ span ps
muted_span which [] [] same = refl
muted_span which [] (p ∷ ps) same = absurd (omega arith)
muted_span which (f ∷ fs) [] same = absurd (omega arith)
muted_span which (f ∷ fs) (p ∷ ps) same = ap₂ (λ a b. a + b) (one_span (if which then f else not f) p) (muted_span which fs ps (omega arith))

one_open : (is : Bool) (p : PieceParts) → opens p ≡ true → opens (muted_if is p) ≡ true
one_open true p here = refl
one_open false p here = here

muted_open : (which : Bool) (fs : List Bool) (ps : List PieceParts) → all_open ps ≡ true → all_open (muted_at which fs ps) ≡ true
muted_open which [] ps here = refl
muted_open which (f ∷ fs) [] here = refl
muted_open which (f ∷ fs) (p ∷ ps) here = one_open (if which then f else not f) p here

one_bare : (is : Bool) (p : PieceParts) → (is_kept p.begun.sort ≡ true → p.begun.finding ≡ None) → is_kept (muted_if is p).begun.sort ≡ true → (muted_if is p).begun.finding ≡ None
one_bare true p bare = λ kept. refl
one_bare false p bare = bare

muted_bare : (which : Bool) (fs : List Bool) (ps : List PieceParts) → BarePieces ps → BarePieces (muted_at which fs ps)
muted_bare which [] ps bare = tt
muted_bare which (f ∷ fs) [] bare = tt
muted_bare which (f ∷ fs) (p ∷ ps) bare = (one_bare (if which then f else not f) p bare.0, muted_bare which fs ps bare.1)

one_sort : (is : Bool) (p : PieceParts) → (muted_if is p).begun.sort ≡ p.begun.sort
one_sort true p = refl
one_sort false p = refl

muted_waits : (before which : Bool) (lines : List (List ℕ)) (fs : List Bool) (ps : List PieceParts) → length fs ≡ length ps → waits before lines (muted_at which fs ps) ≡ waits before lines ps
muted_waits before which lines [] [] same = refl
muted_waits before which lines [] (p ∷ ps) same = absurd (omega arith)
muted_waits before which lines (f ∷ fs) [] same = absurd (omega arith)
muted_waits before which lines (f ∷ fs) (p ∷ ps) same =
    let is : Bool = if which then f else not f in
    ap₂ (λ s n. waits (is_kept s && begins_empty (take n lines)) (drop n lines) (muted_at which fs ps)) (one_sort is p) (one_span is p)
    ∙ muted_waits (is_blank (take p.lines lines) p) which (drop p.lines lines) fs ps (omega arith)

-- ---- those that are new, and those that are printed again

pub fresh_parted : (asked : Asked) (seen : Seen) (lines more : List (List ℕ)) (front ps : List PieceParts) → span front ≤ length lines → all_open ps ≡ true → waits false lines front ≡ false
    → fresh asked seen (lines ++ more) (front ++ ps) ≡ fresh asked seen lines front ++ fresh asked (seen_behind asked seen lines front) (drop (span front) lines ++ more) ps
unfolding fresh
fresh_parted asked seen lines more front ps within is full =
    let here : List Bool = flags_in asked seen lines front in
    let there : List Bool = flags_in asked (seen_behind asked seen lines front) (drop (span front) lines ++ more) ps in
    let each : length here ≡ length front = flags_each asked seen lines front in
    let muted_front : List PieceParts = muted_at true here front in
    let as_long : span muted_front ≡ span front = muted_span true here front each in
    ap (λ fs. unparted (lines ++ more) (muted_at true fs (front ++ ps))) (flags_parted asked seen lines more front ps within is)
    ∙ ap (unparted (lines ++ more)) (muted_parted true here there front ps each)
    ∙ unparted_parted false lines more muted_front (muted_at true there ps) (omega (arith, within, as_long)) (muted_waits false true lines here front each ∙ full)
    ∙ ap (λ n. unparted lines muted_front ++ unparted (drop n lines ++ more) (muted_at true there ps)) as_long

pub repeated_parted : (asked : Asked) (seen : Seen) (lines more : List (List ℕ)) (front ps : List PieceParts) → span front ≤ length lines → all_open ps ≡ true
    → repeated asked seen (lines ++ more) (front ++ ps) ≡ repeated asked seen lines front ++ repeated asked (seen_behind asked seen lines front) (drop (span front) lines ++ more) ps
unfolding repeated
repeated_parted asked seen lines more front ps within is =
    ap (λ fs. muted_at false fs (front ++ ps)) (flags_parted asked seen lines more front ps within is)
    ∙ muted_parted false (flags_in asked seen lines front) (flags_in asked (seen_behind asked seen lines front) (drop (span front) lines ++ more) ps) front ps (flags_each asked seen lines front)

pub fresh_span : (asked : Asked) (seen : Seen) (lines : List (List ℕ)) (ps : List PieceParts) → span (fresh asked seen lines ps) ≡ span ps
unfolding fresh
fresh_span asked seen lines ps = unparted_span lines (muted_at true (flags_in asked seen lines ps) ps) ∙ muted_span true (flags_in asked seen lines ps) ps (flags_each asked seen lines ps)

pub repeated_span : (asked : Asked) (seen : Seen) (lines : List (List ℕ)) (ps : List PieceParts) → span (repeated asked seen lines ps) ≡ span ps
unfolding repeated
repeated_span asked seen lines ps = muted_span false (flags_in asked seen lines ps) ps (flags_each asked seen lines ps)

pub fresh_open : (asked : Asked) (seen : Seen) (lines : List (List ℕ)) (ps : List PieceParts) → all_open ps ≡ true → all_open (fresh asked seen lines ps) ≡ true
unfolding fresh
fresh_open asked seen lines ps here = unparted_open lines (muted_at true (flags_in asked seen lines ps) ps) (muted_open true (flags_in asked seen lines ps) ps here)

pub repeated_open : (asked : Asked) (seen : Seen) (lines : List (List ℕ)) (ps : List PieceParts) → all_open ps ≡ true → all_open (repeated asked seen lines ps) ≡ true
unfolding repeated
repeated_open asked seen lines ps here = muted_open false (flags_in asked seen lines ps) ps here

pub fresh_bare : (asked : Asked) (seen : Seen) (lines : List (List ℕ)) (ps : List PieceParts) → BarePieces ps → BarePieces (fresh asked seen lines ps)
unfolding fresh
fresh_bare asked seen lines ps bare = unparted_bare lines (muted_at true (flags_in asked seen lines ps) ps) (muted_bare true (flags_in asked seen lines ps) ps bare)

-- ---- one step of the walk

pub joined_flags : (seen : Seen) (run : RunParts) (s : Sign) (more : List Sign) → run.found ≡ true → s.joins ≡ true → flags_from seen (with_sign run s) more ≡ flags_from seen run (s ∷ more)
unfolding flags_from
joined_flags seen run s more found joins = rw (found, joins) refl

pub joined_seen : (seen : Seen) (run : RunParts) (s : Sign) (more : List Sign) → run.found ≡ true → s.joins ≡ true → seen_from seen (with_sign run s) more ≡ seen_from seen run (s ∷ more)
unfolding seen_from
joined_seen seen run s more found joins = rw (found, joins) refl

pub ended_flags : (seen : Seen) (run : RunParts) (s : Sign) (more : List Sign) → (run.found && s.joins) ≡ false
    → flags_from seen run (s ∷ more) ≡ replicate run.count (was_printed seen run) ++ flags_from (seen_with seen run) (begun_by s) more
unfolding flags_from
ended_flags seen run s more is = rw is refl

pub ended_seen : (seen : Seen) (run : RunParts) (s : Sign) (more : List Sign) → (run.found && s.joins) ≡ false → seen_from seen run (s ∷ more) ≡ seen_from (seen_with seen run) (begun_by s) more
unfolding seen_from
ended_seen seen run s more is = rw is refl

-- ---- the same of values as the program has them

abbrev texts : List (Bor (List ℕ)) → List (List ℕ)
texts lines = map (λ (line : Bor (List ℕ)). line.now) lines

pub signs_next : (left run behind : List (Bor (List ℕ))) (rest : List Piece) (other : Piece) → 1 ≤ length rest → run ≡ take (get_or rest 0 other).lines left → behind ≡ drop (get_or rest 0 other).lines left
    → signs (texts left) (map piece_parts rest)
    ≡ sign_of (texts run) (piece_parts (get_or rest 0 other)) ∷ signs (texts behind) (map piece_parts (take (length rest - 1) (drop 1 rest)))
signs_next left run behind [] other some run_is behind_is = absurd (omega (arith, some))
signs_next left run behind (p ∷ rest) other some run_is behind_is =
    let first : take p.lines (texts left) ≡ texts run = take-map (λ (line : Bor (List ℕ)). line.now) p.lines left ∙ ap texts (sym run_is) in
    let later : drop p.lines (texts left) ≡ texts behind = drop-map (λ (line : Bor (List ℕ)). line.now) p.lines left ∙ ap texts (sym behind_is) in
    ap₂ (λ r b. sign_of r (piece_parts p) ∷ signs b (map piece_parts rest)) first later
    ∙ ap (λ ps. sign_of (texts run) (piece_parts p) ∷ signs (texts behind) (map piece_parts ps)) (sym (take_rest (p ∷ rest) 1))

pub signs_none : (lines : List (List ℕ)) (rest : List Piece) → length rest ≡ 0 → signs lines (map piece_parts rest) ≡ []
signs_none lines [] none = refl
signs_none lines (p ∷ rest) none = absurd (omega (arith, none))

pub flags_done : (seen : Seen) (run : RunParts) → flags_from seen run [] ≡ replicate run.count (was_printed seen run)
unfolding flags_from
flags_done seen run = refl

pub seen_done : (seen : Seen) (run : RunParts) → seen_from seen run [] ≡ seen_with seen run
unfolding seen_from
seen_done seen run = refl

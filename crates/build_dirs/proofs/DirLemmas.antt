-- The directories of a build.
use Rattle.std.proofs.Common.{◌≡◌, ℕ, zero, suc, ◌+◌, ◌-◌, ◌<◌, ◌≤◌, ◌==◌, ◌&&◌, ◌||◌, nat_lt, if◌then◌else◌, Bool, true, false, List, [], ◌∷◌, ◌++◌, length, take, drop, map, reverse, remove, get_or, slice_get, Option, Some, None, option_map, unwrap_or, Result, Ok, Err, OnOk, refl, sym, ap, ap₂, ◌∙◌, inl, inr, arith}
use Rattle.std.specs.List.{find, list_any}
use Rattle.std.specs.Str.{bytes_eq}
use Rattle.std.specs.String.{string_bytes}
use Rattle.std.proofs.lemmas.Bool.{and_parts, cases_lt, eq-eqb, eqb-true}
use Rattle.std.proofs.lemmas.Slice.Eq.{bytes_eq-Decides}
use Rattle.std.proofs.lemmas.Bool.Decides.{nat_tests}
use Rattle.std.proofs.lemmas.List.{drop-map, get_or_append_left, get_or-append_right, get_or-reverse, length-append, length-map, length-reverse, map-append, reverse-append, take-map, take_more}
use Rattle.std.proofs.lemmas.Option.{get_or_from_slice_get, slice_get-get_or, slice_get-map, slice_get_past, slice_get_read, slice_get_within}
use Rattle.build_dirs.specs.declared.dirs.TheConstants.{LIMIT}
use Rattle.build_dirs.specs.declared.dirs.OpenDir.{OpenDir}
use Rattle.build_dirs.specs.declared.dirs.BuildDirs.{BuildDirs}
use Rattle.build_dirs.specs.declared.changes.Change.{Change}
use Rattle.build_dirs.specs.Changes.{change_of, change_parts}
use Rattle.build_dirs.specs.Dirs.{Dir, DirsParts, IsEntered, IsEqual, IsLastEqual, NoneEqual, appended, base_of, dir_in, dir_of, dirs_in_order, dirs_parts, entered, ever_of, is_dir, joined, left, opens_of, taken, taken_by, without_last_dir}

pub open_at : (items : List OpenDir) (k : ℕ) (x : OpenDir) → k < length items → x ≡ get_or items k x → slice_get (map dir_of items) k ≡ Some (dir_of x)
open_at items k x within is = slice_get-map dir_of items k ∙ ap (option_map dir_of) (slice_get_read items (length items) k x refl within is)

-- ---- the last directory of a lower level

last_first : (opens : List Dir) (k : ℕ) (d : Dir) → slice_get opens k ≡ Some d → reverse (take (k + 1) opens) ≡ d ∷ reverse (take k opens)
last_first opens k d there =
    ap reverse (take_more opens k d (slice_get_within opens k d there) ∙ ap (λ x. take k opens ++ x ∷ []) (get_or_from_slice_get opens k d d there)) ∙ reverse-append (take k opens) (d ∷ [])

found_by : (lower : Bool) (d : Dir) (rest : Option Dir) → lower ≡ true → unwrap_or (option_map (λ (dir : Dir). dir.path) (if lower then Some d else rest)) [] ≡ d.path
found_by true d rest is = refl
found_by false d rest is = cc

passed_by : (lower : Bool) (d : Dir) (rest : Option Dir) → lower ≡ false → (if lower then Some d else rest) ≡ rest
passed_by true d rest is = cc
passed_by false d rest is = refl

pub base_at : (opens : List Dir) (level k : ℕ) (d : Dir) → slice_get opens k ≡ Some d → nat_lt d.level level ≡ true → base_of (take (k + 1) opens) level ≡ d.path
unfolding base_of
base_at opens level k d there lower =
    ap (λ (ds : List Dir). unwrap_or (option_map (λ (dir : Dir). dir.path) (find (λ (dir : Dir). nat_lt dir.level level) ds)) []) (last_first opens k d there)
    ∙ found_by (nat_lt d.level level) d (find (λ (dir : Dir). nat_lt dir.level level) (reverse (take k opens))) lower

pub base_past : (opens : List Dir) (level k : ℕ) (d : Dir) → slice_get opens k ≡ Some d → nat_lt d.level level ≡ false → base_of (take (k + 1) opens) level ≡ base_of (take k opens) level
unfolding base_of
base_past opens level k d there lower =
    ap (λ (ds : List Dir). unwrap_or (option_map (λ (dir : Dir). dir.path) (find (λ (dir : Dir). nat_lt dir.level level) ds)) []) (last_first opens k d there)
    ∙ ap (λ (found : Option Dir). unwrap_or (option_map (λ (dir : Dir). dir.path) found) []) (passed_by (nat_lt d.level level) d (find (λ (dir : Dir). nat_lt dir.level level) (reverse (take k opens))) lower)

pub base_none : (level : ℕ) → base_of [] level ≡ []
unfolding base_of
base_none level = refl

-- the steps of the loop, where `k` is one less than `n`
pub base_found : (items : List OpenDir) (level n k : ℕ) (x : OpenDir) (path whole : List ℕ) → n ≡ k + 1 → k < length items → x ≡ get_or items k x → x.level < level → path ≡ string_bytes x.path
    → base_of (take n (map dir_of items)) level ≡ whole → path ≡ whole
base_found items level n k x path whole n_is within is lower path_is so =
    let test : nat_lt (dir_of x).level level ≡ true = grind (arith, nat_tests) in
    path_is ∙ sym (base_at (map dir_of items) level k (dir_of x) (open_at items k x within is) test) ∙ ap (λ m. base_of (take m (map dir_of items)) level) (sym n_is) ∙ so

pub base_goes : (items : List OpenDir) (level n k : ℕ) (x : OpenDir) (whole : List ℕ) → n ≡ k + 1 → k < length items → x ≡ get_or items k x → level ≤ x.level
    → base_of (take n (map dir_of items)) level ≡ whole → base_of (take k (map dir_of items)) level ≡ whole
base_goes items level n k x whole n_is within is lower so =
    let test : nat_lt (dir_of x).level level ≡ false = grind (arith, nat_tests) in
    sym (base_past (map dir_of items) level k (dir_of x) (open_at items k x within is) test) ∙ ap (λ m. base_of (take m (map dir_of items)) level) (sym n_is) ∙ so

pub base_end : (opens : List Dir) (level n : ℕ) (whole : List ℕ) → n ≡ 0 → base_of (take n opens) level ≡ whole → [] ≡ whole
base_end opens level n whole none so = sym (base_none level) ∙ ap (λ m. base_of (take m opens) level) (sym none) ∙ so

-- ---- the last equal directory

pub not_equal : (items : List OpenDir) (k j : ℕ) (x : OpenDir) (program path : List ℕ) (level : ℕ) → k < length items → x ≡ get_or items k x → (IsEqual x program level path → ⊥)
    → ((i : ℕ) → k + 1 ≤ i → slice_get (map dir_of items) i ≡ Some (record { program = program; level = level; path = path }) → ⊥)
    → k ≤ j → slice_get (map dir_of items) j ≡ Some (record { program = program; level = level; path = path }) → ⊥
not_equal items k j x program path level within is differs later low there =
    elim (cases_lt k j) [
      | inl after ↦ later j (omega (arith, after)) there
      | inr here ↦
          (let e : k ≡ j = omega (arith, here, low) in
          let same : Some (dir_of x) ≡ Some (record { program = program; level = level; path = path }) = sym (open_at items k x within is) ∙ ap (slice_get (map dir_of items)) e ∙ there in
          let d : Dir = record { program = program; level = level; path = path } in
          let one : dir_of x ≡ d = ap (λ (o : Option Dir). unwrap_or o d) same in
          differs (record { program_is = ap (λ (dir : Dir). dir.program) one; level_is = ap (λ (dir : Dir). dir.level) one; path_is = ap (λ (dir : Dir). dir.path) one }))
    ]

pub map_remove : (items : List OpenDir) (k : ℕ) → map dir_of (remove items k) ≡ remove (map dir_of items) k
map_remove items k = map-append dir_of (take k items) (drop (suc k) items) ∙ ap₂ (λ (xs ys : List Dir). xs ++ ys) (sym (take-map dir_of k items)) (sym (drop-map dir_of (suc k) items))

-- ---- one directory more

map_by : {X Y : Type 0} (f : X → Y) (many : Bool) (xs : List X) (x : X) → map f (if many then drop 1 (xs ++ x ∷ []) else xs ++ x ∷ []) ≡ (if many then drop 1 (map f xs ++ f x ∷ []) else map f xs ++ f x ∷ [])
map_by f true xs x = sym (drop-map f 1 (xs ++ x ∷ [])) ∙ ap (drop 1) (map-append f xs (x ∷ []))
map_by f false xs x = map-append f xs (x ∷ [])

pub map_appended : {X Y : Type 0} (f : X → Y) (xs : List X) (x : X) → map f (appended xs x) ≡ appended (map f xs) (f x)
map_appended f xs x =
    map_by f (nat_lt LIMIT (length xs + 1)) xs x
    ∙ ap (λ n. if nat_lt LIMIT (n + 1) then drop 1 (map f xs ++ f x ∷ []) else map f xs ++ f x ∷ []) (sym (length-map xs f))

-- ---- the order of the directories

path_at : (items : List OpenDir) (k : ℕ) (x : OpenDir) → k < length items → x ≡ get_or items k x → slice_get (map (λ (dir : Dir). dir.path) (map dir_of items)) k ≡ Some (string_bytes x.path)
path_at items k x within is = slice_get-map (λ (dir : Dir). dir.path) (map dir_of items) k ∙ ap (option_map (λ (dir : Dir). dir.path)) (open_at items k x within is)

reverse_at : (xs : List (List ℕ)) (k m : ℕ) (x : List ℕ) → k < length xs → m ≡ length xs - 1 - k → slice_get xs m ≡ Some x → slice_get (reverse xs) k ≡ Some x
reverse_at xs k m x within m_is there =
    slice_get-get_or (reverse xs) k x (omega (arith, within, length-reverse xs)) ∙ ap (λ (y : List ℕ). Some y) (get_or-reverse xs k x within ∙ ap (λ n. get_or xs n x) (sym m_is) ∙ get_or_from_slice_get xs m x x there)

left_at : (xs ys : List (List ℕ)) (k : ℕ) (x : List ℕ) → slice_get xs k ≡ Some x → slice_get (xs ++ ys) k ≡ Some x
left_at xs ys k x there =
    let within : k < length xs = slice_get_within xs k x there in
    slice_get-get_or (xs ++ ys) k x (omega (arith, within, length-append xs ys)) ∙ ap (λ (y : List ℕ). Some y) (get_or_append_left xs ys x k within ∙ get_or_from_slice_get xs k x x there)

right_at : (xs ys : List (List ℕ)) (k n : ℕ) (x : List ℕ) → n ≡ k - length xs → length xs ≤ k → slice_get ys n ≡ Some x → slice_get (xs ++ ys) k ≡ Some x
right_at xs ys k n x n_is from there =
    let within : n < length ys = slice_get_within ys n x there in
    slice_get-get_or (xs ++ ys) k x (omega (arith, within, length-append xs ys, n_is, from))
    ∙ ap (λ (y : List ℕ). Some y) (get_or-append_right xs ys (length xs) k x refl from ∙ ap (λ m. get_or ys m x) (sym n_is) ∙ get_or_from_slice_get ys n x x there)

paths_len : (dirs : BuildDirs) → length (reverse (map (λ (dir : Dir). dir.path) (opens_of dirs))) ≡ length dirs.open.items
paths_len dirs = length-reverse (map (λ (dir : Dir). dir.path) (opens_of dirs)) ∙ length-map (opens_of dirs) (λ (dir : Dir). dir.path) ∙ length-map dirs.open.items dir_of

pub order_open : (dirs : BuildDirs) (k m : ℕ) (x : OpenDir) (path : List ℕ) → k < length dirs.open.items → m ≡ length dirs.open.items - 1 - k → x ≡ get_or dirs.open.items m x → path ≡ string_bytes x.path → Some path ≡ slice_get (dirs_in_order dirs) k
order_open dirs k m x path within m_is is path_is =
    let paths = map (λ (dir : Dir). dir.path) (opens_of dirs) in
    let size : length paths ≡ length dirs.open.items = length-map (opens_of dirs) (λ (dir : Dir). dir.path) ∙ length-map dirs.open.items dir_of in
    ap (λ (y : List ℕ). Some y) path_is
    ∙ sym (left_at (reverse paths) ([] ∷ reverse (ever_of dirs)) k (string_bytes x.path)
    (reverse_at paths k m (string_bytes x.path) (omega (arith, within, size)) (omega (arith, m_is, size)) (path_at dirs.open.items m x (omega (arith, m_is, within)) is)))

pub order_start : (dirs : BuildDirs) (k : ℕ) → k ≡ length dirs.open.items → Some [] ≡ slice_get (dirs_in_order dirs) k
order_start dirs k is =
    let paths = reverse (map (λ (dir : Dir). dir.path) (opens_of dirs)) in
    sym (right_at paths ([] ∷ reverse (ever_of dirs)) k 0 [] (omega (arith, is, paths_len dirs)) (omega (arith, is, paths_len dirs)) refl)

pub order_ever : (dirs : BuildDirs) (k m : ℕ) (path : List ℕ) → length dirs.open.items < k → k - length dirs.open.items ≤ length dirs.ever.items → m + (k - length dirs.open.items) ≡ length dirs.ever.items
    → slice_get (ever_of dirs) m ≡ Some path → Some path ≡ slice_get (dirs_in_order dirs) k
order_ever dirs k m path after within m_is there =
    let paths = reverse (map (λ (dir : Dir). dir.path) (opens_of dirs)) in
    let i = k - length dirs.open.items - 1 in
    let size : length (ever_of dirs) ≡ length dirs.ever.items = length-map dirs.ever.items string_bytes in
    let back : slice_get (reverse (ever_of dirs)) i ≡ Some path = reverse_at (ever_of dirs) i m path (omega (arith, size, after, within)) (omega (arith, size, after, m_is)) there in
    sym (right_at paths ([] ∷ reverse (ever_of dirs)) k (suc i) path (omega (arith, paths_len dirs, after)) (omega (arith, paths_len dirs, after)) back)

pub order_end : (dirs : BuildDirs) (k : ℕ) → length dirs.open.items < k → length dirs.ever.items < k - length dirs.open.items → None ≡ slice_get (dirs_in_order dirs) k
order_end dirs k after past =
    let paths = reverse (map (λ (dir : Dir). dir.path) (opens_of dirs)) in
    let size : length ([] ∷ reverse (ever_of dirs)) ≡ suc (length dirs.ever.items) = ap suc (length-reverse (ever_of dirs) ∙ length-map dirs.ever.items string_bytes) in
    sym (slice_get_past (dirs_in_order dirs) k (omega (arith, length-append paths ([] ∷ reverse (ever_of dirs)), size, paths_len dirs, after, past)))

-- ---- the steps of the code

pub text_at : {S : Type 0} (bytes : S → List ℕ) (items : List S) (m : ℕ) (x : S) (path : List ℕ) → m < length items → x ≡ get_or items m x → path ≡ bytes x → slice_get (map bytes items) m ≡ Some path
text_at bytes items m x path within is path_is =
    slice_get-map bytes items m ∙ ap (option_map bytes) (slice_get_read items (length items) m x refl within is) ∙ ap (λ (y : List ℕ). Some y) (sym path_is)

pub entered_if : {E : Type 0} (result : Result (Unit {0}) E) (old new : BuildDirs) (program path : List ℕ) (level : ℕ) (dir : OpenDir) → string_bytes dir.program ≡ program → dir.level ≡ level → string_bytes dir.path ≡ path
    → OnOk result (new.open.items ≡ appended old.open.items dir) → ever_of new ≡ appended (ever_of old) path → OnOk result (IsEntered program level path old new)
entered_if (Ok u) old new program path level dir program_is level_is path_is open_is ever_is =
    let one : List ℕ → Dir = λ p. record { program = p; level = dir.level; path = string_bytes dir.path } in
    let two : ℕ → Dir = λ n. record { program = program; level = n; path = string_bytes dir.path } in
    let three : List ℕ → Dir = λ p. record { program = program; level = level; path = p } in
    record {
      opens = ap (map dir_of) open_is ∙ map_appended dir_of old.open.items dir ∙ ap (λ (d : Dir). appended (opens_of old) d) (ap one program_is ∙ ap two level_is ∙ ap three path_is);
      ever = ever_is;
    }
entered_if (Err e) old new program path level dir program_is level_is path_is open_is ever_is = tt

-- ---- the last equal directory goes

is_itself : (dir : Dir) → is_dir dir dir ≡ true
is_itself dir =
    let program : bytes_eq dir.program dir.program ≡ true = (bytes_eq-Decides dir.program dir.program).1 refl in
    let level : (dir.level == dir.level) ≡ true = eq-eqb dir.level dir.level refl in
    let path : bytes_eq dir.path dir.path ≡ true = (bytes_eq-Decides dir.path dir.path).1 refl in
    rw (program, level, path) refl

is_same_dir : (dir other : Dir) → is_dir dir other ≡ true → other ≡ dir
is_same_dir dir other is =
    let P : Bool = bytes_eq other.program dir.program in
    let L : Bool = other.level == dir.level in
    let Q : Bool = bytes_eq other.path dir.path in
    let all = and_parts (P && L) Q is in
    let front = and_parts P L all.0 in
    let program : other.program ≡ dir.program = (bytes_eq-Decides other.program dir.program).0 front.0 in
    let level : other.level ≡ dir.level = eqb-true other.level dir.level front.1 in
    let path : other.path ≡ dir.path = (bytes_eq-Decides other.path dir.path).0 all.1 in
    let one : List ℕ → Dir = λ p. record { program = p; level = other.level; path = other.path } in
    let two : ℕ → Dir = λ n. record { program = dir.program; level = n; path = other.path } in
    let three : List ℕ → Dir = λ p. record { program = dir.program; level = dir.level; path = p } in
    ap one program ∙ ap two level ∙ ap three path

none_equal : (dir : Dir) (ds : List Dir) → ((k : ℕ) → slice_get ds k ≡ Some dir → ⊥) → list_any (is_dir dir) ds ≡ false
none_equal dir [] none = refl
none_equal dir (d ∷ ds) none = go (is_dir dir d) refl (none_equal dir ds (λ k there. none (suc k) there))
  where
    go : (same : Bool) → is_dir dir d ≡ same → list_any (is_dir dir) ds ≡ false → (same || list_any (is_dir dir) ds) ≡ false
    go true is rest = absurd (none 0 (ap (λ (x : Dir). Some x) (is_same_dir dir d is)))
    go false is rest = rest

one_equal : (dir : Dir) (ds : List Dir) (k : ℕ) → slice_get ds k ≡ Some dir → list_any (is_dir dir) ds ≡ true
one_equal dir [] k there = cc
one_equal dir (d ∷ ds) zero there =
    let same : d ≡ dir = ap (λ (o : Option Dir). unwrap_or o d) there in
    let is : is_dir dir d ≡ true = ap (is_dir dir) same ∙ is_itself dir in
    ap (λ b. b || list_any (is_dir dir) ds) is
one_equal dir (d ∷ ds) (suc k) there = go (is_dir dir d) (one_equal dir ds k there)
  where
    go : (same : Bool) → list_any (is_dir dir) ds ≡ true → (same || list_any (is_dir dir) ds) ≡ true
    go true found = refl
    go false found = found

none_goes : (dir : Dir) (ds : List Dir) → list_any (is_dir dir) ds ≡ false → without_last_dir dir ds ≡ ds
none_goes dir [] none = refl
none_goes dir (d ∷ ds) none = go (is_dir dir d) (list_any (is_dir dir) ds) none
  where
    go : (same later : Bool) → (same || later) ≡ false → (if later then d ∷ without_last_dir dir ds else if same then ds else d ∷ ds) ≡ d ∷ ds
    go true later is = cc
    go false true is = cc
    go false false is = refl

last_goes : (dir : Dir) (ds : List Dir) (k : ℕ) → slice_get ds k ≡ Some dir → ((j : ℕ) → k < j → slice_get ds j ≡ Some dir → ⊥) → without_last_dir dir ds ≡ remove ds k
last_goes dir [] k there last = cc
last_goes dir (d ∷ ds) zero there last =
    let same : d ≡ dir = ap (λ (o : Option Dir). unwrap_or o d) there in
    let is : is_dir dir d ≡ true = ap (is_dir dir) same ∙ is_itself dir in
    let later : list_any (is_dir dir) ds ≡ false = none_equal dir ds (λ j here. last (suc j) (omega arith) here) in
    ap₂ (λ a b. if a then d ∷ without_last_dir dir ds else if b then ds else d ∷ ds) later is
last_goes dir (d ∷ ds) (suc k) there last =
    let later : list_any (is_dir dir) ds ≡ true = one_equal dir ds k there in
    ap (λ a. if a then d ∷ without_last_dir dir ds else if is_dir dir d then ds else d ∷ ds) later
    ∙ ap (λ (xs : List Dir). d ∷ xs) (last_goes dir ds k there (λ j after here. last (suc j) (omega (arith, after)) here))

pub left_none : (opens : List Dir) (program path : List ℕ) (level : ℕ) → NoneEqual opens program level path → without_last_dir (record { program = program; level = level; path = path }) opens ≡ opens
left_none opens program path level none =
    let dir : Dir = record { program = program; level = level; path = path } in
    none_goes dir opens (none_equal dir opens none)

pub left_last : (opens : List Dir) (program path : List ℕ) (level k : ℕ) → IsLastEqual opens program level path k
    → without_last_dir (record { program = program; level = level; path = path }) opens ≡ remove opens k
left_last opens program path level k is = last_goes (record { program = program; level = level; path = path }) opens k is.here is.last

-- ---- the directories behind a line

pub taken_none : (dirs : DirsParts) (line : List ℕ) → None ≡ change_of line → dirs ≡ taken dirs line
unfolding taken
taken_none dirs line is = ap (taken_by dirs) is

entered_by : (opens : Bool) (dir : Dir) (dirs : DirsParts) → opens ≡ true → (if opens then entered dir dirs else left dir dirs) ≡ entered dir dirs
entered_by true dir dirs is = refl
entered_by false dir dirs is = cc

left_by : (opens : Bool) (dir : Dir) (dirs : DirsParts) → opens ≡ false → (if opens then entered dir dirs else left dir dirs) ≡ left dir dirs
left_by true dir dirs is = cc
left_by false dir dirs is = refl

pub taken_entered : (old new : BuildDirs) (line path : List ℕ) (change : Change) → Some (change_parts change) ≡ change_of line → change.opens ≡ true
    → path ≡ joined (base_of (opens_of old) change.level) change.path.now → IsEntered change.program.now change.level path old new → dirs_parts new ≡ taken (dirs_parts old) line
unfolding taken
taken_entered old new line path change is opens path_is enters =
    let dir : List ℕ → Dir = λ p. record { program = change.program.now; level = change.level; path = p } in
    ap₂ (λ (o : List Dir) (e : List (List ℕ)). record { opens = o; ever = e }) enters.opens enters.ever
    ∙ ap (λ p. entered (dir p) (dirs_parts old)) path_is
    ∙ sym (entered_by change.opens (dir_in (dirs_parts old) (change_parts change)) (dirs_parts old) opens)
    ∙ ap (taken_by (dirs_parts old)) is

pub taken_left : (old new : BuildDirs) (line path : List ℕ) (change : Change) → Some (change_parts change) ≡ change_of line → change.opens ≡ false
    → path ≡ joined (base_of (opens_of old) change.level) change.path.now
    → dirs_parts new ≡ left (record { program = change.program.now; level = change.level; path = path }) (dirs_parts old) → dirs_parts new ≡ taken (dirs_parts old) line
unfolding taken
taken_left old new line path change is opens path_is leaves =
    let dir : List ℕ → Dir = λ p. record { program = change.program.now; level = change.level; path = p } in
    leaves
    ∙ ap (λ p. left (dir p) (dirs_parts old)) path_is
    ∙ sym (left_by change.opens (dir_in (dirs_parts old) (change_parts change)) (dirs_parts old) opens)
    ∙ ap (taken_by (dirs_parts old)) is

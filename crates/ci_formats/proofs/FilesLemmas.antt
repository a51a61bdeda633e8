-- Names that are gathered from the front, and what is given along findings.
use Rattle.std.proofs.Common.{◌≡◌, ℕ, suc, ◌+◌, ◌<◌, ◌≤◌, Bool, true, false, cond, not, ◌||◌, if◌then◌else◌, Bor, List, [], ◌∷◌, ◌++◌, append_assoc, append-nil, length, map, take, drop, get_or, filter, BTreeMap, refl, sym, subst, ap, ap₂, ◌∙◌, arith, drop-cons}
use Rattle.std.specs.Prelude.{Vec}
use Rattle.std.specs.BTreeMap.{is_at}
use Rattle.std.specs.BTreeSet.{BTreeSet, contains}
use Rattle.std.specs.Cmp.Lexicographic.{nat_list_eq_equiv}
use Rattle.std.specs.List.{flat_map, list_any}
use Rattle.std.specs.Map.{lookup}
use Rattle.std.specs.Option.{option_map_or}
use Rattle.std.specs.Ordering.{is_eq}
use Rattle.std.specs.Str.{bytes_eq}
use Rattle.std.proofs.lemmas.List.{take_more, map_push, drop_all}
use Rattle.std.proofs.lemmas.List.Folds.{list_any-append}
use Rattle.std.proofs.lemmas.List.Elements.{filter-append}
use Rattle.std.proofs.lemmas.Map.Text.{is_eq-slice_cmp}
use Rattle.std.proofs.lemmas.Slice.Eq.{bytes_eq-Decides}
use Rattle.ci_formats.specs.declared.finding.Finding.{Finding}
use Rattle.ci_formats.specs.Finding.{FindingParts, finding_parts}
use Rattle.found_reports.specs.Names.{name_order}
use Rattle.ci_formats.specs.Files.{AreByFile, Knows, along, is_on, names_of, own_in, own_parts, with_name}

-- ---- names

-- a name is none of those that are known
abbrev pub is_new : List (List ℕ) → List ℕ → Bool
is_new known name = not (list_any (bytes_eq name) known)

abbrev other_than : List ℕ → List ℕ → Bool
other_than name it = not (bytes_eq it name)

any_more : (test : List ℕ → Bool) (xs : List (List ℕ)) (x : List ℕ) → list_any test (xs ++ x ∷ []) ≡ (list_any test xs || (test x || false))
any_more test xs x = list_any-append test xs (x ∷ [])

known_skip : (known : List (List ℕ)) (name : List ℕ) (ns : List (List ℕ)) → is_new known name ≡ false → filter (is_new known) (filter (other_than name) ns) ≡ filter (is_new known) ns
known_skip known name [] old = refl
known_skip known name (n ∷ rest) old = go (bytes_eq n name) refl (known_skip known name rest old)
  where
    go : (said : Bool) → bytes_eq n name ≡ said → filter (is_new known) (filter (other_than name) rest) ≡ filter (is_new known) rest → filter (is_new known) (cond (not said) (n ∷ filter (other_than name) rest) (filter (other_than name) rest)) ≡ filter (is_new known) (n ∷ rest)
    go true same later =
        let gone : is_new known n ≡ false = ap (is_new known) ((bytes_eq-Decides n name).0 same) ∙ old in
        later ∙ sym (ap (λ b. cond b (n ∷ filter (is_new known) rest) (filter (is_new known) rest)) gone)
    go false other later = ap (λ l. cond (is_new known n) (n ∷ l) l) later

new_skip : (known : List (List ℕ)) (name : List ℕ) (ns : List (List ℕ)) → filter (is_new known) (filter (other_than name) ns) ≡ filter (is_new (known ++ name ∷ [])) ns
new_skip known name [] = refl
new_skip known name (n ∷ rest) = go (bytes_eq n name) refl (new_skip known name rest)
  where
    more : is_new (known ++ name ∷ []) n ≡ not (list_any (bytes_eq n) known || (bytes_eq n name || false))
    more = ap not (any_more (bytes_eq n) known name)

    or_true : (b : Bool) → not (b || true) ≡ false
    or_true true = refl
    or_true false = refl

    or_false : (b : Bool) → not (b || false) ≡ not b
    or_false true = refl
    or_false false = refl

    go : (said : Bool) → bytes_eq n name ≡ said → filter (is_new known) (filter (other_than name) rest) ≡ filter (is_new (known ++ name ∷ [])) rest
        → filter (is_new known) (cond (not said) (n ∷ filter (other_than name) rest) (filter (other_than name) rest)) ≡ filter (is_new (known ++ name ∷ [])) (n ∷ rest)
    go true same later =
        let gone : is_new (known ++ name ∷ []) n ≡ false = more ∙ ap (λ b. not (list_any (bytes_eq n) known || (b || false))) same ∙ or_true (list_any (bytes_eq n) known) in
        later ∙ sym (ap (λ b. cond b (n ∷ filter (is_new (known ++ name ∷ [])) rest) (filter (is_new (known ++ name ∷ [])) rest)) gone)
    go false other later =
        let kept : is_new (known ++ name ∷ []) n ≡ is_new known n = more ∙ ap (λ b. not (list_any (bytes_eq n) known || (b || false))) other ∙ or_false (list_any (bytes_eq n) known) in
        ap (λ l. cond (is_new known n) (n ∷ l) l) later
        ∙ sym (ap (λ b. cond b (n ∷ filter (is_new (known ++ name ∷ [])) rest) (filter (is_new (known ++ name ∷ [])) rest)) kept)

all_new : (ns : List (List ℕ)) → filter (is_new []) ns ≡ ns
all_new [] = refl
all_new (n ∷ rest) = ap (λ l. n ∷ l) (all_new rest)

-- the names that are known, and of the rest those that are new
abbrev pub gathered : List (List ℕ) → List FindingParts → List (List ℕ)
gathered known rest = known ++ filter (is_new known) (names_of rest)

pub none_gathered : (fs : List FindingParts) → gathered [] fs ≡ names_of fs
none_gathered fs = all_new (names_of fs)

old_gathered : (known : List (List ℕ)) (f : FindingParts) (rest : List FindingParts) → list_any (bytes_eq f.name) known ≡ true → gathered known (f ∷ rest) ≡ gathered known rest
unfolding names_of
old_gathered known f rest old =
    let gone : is_new known f.name ≡ false = ap not old in
    ap (λ l. known ++ l) (ap (λ b. cond b (f.name ∷ filter (is_new known) (filter (other_than f.name) (names_of rest))) (filter (is_new known) (filter (other_than f.name) (names_of rest)))) gone
    ∙ known_skip known f.name (names_of rest) gone)

new_gathered : (known : List (List ℕ)) (f : FindingParts) (rest : List FindingParts) → list_any (bytes_eq f.name) known ≡ false → gathered known (f ∷ rest) ≡ gathered (known ++ f.name ∷ []) rest
unfolding names_of
new_gathered known f rest new =
    ap (λ l. known ++ l) (ap (λ b. cond b (f.name ∷ filter (is_new known) (filter (other_than f.name) (names_of rest))) (filter (is_new known) (filter (other_than f.name) (names_of rest)))) (ap not new)
    ∙ ap (λ l. f.name ∷ l) (new_skip known f.name (names_of rest)))
    ∙ sym (append_assoc known (f.name ∷ []) (filter (is_new (known ++ f.name ∷ [])) (names_of rest)))

-- ---- one finding at a time

abbrev pub now_of : Bor (List ℕ) → List ℕ
now_of it = it.now

here : (fs : List Finding) (i : ℕ) (x : Finding) → i < length fs → x ≡ get_or fs i x → drop i fs ≡ x ∷ drop (i + 1) fs
here fs i x within is =
    let next : suc i ≡ i + 1 = omega arith in
    drop-cons fs i x within ∙ ap₂ (λ y n. y ∷ drop n fs) (sym is) next

with_gathered : (known : List (List ℕ)) (f : FindingParts) (rest : List FindingParts) → gathered (with_name known f.name) rest ≡ gathered known (f ∷ rest)
with_gathered known f rest = go (list_any (bytes_eq f.name) known) refl
  where
    go : (said : Bool) → list_any (bytes_eq f.name) known ≡ said → gathered (if said then known else known ++ f.name ∷ []) rest ≡ gathered known (f ∷ rest)
    go true old = sym (old_gathered known f rest old)
    go false new = sym (new_gathered known f rest new)

pub with_step : (known : List (List ℕ)) (fs : List Finding) (i : ℕ) (x : Finding) → i < length fs → x ≡ get_or fs i x
    → gathered (with_name known (finding_parts x).name) (map finding_parts (drop (i + 1) fs)) ≡ gathered known (map finding_parts (drop i fs))
with_step known fs i x within is = with_gathered known (finding_parts x) (map finding_parts (drop (i + 1) fs)) ∙ sym (ap (λ l. gathered known (map finding_parts l)) (here fs i x within is))

pub all_gathered : (known : List (List ℕ)) (fs : List Finding) (i : ℕ) → length fs ≤ i → gathered known (map finding_parts (drop i fs)) ≡ known
unfolding names_of
all_gathered known fs i past = ap (λ l. gathered known (map finding_parts l)) (drop_all i fs past) ∙ append-nil known

-- ---- names in a set

pub knows_none : (set : BTreeSet (Bor (List ℕ))) → set.keys ≡ [] → Knows set []
knows_none set none name = ap (list_any (is_at (name_order name))) none

pub names_kept : (names : List (Bor (List ℕ))) (name : Bor (List ℕ)) → list_any (bytes_eq name.now) (map now_of names) ≡ true → map now_of names ≡ with_name (map now_of names) name.now
names_kept names name old = sym (ap (λ b. if b then map now_of names else map now_of names ++ name.now ∷ []) old)

pub names_added : (names : List (Bor (List ℕ))) (name : Bor (List ℕ)) → list_any (bytes_eq name.now) (map now_of names) ≡ false
    → map now_of (names ++ name ∷ []) ≡ with_name (map now_of names) name.now
names_added names name new = map_push now_of names name ∙ sym (ap (λ b. if b then map now_of names else map now_of names ++ name.now ∷ []) new)

any_same : (names : List (List ℕ)) (a b : List ℕ) → bytes_eq a b ≡ true → list_any (bytes_eq b) names ≡ list_any (bytes_eq a) names
any_same names a b same = ap (λ l. list_any (bytes_eq l) names) (sym ((bytes_eq-Decides a b).0 same))

-- a set with one more name knows one more
pub knows_more : (old new : BTreeSet (Bor (List ℕ))) (names : List (List ℕ)) (name : Bor (List ℕ)) → Knows old names
    → ((q : Bor (List ℕ)) → contains name_order new q ≡ cond (is_eq (name_order name q)) true (contains name_order old q))
    → Knows new (with_name names name.now)
knows_more old new names name known updates q =
    updates q ∙ ap (λ b. cond b true (contains name_order old q)) (is_eq-slice_cmp name.now q.now)
    ∙ go (bytes_eq name.now q.now) refl (list_any (bytes_eq name.now) names) refl
  where
    or_true : (b : Bool) → (b || true) ≡ true
    or_true true = refl
    or_true false = refl

    or_false : (b : Bool) → (b || false) ≡ b
    or_false true = refl
    or_false false = refl

    more : list_any (bytes_eq q.now) (names ++ name.now ∷ []) ≡ (list_any (bytes_eq q.now) names || (bytes_eq q.now name.now || false))
    more = any_more (bytes_eq q.now) names name.now

    go : (same : Bool) → bytes_eq name.now q.now ≡ same → (there : Bool) → list_any (bytes_eq name.now) names ≡ there
        → cond same true (contains name_order old q) ≡ list_any (bytes_eq q.now) (if there then names else names ++ name.now ∷ [])
    go true same true there = sym (any_same names name.now q.now same ∙ there)
    go true same false there =
        sym (more ∙ ap (λ b. list_any (bytes_eq q.now) names || (b || false)) (nat_list_eq_equiv.symm q.now name.now ∙ same) ∙ or_true (list_any (bytes_eq q.now) names))
    go false other true there = known q
    go false other false there =
        known q ∙ sym (more ∙ ap (λ b. list_any (bytes_eq q.now) names || (b || false)) (nat_list_eq_equiv.symm q.now name.now ∙ other) ∙ or_false (list_any (bytes_eq q.now) names))

pub knows_added : (old new : BTreeSet (Bor (List ℕ))) (names more : List (Bor (List ℕ))) (name : Bor (List ℕ)) → Knows old (map now_of names) → contains name_order old name ≡ false
    → ((q : Bor (List ℕ)) → contains name_order new q ≡ cond (is_eq (name_order name q)) true (contains name_order old q)) → more ≡ names ++ name ∷ []
    → Knows new (map now_of more)
knows_added old new names more name known absent updates pushed =
    let unknown : list_any (bytes_eq name.now) (map now_of names) ≡ false = sym (known name) ∙ absent in
    subst (Knows new) (sym (ap (map now_of) pushed ∙ names_added names name unknown)) (knows_more old new (map now_of names) name known updates)

-- ---- findings from the first on

pub more_parts : (fs : List Finding) (i : ℕ) (x : Finding) → i < length fs → x ≡ get_or fs i x
    → map finding_parts (take (i + 1) fs) ≡ map finding_parts (take i fs) ++ finding_parts x ∷ []
more_parts fs i x within is = ap (map finding_parts) (take_more fs i x within ∙ ap (λ y. take i fs ++ y ∷ []) (sym is)) ∙ map_push finding_parts (take i fs) x

along_push : {A : Type 0} (give : List FindingParts → FindingParts → List A) (earlier xs : List FindingParts) (x : FindingParts)
    → along give earlier (xs ++ x ∷ []) ≡ along give earlier xs ++ give (earlier ++ xs) x
unfolding along
along_push give earlier [] x = append-nil (give earlier x) ∙ ap (λ l. give l x) (sym (append-nil earlier))
along_push give earlier (f ∷ rest) x =
    ap (λ l. give earlier f ++ l) (along_push give (earlier ++ f ∷ []) rest x ∙ ap (λ l. along give (earlier ++ f ∷ []) rest ++ give l x) (append_assoc earlier (f ∷ []) rest))
    ∙ sym (append_assoc (give earlier f) (along give (earlier ++ f ∷ []) rest) (give (earlier ++ f ∷ rest) x))

-- what is given along one finding more
pub along_more : {A : Type 0} (give : List FindingParts → FindingParts → List A) (fs : List Finding) (i : ℕ) (x : Finding) → i < length fs → x ≡ get_or fs i x
    → along give [] (map finding_parts (take (i + 1) fs)) ≡ along give [] (map finding_parts (take i fs)) ++ give (map finding_parts (take i fs)) (finding_parts x)
along_more give fs i x within is = ap (along give []) (more_parts fs i x within is) ∙ along_push give [] (map finding_parts (take i fs)) (finding_parts x)

-- ---- findings by their files

pub none_by_file : {Y : Type 0} (files : BTreeMap (Bor (List ℕ)) (Vec (Bor Finding) Y)) → files.entries ≡ [] → AreByFile files []
none_by_file files none name = ap (λ l. map (λ it. finding_parts it.now) (option_map_or (λ own. own.items) (lookup (is_at (name_order name)) l) [])) none

pub more_by_file : {Y : Type 0} (old new : BTreeMap (Bor (List ℕ)) (Vec (Bor Finding) Y)) (fs : List Finding) (i : ℕ) (x : Finding) (name : Bor (List ℕ)) (item : Bor Finding)
    → i < length fs → x ≡ get_or fs i x → name.now ≡ (finding_parts x).name → item.now ≡ x
    → AreByFile old (map finding_parts (take i fs))
    → ((q : Bor (List ℕ)) → own_in new q ≡ cond (is_eq (name_order name q)) (own_in old name ++ item ∷ []) (own_in old q))
    → AreByFile new (map finding_parts (take (i + 1) fs))
more_by_file old new fs i x name item within is named same known put q =
    ap (map view) (put q ∙ ap (λ b. cond b (own_in old name ++ item ∷ []) (own_in old q)) (is_eq-slice_cmp name.now q.now ∙ ap (λ l. bytes_eq l q.now) named))
    ∙ go (is_on q.now (finding_parts x)) refl
    ∙ sym (ap (filter (is_on q.now)) (more_parts fs i x within is) ∙ filter-append (is_on q.now) before (finding_parts x ∷ []))
  where
    view : Bor Finding → FindingParts
    view it = finding_parts it.now

    before : List FindingParts
    before = map finding_parts (take i fs)

    go : (said : Bool) → is_on q.now (finding_parts x) ≡ said
        → map view (cond said (own_in old name ++ item ∷ []) (own_in old q)) ≡ filter (is_on q.now) before ++ cond said (finding_parts x ∷ []) []
    go true is_so =
        map_push view (own_in old name) item
        ∙ ap₂ (λ l y. l ++ finding_parts y ∷ []) (known name ∙ ap (λ l. filter (is_on l) before) (named ∙ (bytes_eq-Decides (finding_parts x).name q.now).0 is_so)) same
    go false not_so = known q ∙ sym (append-nil (filter (is_on q.now) before))

-- the files of the names, from what stands under them
pub each_file : {Y : Type 0} (text : List ℕ → List FindingParts → List ℕ) (files : BTreeMap (Bor (List ℕ)) (Vec (Bor Finding) Y)) (fs : List FindingParts) → AreByFile files fs
    → (names : List (Bor (List ℕ)))
    → flat_map (λ name. text name.now (own_parts files name)) names ≡ flat_map (λ name. text name (filter (is_on name) fs)) (map now_of names)
each_file text files fs known [] = refl
each_file text files fs known (name ∷ rest) = ap₂ (λ own more. text name.now own ++ more) (known name) (each_file text files fs known rest)

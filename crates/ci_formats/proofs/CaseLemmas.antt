-- The cases of each file, and the suites that are made of them.
use Rattle.std.proofs.Common.{◌≡◌, ℕ, ◌+◌, ◌<◌, ◌==◌, Bool, true, false, cond, List, [], ◌∷◌, ◌++◌, BTreeMap, Bor, append-nil, length, length-append, map, take, get_or, refl, sym, ap, ap₂, ◌∙◌, arith}
use Rattle.std.specs.Prelude.{Vec}
use Rattle.std.specs.BTreeMap.{is_at}
use Rattle.std.specs.List.{count_by, flat_map}
use Rattle.std.specs.Map.{lookup}
use Rattle.std.specs.Option.{option_map_or}
use Rattle.std.specs.Ordering.{is_eq}
use Rattle.std.specs.Str.{bytes_eq}
use Rattle.std.proofs.lemmas.Grind.{flat_map-append}
use Rattle.std.proofs.lemmas.List.{map_push}
use Rattle.std.proofs.lemmas.List.Sums.{sum_by-cons}
use Rattle.std.proofs.lemmas.Map.Text.{is_eq-slice_cmp}
use Rattle.std.proofs.lemmas.Slice.Eq.{bytes_eq-Decides}
use Rattle.ci_formats.specs.declared.finding.Finding.{Finding}
use Rattle.ci_formats.specs.Finding.{FindingParts, finding_parts}
use Rattle.ci_formats.specs.declared.junit.Case.{Case}
use Rattle.found_reports.specs.Names.{name_order}
use Rattle.ci_formats.specs.Files.{along, is_on, names_of, own_in}
use Rattle.ci_formats.specs.Junit.{AreCasesByFile, Numbered, case_on, is_same_case, numbered, numbered_on, numbered_text, own_cases, suite_element, suite_of, suite_with, suites_of}
use Rattle.ci_formats.proofs.FilesLemmas.{along_more, now_of}

pub no_cases : {Y : Type 0} (files : BTreeMap (Bor (List ℕ)) (Vec Case Y)) → files.entries ≡ [] → AreCasesByFile files []
unfolding along
no_cases files none name = ap (λ l. map numbered (option_map_or (λ own. own.items) (lookup (is_at (name_order name)) l) [])) none

pub more_cases : {Y : Type 0} (old new : BTreeMap (Bor (List ℕ)) (Vec Case Y)) (fs : List Finding) (i : ℕ) (x : Finding) (name : Bor (List ℕ)) (item : Case) (before : ℕ)
    → i < length fs → x ≡ get_or fs i x → name.now ≡ (finding_parts x).name → item.finding.now ≡ x → item.number ≡ before + 1
    → before ≡ count_by (is_same_case (finding_parts x)) (map finding_parts (take i fs))
    → AreCasesByFile old (map finding_parts (take i fs))
    → ((q : Bor (List ℕ)) → own_in new q ≡ cond (is_eq (name_order name q)) (own_in old name ++ item ∷ []) (own_in old q))
    → AreCasesByFile new (map finding_parts (take (i + 1) fs))
more_cases old new fs i x name item before within is named same next counted known put q =
    ap (map numbered) (put q ∙ ap (λ b. cond b (own_in old name ++ item ∷ []) (own_in old q)) (is_eq-slice_cmp name.now q.now ∙ ap (λ l. bytes_eq l q.now) named))
    ∙ go (is_on q.now (finding_parts x)) refl
    ∙ sym (along_more (numbered_on q.now) fs i x within is)
  where
    earlier : List FindingParts
    earlier = map finding_parts (take i fs)

    one : Numbered
    one = record { finding = finding_parts x; number = count_by (is_same_case (finding_parts x)) earlier + 1 }

    is_one : numbered item ≡ one
    is_one = λ i. record { finding = finding_parts (same i); number = (next ∙ ap (λ n. n + 1) counted) i }

    go : (said : Bool) → is_on q.now (finding_parts x) ≡ said
        → map numbered (cond said (own_in old name ++ item ∷ []) (own_in old q)) ≡ along (numbered_on q.now) [] earlier ++ cond said (one ∷ []) []
    go true is_so =
        map_push numbered (own_in old name) item
        ∙ ap₂ (λ l y. l ++ y ∷ []) (known name ∙ ap (λ l. along (numbered_on l) [] earlier) (named ∙ (bytes_eq-Decides (finding_parts x).name q.now).0 is_so)) is_one
    go false not_so = known q ∙ sym (append-nil (along (numbered_on q.now) [] earlier))

-- as many cases as there are findings on the file
how_many : (name : List ℕ) (earlier rest : List FindingParts) → length (along (numbered_on name) earlier rest) ≡ count_by (is_on name) rest
unfolding along
how_many name earlier [] = refl
how_many name earlier (f ∷ rest) = go (is_on name f) (how_many name (earlier ++ f ∷ []) rest) ∙ sym (sum_by-cons (λ x. cond (is_on name x) 1 0) f rest)
  where
    go : (said : Bool) → length (along (numbered_on name) (earlier ++ f ∷ []) rest) ≡ count_by (is_on name) rest
        → length (cond said (record { finding = f; number = count_by (is_same_case f) earlier + 1 } ∷ []) [] ++ along (numbered_on name) (earlier ++ f ∷ []) rest)
        ≡ cond said 1 0 + count_by (is_on name) rest
    go true later = omega (arith, later)
    go false later = omega (arith, later)

texts_of : (name : List ℕ) (earlier rest : List FindingParts) → flat_map numbered_text (along (numbered_on name) earlier rest) ≡ along (case_on name) earlier rest
unfolding along
texts_of name earlier [] = refl
texts_of name earlier (f ∷ rest) =
    flat_map-append numbered_text (numbered_on name earlier f) (along (numbered_on name) (earlier ++ f ∷ []) rest)
    ∙ ap₂ (λ a b. a ++ b) (go (is_on name f)) (texts_of name (earlier ++ f ∷ []) rest)
  where
    go : (said : Bool) → flat_map numbered_text (cond said (record { finding = f; number = count_by (is_same_case f) earlier + 1 } ∷ []) [])
        ≡ cond said (numbered_text (record { finding = f; number = count_by (is_same_case f) earlier + 1 })) []
    go true = append-nil (numbered_text (record { finding = f; number = count_by (is_same_case f) earlier + 1 }))
    go false = refl

suite_is : (name : List ℕ) (fs : List FindingParts) (own : List Numbered) → own ≡ along (numbered_on name) [] fs → suite_of name own ≡ suite_element fs name
suite_is name fs own is = ap (suite_of name) is ∙ ap₂ (suite_with name) (how_many name [] fs) (texts_of name [] fs)

-- the suites of the names, from the cases under them
pub each_suite : {Y : Type 0} (files : BTreeMap (Bor (List ℕ)) (Vec Case Y)) (fs : List FindingParts) → AreCasesByFile files fs
    → (names : List (Bor (List ℕ))) → flat_map (λ name. suite_of name.now (own_cases files name)) names ≡ flat_map (suite_element fs) (map now_of names)
each_suite files fs known [] = refl
each_suite files fs known (name ∷ rest) = ap₂ (λ one more. one ++ more) (suite_is name.now fs (own_cases files name) (known name)) (each_suite files fs known rest)

pub some_suites : (fs : List Finding) → (length fs == 0) ≡ false → suites_of (map finding_parts fs) ≡ flat_map (suite_element (map finding_parts fs)) (names_of (map finding_parts fs))
some_suites [] none = cc
some_suites (f ∷ rest) none = refl

-- Names that are counted along, their rows, and rows in order.
use Rattle.std.proofs.Common.{◌≡◌, ℕ, ◌+◌, ◌-◌, ◌<◌, ◌≤◌, Bool, true, false, cond, ◌==◌, Bor, List, [], ◌∷◌, ◌++◌, BTreeMap, length, map, take, get_or, Some, unwrap_or, refl, sym, subst, ap, ◌∙◌, ◌^◌, arith}
use Rattle.std.specs.BTreeMap.{get, is_at}
use Rattle.std.specs.List.{count_by, flat_map}
use Rattle.std.specs.List.Sorted.{IsPermutation, IsSorted, IsSortedBy}
use Rattle.std.specs.Map.{lookup}
use Rattle.std.specs.Prelude.{Vec, nat_le}
use Rattle.std.specs.Result.{IfOk}
use Rattle.std.specs.declared.result.Result.{Result}
use Rattle.std.specs.declared.result.Result.TheVariants.{Ok, Err}
use Rattle.std.proofs.lemmas.Bool.{lt-leb, ne_eqb}
use Rattle.std.specs.Cmp.Lexicographic.{nat_list_eq_equiv}
use Rattle.std.specs.Ordering.{is_eq, is_lt}
use Rattle.std.specs.Str.{bytes_eq}
use Rattle.std.proofs.lemmas.List.{take-map, take_all, take_more, map_push, length-map, length-take-le, get_or-map}
use Rattle.std.proofs.lemmas.List.Elements.{All-map}
use Rattle.std.proofs.lemmas.List.Sorted.{All-permutation, IsPermutation-map, sum_by-IsPermutation}
use Rattle.std.proofs.lemmas.List.Sums.{count_by-le-length, sum_by-cons, sum_by_push}
use Rattle.std.proofs.lemmas.Map.Text.{is_eq-slice_cmp}
use Rattle.std.proofs.lemmas.Slice.Eq.{bytes_eq-Decides}
use Rattle.found_reports.specs.Names.{name_order}
use Rattle.finding_summaries.specs.declared.ranking.Row.{Row}
use Rattle.finding_summaries.specs.Markdown.{left_out, more_row, row_text, rows_text}
use Rattle.finding_summaries.specs.Ranking.{AreEach, AreTallied, HasCounted, IsRanking, Ranked, count_in, is_named, one_of_any, rank_order, row_in, row_parts, times}

abbrev pub now_of : Bor (List ℕ) → List ℕ
now_of it = it.now

-- ---- one more of a list that is gone along

more_of : {X Y : Type 0} (f : X → Y) (xs : List X) (i : ℕ) (d : X) → i < length xs → map f (take (i + 1) xs) ≡ map f (take i xs) ++ f (get_or xs i d) ∷ []
more_of f xs i d within = ap (map f) (take_more xs i d within) ∙ map_push f (take i xs) (get_or xs i d)

times_push : (name : List ℕ) (xs : List (List ℕ)) (x : List ℕ) → times name (xs ++ x ∷ []) ≡ times name xs + cond (bytes_eq name x) 1 0
times_push name xs x = sum_by_push (λ y. cond (bytes_eq name y) 1 0) xs x

-- ---- names that are counted

pub none_counted : (counts : BTreeMap (Bor (List ℕ)) ℕ) → counts.entries ≡ [] → HasCounted counts []
none_counted counts none name = ap (λ l. unwrap_or (lookup (is_at (name_order name)) l) 0) none

pub none_each : (each : List (Bor (List ℕ))) → each ≡ [] → AreEach (map now_of each) []
none_each each none name = ap (λ l. times name (map now_of l)) none

pub room_left : (counts : BTreeMap (Bor (List ℕ)) ℕ) (name : Bor (List ℕ)) (names : List (Bor (List ℕ))) (i : ℕ) → HasCounted counts (map now_of (take i names)) → i < length names
    → length names < 2 ^ 64 → count_in counts name < 18446744073709551615
room_left counts name names i counted within small =
    omega (
      arith,
      counted name,
      count_by-le-length (bytes_eq name.now) (map now_of (take i names)),
      length-map (take i names) now_of,
      length-take-le i names (omega (arith, within)),
      within,
      small,
    )

pub counted_more : (old new : BTreeMap (Bor (List ℕ)) ℕ) (names : List (Bor (List ℕ))) (i : ℕ) (d : Bor (List ℕ)) → i < length names
    → ((other : Bor (List ℕ)) → get name_order new other ≡ cond (is_eq (name_order (get_or names i d) other)) (Some (count_in old (get_or names i d) + 1)) (get name_order old other))
    → HasCounted old (map now_of (take i names)) → HasCounted new (map now_of (take (i + 1) names))
counted_more old new names i d within updates counted other =
    ap (λ o. unwrap_or o 0) (updates other ∙ ap (λ b. cond b (Some (count_in old name + 1)) (get name_order old other)) (is_eq-slice_cmp name.now other.now))
    ∙ go (bytes_eq name.now other.now) refl
    ∙ ap (λ b. times other.now xs + cond b 1 0) (nat_list_eq_equiv.symm name.now other.now)
    ∙ sym (ap (times other.now) (more_of now_of names i d within) ∙ times_push other.now xs name.now)
  where
    name : Bor (List ℕ)
    name = get_or names i d

    xs : List (List ℕ)
    xs = map now_of (take i names)

    go : (said : Bool) → bytes_eq name.now other.now ≡ said → unwrap_or (cond said (Some (count_in old name + 1)) (get name_order old other)) 0 ≡ times other.now xs + cond said 1 0
    go true alike = ap (λ n. n + 1) (counted name ∙ ap (λ l. times l xs) ((bytes_eq-Decides name.now other.now).0 alike))
    go false differ = counted other ∙ omega arith

each_step : (other name : List ℕ) (each each2 xs : List (List ℕ)) → AreEach each xs → each2 ≡ cond (times name xs == 0) (each ++ name ∷ []) each → times other each2 ≡ one_of_any (times other xs + cond (bytes_eq other name) 1 0)
each_step other name each each2 xs once is = ap (times other) is ∙ go (bytes_eq other name) refl
  where
    some_of : (n : ℕ) → one_of_any (n + 1) ≡ 1
    some_of n = ap (λ b. cond b 0 1) (ne_eqb (n + 1) 0 (λ e. omega (arith, e)))

    known : (n : ℕ) → (n == 0) ≡ false → one_of_any n ≡ one_of_any (n + 1)
    known n some = ap (λ b. cond b 0 1) some ∙ sym (some_of n)

    fresh : (n : ℕ) → (n == 0) ≡ true → one_of_any n + 1 ≡ one_of_any (n + 1)
    fresh n none = ap (λ b. cond b 0 1 + 1) none ∙ sym (some_of n)

    mine : bytes_eq other name ≡ true → (none : Bool) → (times name xs == 0) ≡ none → times other (cond none (each ++ name ∷ []) each) ≡ one_of_any (times other xs + 1)
    mine same true none =
        let eq : other ≡ name = (bytes_eq-Decides other name).0 same in
        times_push other each name ∙ ap (λ b. times other each + cond b 1 0) same ∙ ap (λ n. n + 1) (once other) ∙ fresh (times other xs) (ap (λ l. times l xs == 0) eq ∙ none)
    mine same false some =
        let eq : other ≡ name = (bytes_eq-Decides other name).0 same in
        once other ∙ known (times other xs) (ap (λ l. times l xs == 0) eq ∙ some)

    others : bytes_eq other name ≡ false → (none : Bool) → times other (cond none (each ++ name ∷ []) each) ≡ one_of_any (times other xs)
    others differ true = times_push other each name ∙ ap (λ b. times other each + cond b 1 0) differ ∙ omega arith ∙ once other
    others differ false = once other

    go : (said : Bool) → bytes_eq other name ≡ said → times other (cond (times name xs == 0) (each ++ name ∷ []) each) ≡ one_of_any (times other xs + cond said 1 0)
    go true same = mine same (times name xs == 0) refl
    go false differ = others differ (times name xs == 0) ∙ ap one_of_any (omega arith)

pub each_more : (counts : BTreeMap (Bor (List ℕ)) ℕ) (names each each2 : List (Bor (List ℕ))) (i : ℕ) (d : Bor (List ℕ)) → i < length names
    → map now_of each2 ≡ cond (count_in counts (get_or names i d) == 0) (map now_of each ++ (get_or names i d).now ∷ []) (map now_of each) → HasCounted counts (map now_of (take i names))
    → AreEach (map now_of each) (map now_of (take i names)) → AreEach (map now_of each2) (map now_of (take (i + 1) names))
each_more counts names each each2 i d within added counted once other =
    let xs = map now_of (take i names) in
    let name = get_or names i d in
    each_step other name.now (map now_of each) (map now_of each2) xs once (added ∙ ap (λ n. cond (n == 0) (map now_of each ++ name.now ∷ []) (map now_of each)) (counted name))
    ∙ ap one_of_any (sym (ap (times other) (more_of now_of names i d within) ∙ times_push other xs name.now))

-- ---- their rows

rows_once : (counts : BTreeMap (Bor (List ℕ)) ℕ) (name : List ℕ) (each : List (Bor (List ℕ))) → count_by (is_named name) (map (row_in counts) each) ≡ times name (map now_of each)
rows_once counts name [] = refl
rows_once counts name (it ∷ rest) =
    sum_by-cons (λ row. cond (is_named name row) 1 0) (row_in counts it) (map (row_in counts) rest)
    ∙ ap (λ n. cond (bytes_eq name it.now) 1 0 + n) (rows_once counts name rest)
    ∙ sym (sum_by-cons (λ l. cond (bytes_eq name l) 1 0) it.now (map now_of rest))

pub tallied_rows : (counts : BTreeMap (Bor (List ℕ)) ℕ) (names : List (List ℕ)) (each : List (Bor (List ℕ))) → HasCounted counts names → AreEach (map now_of each) names → AreTallied names (map (row_in counts) each)
tallied_rows counts names each counted once =
    record {
      once = λ name. rows_once counts name each ∙ once name;
      counted = All-map (λ row. row.count ≡ times row.name names) (row_in counts) each (λ k d within. counted (get_or each k d));
    }

tallied_same : (counts : BTreeMap (Bor (List ℕ)) ℕ) (names : List (List ℕ)) (each : List (Bor (List ℕ))) (rows : List Ranked) → HasCounted counts names → AreEach (map now_of each) names
    → rows ≡ map (row_in counts) each → AreTallied names rows
tallied_same counts names each rows counted once is = subst (AreTallied names) (sym is) (tallied_rows counts names each counted once)

pub tallied_all : {E Y : Type 0} (counts : BTreeMap (Bor (List ℕ)) ℕ) (names each each2 : List (Bor (List ℕ))) (i : ℕ) → length names ≤ i → HasCounted counts (map now_of (take i names))
    → AreEach (map now_of each) (map now_of (take i names)) → each2 ≡ each → (result : Result (Vec Row Y) E) → IfOk result (λ rows. map row_parts rows.items ≡ map (row_in counts) each2)
    → IfOk result (λ rows. AreTallied (map now_of names) (map row_parts rows.items))
tallied_all counts names each each2 i past counted once same (Ok rows) is =
    let whole = take_all i names past in
    tallied_same counts (map now_of names) each (map row_parts rows.items) (subst (λ l. HasCounted counts (map now_of l)) whole counted) (subst (λ l. AreEach (map now_of each) (map now_of l)) whole once)
    (is ∙ ap (map (row_in counts)) same)
tallied_all counts names each each2 i past counted once same (Err error) is = is

-- ---- rows in order

sorted_map : (rows : List Row) → IsSortedBy (λ a b. is_lt (rank_order (row_parts a) (row_parts b))) rows → IsSorted rank_order (map row_parts rows)
sorted_map [] up k d low high = absurd (omega arith)
sorted_map (row ∷ rest) up k d low high =
    let all = row ∷ rest in
    let long = length-map all row_parts in
    let next : k + 1 < length all = omega (arith, long, high) in
    let here : k < length all = omega (arith, next) in
    ap (λ a. is_lt (rank_order a (get_or (map row_parts all) k d))) (get_or-map row_parts all (k + 1) row d next)
    ∙ ap (λ b. is_lt (rank_order (row_parts (get_or all (k + 1) row)) b)) (get_or-map row_parts all k row d here)
    ∙ up k row low next

pub ranked_rows : (names : List (List ℕ)) (old new : List Row) → AreTallied names (map row_parts old) → IsPermutation old new → IsSortedBy (λ a b. is_lt (rank_order (row_parts a) (row_parts b))) new
    → IsRanking names (map row_parts new)
ranked_rows names old new tallied same up =
    let moved = IsPermutation-map row_parts old new same in
    record {
      tallied =
          record {
            once = λ name. sum_by-IsPermutation (λ row. cond (is_named name row) 1 0) (map row_parts old) (map row_parts new) moved ∙ tallied.once name;
            counted = All-permutation (λ row. row.count ≡ times row.name names) (map row_parts old) (map row_parts new) moved tallied.counted;
          };
      sorted = sorted_map new up;
    }

-- ---- a table that is cut

pub cut_rows : (all : ℕ) (rows : List Row) → 50 < length rows
    → rows_text all (map row_parts rows) ≡ flat_map row_text (map row_parts (take 50 rows)) ++ more_row (length rows - 50) (left_out all (map row_parts (take 50 rows)))
unfolding rows_text
cut_rows all rows long =
    ap (λ n. cond (nat_le n 50) (flat_map row_text (map row_parts rows)) (flat_map row_text (take 50 (map row_parts rows)) ++ more_row (n - 50) (left_out all (take 50 (map row_parts rows))))) (length-map rows row_parts)
    ∙ ap (λ b. cond b (flat_map row_text (map row_parts rows)) (flat_map row_text (take 50 (map row_parts rows)) ++ more_row (length rows - 50) (left_out all (take 50 (map row_parts rows))))) (lt-leb (length rows) 50 long)
    ∙ ap (λ l. flat_map row_text l ++ more_row (length rows - 50) (left_out all l)) (take-map row_parts 50 rows)

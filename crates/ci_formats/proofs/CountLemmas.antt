-- Keys that are counted in a map, and findings that are numbered by it.
use Rattle.std.proofs.Common.{◌≡◌, ℕ, ◌+◌, ◌<◌, ◌≤◌, Bool, true, false, cond, ◌&&◌, ◌==◌, List, [], ◌∷◌, ◌++◌, BTreeMap, length, map, take, get_or, Some, unwrap_or, refl, sym, ap, ap₂, ◌∙◌, ◌⊎◌, inl, inr, ◌^◌, arith}
use Rattle.std.specs.BTreeMap.{get, is_at}
use Rattle.std.specs.Cmp.{tied_then}
use Rattle.std.specs.Cmp.Lexicographic.{slice_cmp}
use Rattle.std.specs.declared.cmp.Ordering.{Ordering}
use Rattle.std.specs.declared.cmp.Ordering.TheVariants.{Equal, Greater, Less}
use Rattle.std.specs.List.{count_by}
use Rattle.std.specs.Map.{lookup}
use Rattle.std.specs.Ordering.{is_eq, nat_cmp, ordering_then}
use Rattle.std.specs.Str.{bytes_eq}
use Rattle.std.proofs.lemmas.Bool.{and_parts, cases_lt, eqb-true, le-ltb, lt-ltb, ne_eqb}
use Rattle.std.proofs.lemmas.List.{length-map, length-take-le}
use Rattle.std.proofs.lemmas.List.Sums.{count_by-le-length, sum_by_push}
use Rattle.std.proofs.lemmas.Map.Text.{is_eq-slice_cmp}
use Rattle.std.proofs.lemmas.Slice.Eq.{bytes_eq-Decides}
use Rattle.ci_formats.specs.declared.finding.Finding.{Finding}
use Rattle.ci_formats.specs.Finding.{FindingParts, finding_parts}
use Rattle.ci_formats.specs.declared.gitlab.IssueKey.{IssueKey}
use Rattle.ci_formats.specs.declared.junit.CaseKey.{CaseKey}
use Rattle.ci_formats.specs.Gitlab as gitlab
use Rattle.ci_formats.specs.Junit as junit
use Rattle.ci_formats.proofs.FilesLemmas.{more_parts}

-- ---- any keys, that are like some findings

module _ {K : Type 0} (cmp : K → K → Ordering) (like : K → FindingParts → Bool) where
  -- the map says of each key how many of these are like it
  abbrev pub HasCounted : BTreeMap K ℕ → List FindingParts → Type 0
  HasCounted m xs = (key : K) → unwrap_or (get cmp m key) 0 ≡ count_by (like key) xs

  pub none_counted : (m : BTreeMap K ℕ) → m.entries ≡ [] → HasCounted m []
  none_counted m none key = ap (λ l. unwrap_or (lookup (is_at (cmp key)) l) 0) none

  -- a count is less than there are findings, so one more can be counted
  pub count_room : (m : BTreeMap K ℕ) (key : K) (fs : List Finding) (i : ℕ) → HasCounted m (map finding_parts (take i fs)) → i < length fs → length fs < 2 ^ 64
      → unwrap_or (get cmp m key) 0 < 18446744073709551615
  count_room m key fs i counted within small =
      omega (arith, counted key, count_by-le-length (like key) (map finding_parts (take i fs)), length-map (take i fs) finding_parts, length-take-le i fs (omega (arith, within)), within, small)

  one_counted : (m n : BTreeMap K ℕ) (key : K) (xs : List FindingParts) (x : FindingParts) (before : ℕ)
      → ((q : K) → is_eq (cmp key q) ≡ like q x) → ((q : K) → like q x ≡ true → count_by (like q) xs ≡ count_by (like key) xs)
      → HasCounted m xs → before ≡ unwrap_or (get cmp m key) 0
      → ((q : K) → get cmp n q ≡ cond (is_eq (cmp key q)) (Some (before + 1)) (get cmp m q))
      → HasCounted n (xs ++ x ∷ [])
  one_counted m n key xs x before alike same counted is updates q =
      ap (λ o. unwrap_or o 0) (updates q) ∙ ap (λ b. unwrap_or (cond b (Some (before + 1)) (get cmp m q)) 0) (alike q)
      ∙ go (like q x) refl ∙ sym (sum_by_push (λ y. cond (like q y) 1 0) xs x)
    where
      go : (said : Bool) → like q x ≡ said → unwrap_or (cond said (Some (before + 1)) (get cmp m q)) 0 ≡ count_by (like q) xs + cond said 1 0
      go true is_so = ap (λ n. n + 1) (is ∙ counted key ∙ sym (same q is_so))
      go false not_so = omega (arith, counted q)

  pub more_counted : (m n : BTreeMap K ℕ) (key : K) (fs : List Finding) (i : ℕ) (x : Finding) (before : ℕ)
      → i < length fs → x ≡ get_or fs i x
      → ((q : K) → is_eq (cmp key q) ≡ like q (finding_parts x))
      → ((q : K) → like q (finding_parts x) ≡ true → count_by (like q) (map finding_parts (take i fs)) ≡ count_by (like key) (map finding_parts (take i fs)))
      → HasCounted m (map finding_parts (take i fs)) → before ≡ unwrap_or (get cmp m key) 0
      → ((q : K) → get cmp n q ≡ cond (is_eq (cmp key q)) (Some (before + 1)) (get cmp m q))
      → HasCounted n (map finding_parts (take (i + 1) fs))
  more_counted m n key fs i x before within is alike same counted said updates q =
      one_counted m n key (map finding_parts (take i fs)) (finding_parts x) before alike same counted said updates q
      ∙ ap (count_by (like q)) (sym (more_parts fs i x within is))

-- ---- keys of issues

abbrev pub issue_order : IssueKey → IssueKey → Ordering
issue_order a b = ordering_then (slice_cmp nat_cmp a.message.now b.message.now)
    (ordering_then (slice_cmp nat_cmp a.code.now b.code.now) (slice_cmp nat_cmp a.path.now b.path.now))

abbrev pub is_like_issue : IssueKey → FindingParts → Bool
is_like_issue key f = gitlab.are_same_parts (gitlab.key_parts key) (gitlab.issue_parts f)

abbrev pub IssuesCounted : BTreeMap IssueKey ℕ → List FindingParts → Type 0
IssuesCounted m xs = HasCounted issue_order is_like_issue m xs

issue_order_says : (key q : IssueKey) → is_eq (issue_order key q) ≡ gitlab.are_same_parts (gitlab.key_parts q) (gitlab.key_parts key)
issue_order_says key q =
    let message = slice_cmp nat_cmp key.message.now q.message.now in
    let code = slice_cmp nat_cmp key.code.now q.code.now in
    let path = slice_cmp nat_cmp key.path.now q.path.now in
    sym (tied_then message (ordering_then code path))
    ∙ ap₂ (λ s t. s && t) (is_eq-slice_cmp key.message.now q.message.now)
    (sym (tied_then code path) ∙ ap₂ (λ s t. s && t) (is_eq-slice_cmp key.code.now q.code.now) (is_eq-slice_cmp key.path.now q.path.now))

same_issue : (a b : gitlab.IssueParts) → gitlab.are_same_parts a b ≡ true → a ≡ b
same_issue a b same =
    let parts = and_parts (bytes_eq b.message a.message) (bytes_eq b.code a.code && bytes_eq b.path a.path) same in
    let others = and_parts (bytes_eq b.code a.code) (bytes_eq b.path a.path) parts.1 in
    let message : a.message ≡ b.message = sym ((bytes_eq-Decides b.message a.message).0 parts.0) in
    let code : a.code ≡ b.code = sym ((bytes_eq-Decides b.code a.code).0 others.0) in
    let path : a.path ≡ b.path = sym ((bytes_eq-Decides b.path a.path).0 others.1) in
    λ i. record { message = message i; code = code i; path = path i }

pub more_issues_counted : (m n : BTreeMap IssueKey ℕ) (key : IssueKey) (fs : List Finding) (i : ℕ) (x : Finding) (before : ℕ)
    → i < length fs → x ≡ get_or fs i x → gitlab.key_parts key ≡ gitlab.issue_parts (finding_parts x)
    → IssuesCounted m (map finding_parts (take i fs)) → before ≡ unwrap_or (get issue_order m key) 0
    → ((q : IssueKey) → get issue_order n q ≡ cond (is_eq (issue_order key q)) (Some (before + 1)) (get issue_order m q))
    → IssuesCounted n (map finding_parts (take (i + 1) fs))
more_issues_counted m n key fs i x before within is of counted said updates =
    let parts = gitlab.issue_parts (finding_parts x) in
    more_counted issue_order is_like_issue m n key fs i x before within is
    (λ q. issue_order_says key q ∙ ap (gitlab.are_same_parts (gitlab.key_parts q)) of)
    (λ q same. ap (λ p. count_by (λ f. gitlab.are_same_parts p (gitlab.issue_parts f)) (map finding_parts (take i fs))) (same_issue (gitlab.key_parts q) parts same ∙ sym of))
    counted said updates

pub issues_before : (m : BTreeMap IssueKey ℕ) (key : IssueKey) (x : FindingParts) (xs : List FindingParts) (before : ℕ)
    → gitlab.key_parts key ≡ gitlab.issue_parts x → IssuesCounted m xs → before ≡ unwrap_or (get issue_order m key) 0 → before ≡ count_by (gitlab.is_same_issue x) xs
issues_before m key x xs before of counted said = said ∙ counted key ∙ ap (λ p. count_by (λ f. gitlab.are_same_parts p (gitlab.issue_parts f)) xs) of

-- ---- keys of cases

abbrev pub case_order : CaseKey → CaseKey → Ordering
case_order a b = ordering_then (nat_cmp a.row b.row) (ordering_then (nat_cmp a.column b.column)
    (ordering_then (slice_cmp nat_cmp a.code.now b.code.now) (slice_cmp nat_cmp a.stem.now b.stem.now)))

abbrev pub is_like_case : CaseKey → FindingParts → Bool
is_like_case key f = junit.are_same_parts (junit.key_parts key) (junit.case_parts f)

abbrev pub CasesCounted : BTreeMap CaseKey ℕ → List FindingParts → Type 0
CasesCounted m xs = HasCounted case_order is_like_case m xs

nat_same : (a b : ℕ) → is_eq (nat_cmp a b) ≡ (a == b)
nat_same a b = go (cases_lt a b)
  where
    same : (said : Bool) → is_eq (cond said Equal Greater) ≡ said
    same true = refl
    same false = refl

    go : (a < b) ⊎ (b ≤ a) → is_eq (nat_cmp a b) ≡ (a == b)
    go (inl lt) = ap (λ t. is_eq (cond t Less (cond (a == b) Equal Greater))) (lt-ltb a b lt) ∙ sym (ne_eqb a b (λ e. omega (arith, e, lt)))
    go (inr ge) = ap (λ t. is_eq (cond t Less (cond (a == b) Equal Greater))) (le-ltb a b ge) ∙ same (a == b)

case_order_says : (key q : CaseKey) → is_eq (case_order key q) ≡ junit.are_same_parts (junit.key_parts q) (junit.key_parts key)
case_order_says key q =
    let row = nat_cmp key.row q.row in
    let column = nat_cmp key.column q.column in
    let code = slice_cmp nat_cmp key.code.now q.code.now in
    let stem = slice_cmp nat_cmp key.stem.now q.stem.now in
    sym (tied_then row (ordering_then column (ordering_then code stem)))
    ∙ ap₂ (λ s t. s && t) (nat_same key.row q.row)
    (sym (tied_then column (ordering_then code stem))
    ∙ ap₂ (λ s t. s && t) (nat_same key.column q.column)
    (sym (tied_then code stem) ∙ ap₂ (λ s t. s && t) (is_eq-slice_cmp key.code.now q.code.now) (is_eq-slice_cmp key.stem.now q.stem.now)))

same_case : (a b : junit.CaseParts) → junit.are_same_parts a b ≡ true → a ≡ b
same_case a b same =
    let parts = and_parts (b.row == a.row) ((b.column == a.column) && (bytes_eq b.code a.code && bytes_eq b.stem a.stem)) same in
    let others = and_parts (b.column == a.column) (bytes_eq b.code a.code && bytes_eq b.stem a.stem) parts.1 in
    let texts = and_parts (bytes_eq b.code a.code) (bytes_eq b.stem a.stem) others.1 in
    let row : a.row ≡ b.row = sym (eqb-true b.row a.row parts.0) in
    let column : a.column ≡ b.column = sym (eqb-true b.column a.column others.0) in
    let code : a.code ≡ b.code = sym ((bytes_eq-Decides b.code a.code).0 texts.0) in
    let stem : a.stem ≡ b.stem = sym ((bytes_eq-Decides b.stem a.stem).0 texts.1) in
    λ i. record { row = row i; column = column i; code = code i; stem = stem i }

pub more_cases_counted : (m n : BTreeMap CaseKey ℕ) (key : CaseKey) (fs : List Finding) (i : ℕ) (x : Finding) (before : ℕ)
    → i < length fs → x ≡ get_or fs i x → junit.key_parts key ≡ junit.case_parts (finding_parts x)
    → CasesCounted m (map finding_parts (take i fs)) → before ≡ unwrap_or (get case_order m key) 0
    → ((q : CaseKey) → get case_order n q ≡ cond (is_eq (case_order key q)) (Some (before + 1)) (get case_order m q))
    → CasesCounted n (map finding_parts (take (i + 1) fs))
more_cases_counted m n key fs i x before within is of counted said updates =
    let parts = junit.case_parts (finding_parts x) in
    more_counted case_order is_like_case m n key fs i x before within is
    (λ q. case_order_says key q ∙ ap (junit.are_same_parts (junit.key_parts q)) of)
    (λ q same. ap (λ p. count_by (λ f. junit.are_same_parts p (junit.case_parts f)) (map finding_parts (take i fs))) (same_case (junit.key_parts q) parts same ∙ sym of))
    counted said updates

pub cases_before : (m : BTreeMap CaseKey ℕ) (key : CaseKey) (x : FindingParts) (xs : List FindingParts) (before : ℕ)
    → junit.key_parts key ≡ junit.case_parts x → CasesCounted m xs → before ≡ unwrap_or (get case_order m key) 0 → before ≡ count_by (junit.is_same_case x) xs
cases_before m key x xs before of counted said = said ∙ counted key ∙ ap (λ p. count_by (λ f. junit.are_same_parts p (junit.case_parts f)) xs) of

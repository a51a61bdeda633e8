-- The hunks of a suggestion, one after another.
use Rattle.std.proofs.Common.{◌≡◌, ℕ, suc, ◌+◌, ◌-◌, ◌≤◌, List, [], ◌∷◌, ◌++◌, Bool, true, false, if◌then◌else◌, length, min, map, take, drop, get_or, ap, option_map, Option, Some, None, refl, sym, ◌∙◌, append_assoc, append-nil, arith}
use Rattle.std.specs.List.{prefix_len}
use Rattle.std.specs.Option.{option_and_then}
use Rattle.std.proofs.lemmas.Bool.Decides.{Decides-eqb}
use Rattle.std.proofs.lemmas.List.{drop-map, length-drop, length-take, take-map, take_rest}
use Rattle.found_reports.specs.Fixes.{ChangeParts}
use Rattle.line_reports.specs.declared.fixes.Suggested.{Suggested}
use Rattle.line_reports.specs.Fixes.{SuggestedParts, change_of, changes_of, hunks, is_of, suggested_parts, with_row}

-- changes, and those of more hunks after them
abbrev pub after : List ChangeParts → Option (List ChangeParts) → Option (List ChangeParts)
after before more = option_map (λ (changes : List ChangeParts). before ++ changes) more

pub after_none : (more : Option (List ChangeParts)) → after [] more ≡ more
after_none None = refl
after_none (Some changes) = refl

-- a hunk of a row and so many more, and the hunks of what is left
abbrev cut_at : SuggestedParts → List SuggestedParts → ℕ → List (List SuggestedParts)
cut_at it rows n = (it ∷ take n rows) ∷ hunks (drop n rows)

cut_by : (it next : SuggestedParts) (rows : List SuggestedParts) (same : Bool) → is_of it.gap next ≡ same → hunks (next ∷ rows) ≡ cut_at next rows (prefix_len (is_of next.gap) rows)
    → with_row it (cut_at next rows (prefix_len (is_of next.gap) rows)) ≡ cut_at it (next ∷ rows) (prefix_len (is_of it.gap) (next ∷ rows))
cut_by it next rows true test so =
    let m = prefix_len (is_of next.gap) rows in
    let gap : next.gap ≡ it.gap = (Decides-eqb next.gap it.gap).0 test in
    let more : suc m ≡ 1 + m = omega arith in
    let n : suc m ≡ prefix_len (is_of it.gap) (next ∷ rows) =
    more ∙ ap (λ g. 1 + prefix_len (is_of g) rows) gap ∙ sym (ap (λ b. if b then 1 + prefix_len (is_of it.gap) rows else 0) test) in
    ap (λ b. if b then (it ∷ next ∷ take m rows) ∷ hunks (drop m rows) else (it ∷ []) ∷ (next ∷ take m rows) ∷ hunks (drop m rows)) test ∙ ap (cut_at it (next ∷ rows)) n
cut_by it next rows false test so =
    let m = prefix_len (is_of next.gap) rows in
    let n : 0 ≡ prefix_len (is_of it.gap) (next ∷ rows) = sym (ap (λ b. if b then 1 + prefix_len (is_of it.gap) rows else 0) test) in
    ap (λ b. if b then (it ∷ next ∷ take m rows) ∷ hunks (drop m rows) else (it ∷ []) ∷ (next ∷ take m rows) ∷ hunks (drop m rows)) test
    ∙ ap (λ (more : List (List SuggestedParts)). (it ∷ []) ∷ more) (sym so) ∙ ap (cut_at it (next ∷ rows)) n

hunks_cut : (it : SuggestedParts) (rows : List SuggestedParts) → hunks (it ∷ rows) ≡ cut_at it rows (prefix_len (is_of it.gap) rows)
hunks_cut it [] = refl
hunks_cut it (next ∷ rows) = ap (with_row it) (hunks_cut next rows) ∙ cut_by it next rows (is_of it.gap next) refl (hunks_cut next rows)

-- the first hunk of rows, and the others
abbrev first_change : List ℕ → SuggestedParts → List SuggestedParts → Option ChangeParts → Option (List ChangeParts)
first_change text it rows found =
    option_and_then (λ change. option_map (λ changes. change ∷ changes) (changes_of text (hunks (drop (prefix_len (is_of it.gap) rows) rows)))) found

first_is : (text : List ℕ) (it : SuggestedParts) (rows : List SuggestedParts) (found : Option ChangeParts) → found ≡ change_of text (it ∷ take (prefix_len (is_of it.gap) rows) rows)
    → changes_of text (hunks (it ∷ rows)) ≡ first_change text it rows found
first_is text it rows found is = ap (changes_of text) (hunks_cut it rows) ∙ ap (first_change text it rows) (sym is)

after_more : (before : List ChangeParts) (change : ChangeParts) (more : Option (List ChangeParts)) → after (before ++ change ∷ []) more ≡ after before (option_map (λ changes. change ∷ changes) more)
after_more before change None = refl
after_more before change (Some changes) = ap Some (append_assoc before (change ∷ []) changes)

-- the first rows of a slice, as what they say
hunk_is : (it : Suggested) (rows : List Suggested) (n : ℕ) → map suggested_parts (take (n + 1) (it ∷ rows)) ≡ suggested_parts it ∷ take n (map suggested_parts rows)
hunk_is it rows n =
    let e : n + 1 ≡ suc n = omega arith in
    ap (λ k. map suggested_parts (take k (it ∷ rows))) e ∙ ap (λ (its : List SuggestedParts). suggested_parts it ∷ its) (sym (take-map suggested_parts n rows))

abbrev rest_of : List Suggested → List Suggested
rest_of left = take (length left - 1) (drop 1 left)

found_is : (text : List ℕ) (left hunk : List Suggested) (first : Suggested) (n : ℕ) (found : Option ChangeParts) → 1 ≤ length left → first ≡ get_or left 0 first
    → n ≡ prefix_len (is_of first.gap) (map suggested_parts (rest_of left)) → hunk ≡ take (n + 1) left → found ≡ change_of text (map suggested_parts hunk)
    → changes_of text (hunks (map suggested_parts left)) ≡ option_and_then (λ change. option_map (λ changes. change ∷ changes) (changes_of text (hunks (map suggested_parts (drop n (rest_of left)))))) found
found_is text [] hunk first n found some is count cut made = absurd (omega (arith, some))
found_is text (it ∷ rows) hunk first n found some is count cut made =
    let rest : rest_of (it ∷ rows) ≡ rows = take_rest (it ∷ rows) 1 in
    let m = prefix_len (is_of it.gap) (map suggested_parts rows) in
    let n_is : n ≡ m = count ∙ ap (λ (f : Suggested). prefix_len (is_of f.gap) (map suggested_parts (rest_of (it ∷ rows)))) is ∙ ap (λ (r : List Suggested). prefix_len (is_of it.gap) (map suggested_parts r)) rest in
    let hunk_there : map suggested_parts hunk ≡ suggested_parts it ∷ take m (map suggested_parts rows) =
    ap (map suggested_parts) cut ∙ hunk_is it rows n ∙ ap (λ k. suggested_parts it ∷ take k (map suggested_parts rows)) n_is in
    first_is text (suggested_parts it) (map suggested_parts rows) found (made ∙ ap (change_of text) hunk_there)
    ∙ ap (λ (r : List SuggestedParts). option_and_then (λ change. option_map (λ changes. change ∷ changes) (changes_of text (hunks r))) found)
    (ap (λ k. drop k (map suggested_parts rows)) (sym n_is) ∙ drop-map suggested_parts n rows ∙ ap (λ (r : List Suggested). map suggested_parts (drop n r)) (sym rest))

pub rest_within : (left next : List Suggested) (n bound : ℕ) → next ≡ drop n (rest_of left) → length left ≤ bound → length next ≤ bound
rest_within left next n bound is so =
    let e : length next ≡ length (rest_of left) - n = ap length is ∙ length-drop n (rest_of left) in
    let f : length (rest_of left) ≡ min (length left - 1) (length (drop 1 left)) = length-take (length left - 1) (drop 1 left) in
    omega (arith, e, f, so)

-- one hunk more
pub change_more : (text : List ℕ) (left hunk next : List Suggested) (first : Suggested) (n : ℕ) (found : Option ChangeParts) (change : ChangeParts) (before new : List ChangeParts) (all : Option (List ChangeParts))
    → 1 ≤ length left → first ≡ get_or left 0 first → n ≡ prefix_len (is_of first.gap) (map suggested_parts (rest_of left)) → hunk ≡ take (n + 1) left → found ≡ change_of text (map suggested_parts hunk)
    → found ≡ Some change → new ≡ before ++ change ∷ [] → next ≡ drop n (rest_of left) → after before (changes_of text (hunks (map suggested_parts left))) ≡ all
    → after new (changes_of text (hunks (map suggested_parts next))) ≡ all
change_more text left hunk next first n found change before new all some is count cut made there pushed step so =
    let rest = changes_of text (hunks (map suggested_parts (drop n (rest_of left)))) in
    ap (λ (r : List Suggested). after new (changes_of text (hunks (map suggested_parts r)))) step
    ∙ ap (λ (b : List ChangeParts). after b rest) pushed
    ∙ after_more before change rest
    ∙ sym (ap (after before) (found_is text left hunk first n found some is count cut made ∙ ap (λ (o : Option ChangeParts). option_and_then (λ c. option_map (λ changes. c ∷ changes) rest) o) there))
    ∙ so

-- a hunk that is no edit
pub change_none : (text : List ℕ) (left hunk : List Suggested) (first : Suggested) (n : ℕ) (found : Option ChangeParts) (before : List ChangeParts) (all : Option (List ChangeParts))
    → 1 ≤ length left → first ≡ get_or left 0 first → n ≡ prefix_len (is_of first.gap) (map suggested_parts (rest_of left)) → hunk ≡ take (n + 1) left → found ≡ change_of text (map suggested_parts hunk)
    → found ≡ None → after before (changes_of text (hunks (map suggested_parts left))) ≡ all → None ≡ all
change_none text left hunk first n found before all some is count cut made none so =
    let rest = changes_of text (hunks (map suggested_parts (drop n (rest_of left)))) in
    sym (ap (after before) (found_is text left hunk first n found some is count cut made ∙ ap (λ (o : Option ChangeParts). option_and_then (λ c. option_map (λ changes. c ∷ changes) rest) o) none))
    ∙ so

-- no row is left
pub change_end : (text : List ℕ) (left : List Suggested) (before : List ChangeParts) (all : Option (List ChangeParts)) → length left ≤ 0 → after before (changes_of text (hunks (map suggested_parts left))) ≡ all → Some before ≡ all
change_end text [] before all none so = sym (ap Some (append-nil before)) ∙ so
change_end text (it ∷ rows) before all none so = absurd (omega (arith, none))

pub ruleset change_rules = (after_none, change_more, change_none, change_end)

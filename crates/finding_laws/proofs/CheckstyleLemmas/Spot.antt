-- The elements of the value.
use Rattle.std.proofs.Common.{◌≡◌, ◌∙◌, ℕ, ◌+◌, cond, List, [], ◌∷◌, ◌++◌, map, filter, Bool, true, false, Option, Some, None, ap, codes, refl, sym, append-nil, subst}
use Rattle.std.specs.Borrow.{Bor}
use Rattle.std.specs.List.{flat_map}
use Rattle.std.proofs.lemmas.Slice.Eq.{bytes_eq-Decides}
use Rattle.json.specs.Find.{get_member}
use Rattle.json.specs.Json.{Json, array, object, string, Items, Members, member, no_members}
use Rattle.json.specs.Value.{items_of}
use Rattle.json_spots.specs.declared.step.Step.{Step}
use Rattle.json_spots.specs.declared.step.Step.TheVariants.{Key, Each}
use Rattle.json_spots.specs.declared.spot.Arrival.TheVariants.{There}
use Rattle.json_spots.specs.Spot.{By, root, name, index, child, Crumb, each, ends, gone, inside, item_crumbs, one_told, Reached, Spot, unless_null}
use Rattle.json_forms.specs.Read.{root_spot}
use Rattle.ci_formats.specs.Finding.{FindingParts}
use Rattle.ci_formats.specs.Files.{is_on, names_of}
use Rattle.ci_formats.specs.Xml.{held}
use Rattle.finding_laws.specs.Checkstyle.Read.{by_file, IsElementOf, Match, ReachesEach}
use Rattle.finding_laws.specs.Checkstyle.Value.{checkstyle_value, error_value, file_value, file_with, some_under}
use Rattle.finding_laws.proofs.SharedLemmas.{ByRecursion}

match_append : {A B : Type 0} (R : A → B → Type 0) (xs zs : List A) (ys ws : List B) → Match R xs ys → Match R zs ws → Match R (xs ++ zs) (ys ++ ws)
match_append R [] zs [] ws first second = second
match_append R [] zs (y ∷ ys) ws first second = absurd first
match_append R (x ∷ xs) zs [] ws first second = absurd first
match_append R (x ∷ xs) zs (y ∷ ys) ws first second = (first.0, match_append R xs zs ys ws first.1 second)

-- ---- one step

abbrev spot_at : Json → By → List Crumb → Spot
spot_at value by outer = record { here = record { value = value; by = by }; outer = outer }

abbrev on : List Step → Spot → List Reached
on steps spot = unless_null spot (gone steps spot)

gone_by : List Step → Spot → By → Option Json → List Reached
gone_by steps spot by found = flat_map (λ crumb. on steps (child spot crumb)) (one_told by found)

key_gone : (own : Bor (List ℕ)) (key : List ℕ) (steps : List Step) (members : Members) (by : By) (outer : List Crumb) → own.now ≡ key
    → gone (Key own ∷ steps) (spot_at (object members) by outer) ≡ gone_by steps (spot_at (object members) by outer) (name key) (get_member key members)
unfolding gone inside gone_by
key_gone own key steps members by outer is = ap (λ k. gone_by steps (spot_at (object members) by outer) (name k) (get_member k members)) is

object_on : (steps : List Step) (spot : Spot) (by : By) (members : Members) → gone_by steps spot by (Some (object members)) ≡ gone steps (child spot (record { value = object members; by = by }))
unfolding gone_by
object_on steps spot by members = append-nil (gone steps (child spot (record { value = object members; by = by })))

array_on : (steps : List Step) (spot : Spot) (by : By) (items : Items) → gone_by steps spot by (Some (array items)) ≡ gone steps (child spot (record { value = array items; by = by }))
unfolding gone_by
array_on steps spot by items = append-nil (gone steps (child spot (record { value = array items; by = by })))

none_on : (steps : List Step) (spot : Spot) (by : By) → gone_by steps spot by None ≡ []
unfolding gone_by
none_on steps spot by = refl

each_gone : (steps : List Step) (items : Items) (by : By) (outer : List Crumb) → gone (Each ∷ steps) (spot_at (array items) by outer) ≡ flat_map (λ crumb. on steps (child (spot_at (array items) by outer) crumb)) (item_crumbs 0 items)
unfolding gone inside
each_gone steps items by outer = refl

-- ---- findings on a file

abbrev IsNamed : List ℕ → FindingParts → Type 0
IsNamed called f = f.name ≡ called

kept_named : (called : List ℕ) (f : FindingParts) (findings : List FindingParts) (keeps : Bool) → is_on called f ≡ keeps → ByRecursion (IsNamed called) findings
    → ByRecursion (IsNamed called) (cond keeps (f ∷ findings) findings)
kept_named called f findings true is all = ((bytes_eq-Decides f.name called).0 is, all)
kept_named called f findings false is all = all

all_named : (called : List ℕ) (findings : List FindingParts) → ByRecursion (IsNamed called) (filter (is_on called) findings)
all_named called [] = tt
all_named called (f ∷ findings) = kept_named called f (filter (is_on called) findings) (is_on called f) refl (all_named called findings)

error_ends : (f : FindingParts) (by : By) (spot : Spot) → on [] (child spot (record { value = error_value f; by = by })) ≡ ends (child spot (record { value = error_value f; by = by })) There
unfolding error_value gone
error_ends f by spot = refl

module _ (findings : List FindingParts) where
  abbrev crumbs_on : Spot → List Crumb → List Reached
  crumbs_on spot crumbs = flat_map (λ crumb. on [] (child spot crumb)) crumbs

  errors_reached : (file : List ℕ) (around in_file : Crumb) (rest : List Crumb) (at : ℕ) (own : List FindingParts) → in_file.value ≡ file_value findings file → ByRecursion (IsNamed file) own
      → Match (IsElementOf findings) (crumbs_on (record { here = around; outer = in_file ∷ rest }) (item_crumbs at (items_of (map error_value own)))) own
  errors_reached file around in_file rest at [] is all = tt
  errors_reached file around in_file rest at (f ∷ own) is all =
      let spot : Spot = record { here = around; outer = in_file ∷ rest } in
      let crumb : Crumb = record { value = error_value f; by = index at } in
      let more : List Reached = crumbs_on spot (item_crumbs (at + 1) (items_of (map error_value own))) in
      let mine : IsElementOf findings (record { spot = child spot crumb; arrival = There }) f =
      record { there = refl; here = refl; around = around; file = in_file; rest = rest; outer = refl; in_file = is ∙ ap (file_value findings) (sym all.0) } in
      subst (λ l. Match (IsElementOf findings) (l ++ more) (f ∷ own)) (sym (error_ends f (index at) spot)) (mine, errors_reached file around in_file rest (at + 1) own is all.1)

  -- from an element `file` on
  file_reached : (error : Bor (List ℕ)) (file : List ℕ) (by : By) (outer : List Crumb) (own : List FindingParts) → error.now ≡ codes "error" → file_with file own ≡ file_value findings file → ByRecursion (IsNamed file) own
      → Match (IsElementOf findings) (on (Key error ∷ Each ∷ []) (spot_at (file_with file own) by outer)) own
  unfolding file_with
  file_reached error file by outer [] is same all =
      subst (λ l. Match (IsElementOf findings) l []) (sym (key_gone error (codes "error") (Each ∷ []) (member (codes "name") (string (held file)) no_members) by outer is ∙ none_on (Each ∷ []) _ (name (codes "error")))) tt
  file_reached error file by outer (f ∷ own) is same all =
      let items : Items = items_of (map error_value (f ∷ own)) in
      let members : Members = member (codes "name") (string (held file)) (member (codes "error") (array items) no_members) in
      let here : Crumb = record { value = object members; by = by } in
      let reached = errors_reached file (record { value = array items; by = name (codes "error") }) here outer 0 (f ∷ own) same all in
      subst (λ l. Match (IsElementOf findings) l (f ∷ own))
      (sym (key_gone error (codes "error") (Each ∷ []) members by outer is
      ∙ (array_on (Each ∷ []) (spot_at (object members) by outer) (name (codes "error")) items ∙ each_gone [] items (name (codes "error")) (here ∷ outer))))
      reached

  files_reached : (error : Bor (List ℕ)) (spot : Spot) (at : ℕ) (names : List (List ℕ)) → error.now ≡ codes "error"
      → Match (IsElementOf findings) (flat_map (λ crumb. on (Key error ∷ Each ∷ []) (child spot crumb)) (item_crumbs at (items_of (map (file_value findings) names)))) (flat_map (λ file. filter (is_on file) findings) names)
  files_reached error spot at [] is = tt
  files_reached error spot at (file ∷ names) is =
      match_append (IsElementOf findings) _ _ _ _ (file_reached error file (index at) (spot.here ∷ spot.outer) (filter (is_on file) findings) is refl (all_named file findings)) (files_reached error spot (at + 1) names is)

  abbrev root_members : List Json → Members
  root_members files = member (codes "version") (string (codes "4.3")) (some_under (codes "file") files)

  root_reached : (file error : Bor (List ℕ)) (by : By) (outer : List Crumb) (names : List (List ℕ)) → file.now ≡ codes "file" → error.now ≡ codes "error"
      → Match (IsElementOf findings) (gone (Key file ∷ Each ∷ Key error ∷ Each ∷ []) (spot_at (object (root_members (map (file_value findings) names))) by outer)) (flat_map (λ own. filter (is_on own) findings) names)
  root_reached file error by outer [] of_file of_error =
      subst (λ l. Match (IsElementOf findings) l []) (sym (key_gone file (codes "file") (Each ∷ Key error ∷ Each ∷ []) (root_members []) by outer of_file ∙ none_on (Each ∷ Key error ∷ Each ∷ []) _ (name (codes "file")))) tt
  root_reached file error by outer (first ∷ names) of_file of_error =
      let files : List Json = map (file_value findings) (first ∷ names) in
      let items : Items = items_of files in
      let here : Crumb = record { value = object (root_members files); by = by } in
      let spot : Spot = spot_at (array items) (name (codes "file")) (here ∷ outer) in
      subst (λ l. Match (IsElementOf findings) l (flat_map (λ own. filter (is_on own) findings) (first ∷ names)))
      (sym (key_gone file (codes "file") (Each ∷ Key error ∷ Each ∷ []) (root_members files) by outer of_file
      ∙ (array_on (Each ∷ Key error ∷ Each ∷ []) (spot_at (object (root_members files)) by outer) (name (codes "file")) items ∙ each_gone (Key error ∷ Each ∷ []) items (name (codes "file")) (here ∷ outer))))
      (files_reached error spot 0 (first ∷ names) of_error)

pub reaches_each : (findings : List FindingParts) → ReachesEach findings
unfolding checkstyle_value
reaches_each findings list lead =
    let root_json : Json = object (root_members findings (map (file_value findings) (names_of findings))) in
    let whole : Members = member (codes "checkstyle") root_json no_members in
    let start : Crumb = record { value = object whole; by = root } in
    let steps : List Step = Key lead.file ∷ Each ∷ Key lead.error ∷ Each ∷ [] in
    subst (λ l. Match (IsElementOf findings) l (by_file findings))
    (sym (ap (λ its. each its (root_spot (object whole))) lead.are
    ∙ (key_gone lead.whole (codes "checkstyle") steps whole root [] lead.of_whole ∙ object_on steps (spot_at (object whole) root []) (name (codes "checkstyle")) (root_members findings (map (file_value findings) (names_of findings))))))
    (root_reached findings lead.file lead.error (name (codes "checkstyle")) (start ∷ []) (names_of findings) lead.of_file lead.of_error)

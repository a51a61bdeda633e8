-- What is written has no float, and isn't nested deep.
use Rattle.std.proofs.Common.{◌≡◌, ℕ, ◌≤◌, List, [], ◌∷◌, Option, false, refl, arith}
use Rattle.serde_json.specs.Data.{Data, Items, depth, items_depth}
use Rattle.serde_json.specs.View.{items_of}
use Rattle.serde_json.specs.Written.{has_float, items_have_float}
use Rattle.ci_formats.specs.Finding.{FindingParts}
use Rattle.ci_formats.specs.Files.{along}
use Rattle.ci_formats.specs.Gitlab.{issue_value, location_value, one_issue, gitlab_value, usual_check}
use Rattle.std.specs.List.{count_by}
use Rattle.ci_formats.specs.Gitlab.{is_same_issue}

-- no float in it, and arrays and objects nest so deep at most
record IsPlain (most : ℕ) (it : Data) : Type 0 where
  whole : has_float it ≡ false
  shallow : depth it ≤ most

record ArePlainItems (most : ℕ) (its : Items) : Type 0 where
  whole : items_have_float its ≡ false
  shallow : items_depth its ≤ most

plain_issue : (usual : List ℕ) (before : ℕ) (f : FindingParts) → IsPlain 3 (issue_value usual before f)
unfolding issue_value location_value
plain_issue usual before f = record { whole = refl; shallow = omega arith }

plain_items : (usual : List ℕ) (earlier rest : List FindingParts) → ArePlainItems 3 (items_of (along (one_issue usual) earlier rest))
unfolding along
plain_items usual earlier [] = record { whole = refl; shallow = omega arith }
plain_items usual earlier (f ∷ rest) =
    let first = plain_issue usual (count_by (is_same_issue f) earlier) f in
    let others = plain_items usual _ rest in
    record { whole = rw first.whole others.whole; shallow = omega (arith, first.shallow, others.shallow) }

pub no_float : (tool : Option (List ℕ)) (findings : List FindingParts) → has_float (gitlab_value tool findings) ≡ false
unfolding gitlab_value
no_float tool findings = (plain_items (usual_check tool) [] findings).whole

pub shallow : (tool : Option (List ℕ)) (findings : List FindingParts) → depth (gitlab_value tool findings) ≤ 127
unfolding gitlab_value
shallow tool findings = omega (arith, (plain_items (usual_check tool) [] findings).shallow)

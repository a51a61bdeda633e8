-- The issues of a report, one at a time.
use Rattle.std.proofs.Common.{◌≡◌, ℕ, ◌+◌, ◌<◌, List, [], ◌∷◌, ◌++◌, length, map, take, get_or, Bor, Option, Some, None, unwrap_or, refl, sym, ap, ap₂, ◌∙◌}
use Rattle.std.specs.List.{count_by}
use Rattle.std.specs.Option.{option_copied}
use Rattle.std.proofs.lemmas.List.{map_push}
use Rattle.serde_json.specs.View.{view}
use Rattle.serde_json.specs.declared.value.Value.{Value}
use Rattle.ci_formats.specs.declared.finding.Finding.{Finding}
use Rattle.ci_formats.specs.Finding.{finding_parts}
use Rattle.ci_formats.specs.Files.{along}
use Rattle.ci_formats.specs.Gitlab.{is_same_issue, issue_value, one_issue}
use Rattle.ci_formats.proofs.FilesLemmas.{along_more}

pub more_issues : (usual : List ℕ) (done values : List Value) (value : Value) (before : ℕ) (fs : List Finding) (i : ℕ) (x : Finding)
    → i < length fs → x ≡ get_or fs i x → values ≡ done ++ value ∷ [] → view value ≡ issue_value usual before (finding_parts x)
    → before ≡ count_by (is_same_issue (finding_parts x)) (map finding_parts (take i fs))
    → map view done ≡ along (one_issue usual) [] (map finding_parts (take i fs))
    → map view values ≡ along (one_issue usual) [] (map finding_parts (take (i + 1) fs))
more_issues usual done values value before fs i x within is pushed written counted so_far =
    ap (map view) pushed ∙ map_push view done value
    ∙ ap₂ (λ l d. l ++ d ∷ []) so_far (written ∙ ap (λ n. issue_value usual n (finding_parts x)) counted)
    ∙ sym (along_more (one_issue usual) fs i x within is)

-- what is lent, else the other
pub copied_or : (o : Option (Bor (List ℕ))) (d : Bor (List ℕ)) → (unwrap_or o d).now ≡ unwrap_or (option_copied o) d.now
copied_or None d = refl
copied_or (Some x) d = refl

-- Each finding is counted once.
use Rattle.std.proofs.Common.{◌≡◌, ◌+◌, cond, List, [], ◌∷◌, length, refl, ap, ◌∙◌, zero-add, arith}
use Rattle.std.proofs.lemmas.List.Sums.{sum_by-append}
use Rattle.std.specs.List.{count_by}
use Rattle.filtered_findings.specs.Counts.{is_verdict}
use Rattle.filtered_findings.specs.declared.verdicts.Verdict.{Verdict}
use Rattle.filtered_findings.specs.declared.verdicts.Verdict.TheVariants.{Stays, Twice, InBaseline, NotSelected, NotChanged}

pub one_more : (wanted it : Verdict) (each : List Verdict) → count_by (λ v. is_verdict wanted v) (it ∷ each) ≡ cond (is_verdict wanted it) 1 0 + count_by (λ v. is_verdict wanted v) each
one_more wanted it each =
    sum_by-append (λ v. cond (is_verdict wanted v) 1 0) (it ∷ []) each ∙ ap (λ n. n + count_by (λ v. is_verdict wanted v) each) (zero-add (cond (is_verdict wanted it) 1 0))

pub all_counted : (each : List Verdict)
    → length each ≡ count_by (λ it. is_verdict Stays it) each + count_by (λ it. is_verdict Twice it) each + count_by (λ it. is_verdict InBaseline it) each + count_by (λ it. is_verdict NotSelected it) each + count_by (λ it. is_verdict NotChanged it) each
all_counted [] = refl
all_counted (Stays ∷ each) = omega (arith, all_counted each, one_more Stays Stays each, one_more Twice Stays each, one_more InBaseline Stays each, one_more NotSelected Stays each, one_more NotChanged Stays each)
all_counted (Twice ∷ each) = omega (arith, all_counted each, one_more Stays Twice each, one_more Twice Twice each, one_more InBaseline Twice each, one_more NotSelected Twice each, one_more NotChanged Twice each)
all_counted (InBaseline ∷ each) = omega (arith, all_counted each, one_more Stays InBaseline each, one_more Twice InBaseline each, one_more InBaseline InBaseline each, one_more NotSelected InBaseline each, one_more NotChanged InBaseline each)
all_counted (NotSelected ∷ each) = omega (arith, all_counted each, one_more Stays NotSelected each, one_more Twice NotSelected each, one_more InBaseline NotSelected each, one_more NotSelected NotSelected each, one_more NotChanged NotSelected each)
all_counted (NotChanged ∷ each) = omega (arith, all_counted each, one_more Stays NotChanged each, one_more Twice NotChanged each, one_more InBaseline NotChanged each, one_more NotSelected NotChanged each, one_more NotChanged NotChanged each)

-- What a reporter of problem lines gives of a list of diagnostics.
use Rattle.std.proofs.Common.{◌≡◌, ℕ, zero, suc, List, [], ◌∷◌, ◌++◌, Option, Some, map, refl, ap, ◌∙◌, subst, arith}
use Rattle.std.specs.List.{All, concat, flat_map}
use Rattle.oxc_protocol.specs.Info.{InfoParts, info_of}
use Rattle.oxc_protocol.specs.Parts.{Parts}
use Rattle.oxc_protocol.specs.Reporters.{Answers, RendersAll, texts_in}
use Rattle.oxc_protocol.proofs.ReporterLemmas.{answers_are, gathers}
use Rattle.problem_lines.specs.Line.{IsInRange, problem_line}
use Rattle.problem_lines.specs.Report.{IsReported}

-- the answer to a diagnostic
abbrev pub line_answer : Parts → Option (List ℕ)
line_answer p = Some (problem_line (info_of p))

pub lines_joined : (ps : List Parts) → concat (texts_in (map line_answer ps)) ≡ flat_map problem_line (map info_of ps)
lines_joined [] = refl
lines_joined (p ∷ ps) = ap (λ l. problem_line (info_of p) ++ l) (lines_joined ps)

pub all_more : (i : InfoParts) (is : List InfoParts) → IsInRange i → All IsInRange is → All IsInRange (i ∷ is)
all_more i is small others zero d lt = small
all_more i is small others (suc k) d lt = others k d (omega arith)

module _ {S : Type 0} (R : S → Parts → Option (List ℕ) → S → Type 0) (gives : (s : S) (p : Parts) (x : Option (List ℕ)) (t : S) → R s p x t → IsReported p x) where
  pub run_in_range : (ps : List Parts) (answers : List (Option (List ℕ))) (s t : S) → Answers R s ps answers t → All IsInRange (map info_of ps)
  run_in_range [] answers s t run = λ k d lt. absurd (omega arith)
  run_in_range (p ∷ ps) [] s t run = absurd run
  run_in_range (p ∷ ps) (x ∷ xs) s t run = all_more (info_of p) (map info_of ps) (gives _ _ _ _ run.1).in_range (run_in_range ps xs run.0 t run.2)

  pub run_joined : (ps : List Parts) (answers : List (Option (List ℕ))) (s t : S) → Answers R s ps answers t → concat (texts_in answers) ≡ flat_map problem_line (map info_of ps)
  run_joined ps answers s t run = ap (λ xs. concat (texts_in xs)) (answers_are R line_answer (λ s p x t r. (gives s p x t r).line) ps answers s t run) ∙ lines_joined ps

-- what is gathered of the texts that are handed on
pub gathers_lines : {S F : Type 0} (R : S → Parts → Option (List ℕ) → S → Type 0) (E : F → List ℕ → F → Type 0) (J : F → F → List ℕ → Type 0) → ((s : S) (p : Parts) (x : Option (List ℕ)) (t : S) → R s p x t → IsReported p x)
    → ((f₀ f : F) (text : List ℕ) (g : F) (bytes : List ℕ) → J f₀ f bytes → E f text g → J f₀ g (bytes ++ text))
    → (ps : List Parts) (s : S) (f : F) (t : S) (g : F) → RendersAll R E s f ps t g → J f f [] → J f g (flat_map problem_line (map info_of ps))
gathers_lines R E J gives adds ps s f t g run j = subst (J f g) (lines_joined ps) (gathers R E line_answer J (λ s p x t r. (gives s p x t r).line) adds ps s f t g run j)

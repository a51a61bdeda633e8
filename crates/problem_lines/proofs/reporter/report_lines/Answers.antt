use Rattle.std.proofs.Common.{◌≡◌, true, string_bytes, rules, refl}
use Rattle.problem_lines.proofs.ReportLemmas.{gathers_lines, run_in_range}
use Rattle.problem_lines.proofs.reporter.report_lines.Goals as goal

pub returns-then-whole-clause-text : goal.returns-then-whole-clause-text
returns-then-whole-clause-text g c =
    let all = gathers_lines _ _ (λ p q bytes. (q.0.ghost_name ≡ p.0.ghost_name) × (q.1.ghost_name ≡ p.1.ghost_name) × (q.0.now ≡ true → string_bytes q.1.now ≡ bytes)) (λ s p x t given. given) (λ p f text k bytes j r. search rules) _ _ _ _ _ c.in_ok-render_errors_into.ensures.all (refl, refl, λ _. search rules) in
    search rules

pub returns-then-whole-clause-range : goal.returns-then-whole-clause-range
returns-then-whole-clause-range g c = run_in_range _ (λ s p x t given. given) _ _ _ _ c.in_ok-render_errors_into.ensures.all.rendered

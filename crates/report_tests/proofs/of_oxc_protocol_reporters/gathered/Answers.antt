use Rattle.std.proofs.Common.{◌≡◌, true, string_bytes, rules, refl}
use Rattle.oxc_protocol.specs.MessageLines.{unless_skip}
use Rattle.oxc_protocol.proofs.ReporterLemmas.{gathers}
use Rattle.report_tests.proofs.of_oxc_protocol_reporters.gathered.Goals as goal

pub returns : goal.returns
returns g c =
    let all = gathers _ _ unless_skip (λ p q bytes. (q.0.ghost_name ≡ p.0.ghost_name) × (q.1.ghost_name ≡ p.1.ghost_name) × (q.0.now ≡ true → string_bytes q.1.now ≡ bytes)) (λ s p x t given. given) (λ p f text k bytes j r. search rules) _ _ _ _ _ c.in_ok-render_errors_into.ensures.all (refl, refl, λ _. search rules) in
    search rules

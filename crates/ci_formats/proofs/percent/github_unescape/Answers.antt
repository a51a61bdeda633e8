use Rattle.std.proofs.Common.{◌≡◌, ◌++◌, ◌∷◌, ◌∙◌, ap, append_assoc, rules, string_bytes}
use Rattle.ci_formats.specs.Unescape.{unescape}
use Rattle.ci_formats.proofs.PercentLemmas.{at_percent}
use Rattle.ci_formats.proofs.percent.github_unescape.Goals as goal

pub loop-front-preserved : goal.loop-front-preserved
loop-front-preserved c =
    let found = at_percent c.args.field c.loop-front.rest.now c.in-Some.front.now c.in-Some.behind.now c.in-Some.ensures in (
      search rules,
      c.in_ok-rest.ensures.text
          ∙ ap (λ l. l ++ unescape c.args.field (0x25 ∷ c.in-Some.behind.now)) c.in_ok-push_str.ensures.bytes
          ∙ append_assoc (string_bytes c.loop-front.out) c.in-Some.front.now (unescape c.args.field (0x25 ∷ c.in-Some.behind.now))
          ∙ ap (λ l. string_bytes c.loop-front.out ++ l) found
          ∙ c.loop-front.invariant.1,
    )

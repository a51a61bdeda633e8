use Rattle.std.proofs.Common.{List, reverse, ap, ◌∙◌}
use Rattle.std.proofs.lemmas.List.{reverse-reverse}
use Rattle.std.specs.Str.{chars}
use Rattle.finding_filters.specs.Tokens.{end_of, last_value, takes_all}
use Rattle.finding_filters.specs.declared.tokens.Ending.TheVariants.{Nothing}
use Rattle.finding_filters.specs.declared.tokens.Token.{Token}
use Rattle.finding_filters.proofs.TokenLemmas.{last_row}
use Rattle.finding_filters.proofs.patterns.Rule.takes_text.Goals as goal

pub returns : goal.returns
returns c =
    let back = c.deref-2.result.now in
    let rule = c.deref.result.now in
    c.is_last_true.ensures ∙ ap last_value (c.deref-3.ensures.value ∙ c.in_ok-row.ensures) ∙ last_row (takes_all (end_of Nothing) rule) back
    ∙ ap (λ (tokens : List Token). takes_all (end_of Nothing) tokens (reverse back)) (c.deref.ensures.value ∙ c.self.view_is)
    ∙ ap (takes_all (end_of Nothing) c.args.self.now)
    (ap reverse (c.deref-2.ensures.value ∙ c.reverse.ensures.items ∙ ap reverse c.in_ok-text.ensures) ∙ reverse-reverse (chars c.args.text.now))

-- A pattern that begins at any folder.
use Rattle.std.proofs.Common.{◌≡◌, Bool, false, true, List, reverse, sym, ap, ◌∙◌}
use Rattle.finding_filters.specs.Patterns.{GlobParts, tokens_at}
use Rattle.finding_filters.specs.Tokens.{end_of, last_value, row_of, step_row, takes_all, takes_one}
use Rattle.finding_filters.specs.declared.tokens.Ending.{Ending}
use Rattle.finding_filters.specs.declared.tokens.Token.{Token}
use Rattle.finding_filters.specs.declared.tokens.Token.TheVariants.{Any, Exactly}
use Rattle.finding_filters.proofs.TokenLemmas.{last_row, or_last, slash_row}
use Rattle.finding_filters.proofs.patterns.Glob.takes_back.Goals as goal

pub returns-then-self : goal.returns-then-self
returns-then-self c =
    let glob = c.args.self.now in
    let text = c.args.text.now in
    let tokens = tokens_at glob c.args.absolute in
    let test = takes_all (end_of glob.ending) tokens in
    let row : c.in_ok-row.row.items ≡ row_of test text =
    c.in_ok-row.ensures
    ∙ ap (λ (ending : Ending). row_of (takes_all (end_of ending) c.tokens-tokens.result.now) text) (ap (λ (g : GlobParts). g.ending) c.self.view_is)
    ∙ ap (λ (those : List Token). row_of (takes_all (end_of glob.ending) those) text) c.tokens-tokens.ensures in
    let no_first : test (reverse text) ≡ false =
    sym (c.is_last_true.ensures ∙ ap last_value (c.deref.ensures.value ∙ row) ∙ last_row test text) ∙ c.if-is_last_true.false in
    let begins : glob.anywhere ≡ true = sym (ap (λ (g : GlobParts). g.anywhere) c.self.view_is) ∙ c.if-self.true in
    or_last (test (reverse text)) glob.anywhere (takes_one Any (takes_one (Exactly 0x2F) test) (reverse text)) c.in_ok-after_slash.field-0 no_first begins
    (c.in_ok-after_slash.ensures
    ∙ ap (λ (values : List Bool). last_value (step_row Any text (step_row (Exactly 0x2F) text values))) (c.deref-then-self.ensures.value ∙ row) ∙ slash_row test text)

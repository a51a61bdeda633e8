-- Plain ASCII stays.
use Rattle.std.proofs.Common.{◌≡◌, ◌∙◌, sym, subst, IfOk, string_bytes}
use Rattle.harmless.proofs.PlainLemmas.{plain_stays}
use Rattle.harmless.proofs.replaced.Goals as goal

pub returns-then-is_plain : goal.returns-then-is_plain
returns-then-is_plain c =
    subst (λ t. IfOk c.from_str.result (λ out. string_bytes out ≡ t)) (plain_stays c.args.kind c.args.text.now c.utf8.text (sym c.is_plain.ensures ∙ c.if-is_plain.true)) c.from_str.ensures.ok

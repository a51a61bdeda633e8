-- Plain ASCII stays, and so does a source whose characters all stay.
use Rattle.std.proofs.Common.{◌∙◌, sym}
use Rattle.harmless.proofs.ChangedLemmas.{plain_settled, settled_test}
use Rattle.harmless.proofs.is_settled.Goals as goal

pub returns-then-is_plain : goal.returns-then-is_plain
returns-then-is_plain c =
    c.if-is_plain.true ∙ sym (plain_settled c.args.text.now c.utf8.text (sym c.is_plain.ensures ∙ c.if-is_plain.true))

pub returns-else-is_plain : goal.returns-else-is_plain
returns-else-is_plain c = c.all_stay.ensures ∙ settled_test c.args.text.now c.utf8.text

-- The digits between `<U+` and `>`.
use Rattle.excerpt_rows.proofs.ExpansionLemmas.{code_is}
use Rattle.excerpt_rows.proofs.expansion.push_code.Goals as goal

pub returns : goal.returns
returns c = code_is _ _ _ _ _ c.args.c c.in_ok-extend_from_slice.ensures.items c.in_ok-push_digits.ensures c.push.ensures

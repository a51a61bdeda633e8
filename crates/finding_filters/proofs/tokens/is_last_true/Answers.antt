use Rattle.std.proofs.Common.{sym, arith}
use Rattle.finding_filters.proofs.TokenLemmas.{last_is}
use Rattle.finding_filters.proofs.tokens.is_last_true.Goals as goal

pub returns-in-len1-up : goal.returns-in-len1-up
returns-in-len1-up c = sym (last_is c.args.row.now _ (omega (arith, c.in-len1-up.len_at_least)))

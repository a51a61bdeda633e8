use Rattle.std.proofs.Common.{not, sym, ap, ◌∙◌, arith}
use Rattle.changed_rows.proofs.NameLemmas.{last_below}
use Rattle.changed_rows.proofs.names.ends_in_folder.Goals as goal

pub returns-in-len1-up : goal.returns-in-len1-up
returns-in-len1-up c = ap not c.goes_up.ensures ∙ sym (last_below c.args.at.now _ (omega (arith, c.in-len1-up.len_at_least)))

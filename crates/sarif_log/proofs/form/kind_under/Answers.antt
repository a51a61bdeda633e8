-- The key of the table is the key of the list.
use Rattle.std.proofs.Common.{◌∙◌}
use Rattle.sarif_log.specs.Form.{keys_of, kind_under}
use Rattle.sarif_log.proofs.FormLemmas.{found_there}
use Rattle.sarif_log.proofs.form.kind_under.Goals as goal

pub returns : goal.returns
unfolding kind_under
returns c = c.kind_in.ensures ∙ found_there c.keys_of.result.now (keys_of c.args.shape) c.args.name.now c.keys_of.ensures

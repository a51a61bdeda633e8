-- The map is the object's members.
use Rattle.std.proofs.Common.{◌∙◌}
use Rattle.documents.proofs.KeyLemmas.{has_key}
use Rattle.documents.proofs.fields.has_key.Goals as goal

pub returns : goal.returns
returns c = c.contains_key.ensures ∙ has_key c.args.key.now c.args.members.now.entries

-- What is found, and what is left, of the members.
use Rattle.std.proofs.Common.{◌∙◌, ap, option_map}
use Rattle.serde_json.specs.View.{view}
use Rattle.serde_json.proofs.Views.{view-lookup}
use Rattle.documents.proofs.KeyLemmas.{taken_out}
use Rattle.documents.proofs.fields.take.Goals as goal

pub returns-clause-value : goal.returns-clause-value
returns-clause-value c = ap (option_map view) c.remove.ensures.value ∙ view-lookup c.args.key.now c.args.members.now.entries

pub returns-clause-left : goal.returns-clause-left
returns-clause-left c = taken_out c.args.key.now c.args.members.now.entries c.remove.new.self.entries c.remove.ensures.entries c.remove.ensures.updates.1

use Rattle.source_location.proofs.LargestLemmas.{leads_back}
use Rattle.source_location.proofs.laws.boundary_is_found_again.Goals as goal

pub returns : goal.returns
returns c = leads_back c.args._text.now c.args._offset c.utf8._text c.requires

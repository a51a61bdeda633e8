use Rattle.utf16_places.proofs.PlaceLemmas.{ascending}
use Rattle.utf16_places.proofs.laws.places_ascend.Goals as goal

pub returns : goal.returns
returns c = ascending c.args._text.now c.args._first c.args._second c.utf8._text c.requires.first c.requires.second c.requires.ordered

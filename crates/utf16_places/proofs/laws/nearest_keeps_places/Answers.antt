use Rattle.utf16_places.proofs.PlaceLemmas.{nearest_keeps}
use Rattle.utf16_places.proofs.laws.nearest_keeps_places.Goals as goal

pub returns : goal.returns
returns c answer is = nearest_keeps c.args._text.now c.args._offset answer c.utf8._text c.requires is

use Rattle.utf16_places.proofs.PlaceLemmas.{leads_back}
use Rattle.utf16_places.proofs.laws.places_lead_back.Goals as goal

pub returns : goal.returns
returns c answer is = leads_back c.args._text.now c.args._offset answer c.utf8._text c.requires is

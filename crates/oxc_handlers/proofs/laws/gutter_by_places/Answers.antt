use Rattle.oxc_plan.specs.Plan.{in_order}
use Rattle.oxc_handlers.specs.Places.{drawn_by_theme}
use Rattle.oxc_handlers.proofs.PlacesLemmas.{gutter_places}
use Rattle.oxc_handlers.proofs.laws.gutter_by_places.Goals as goal

pub returns : goal.returns
returns c = gutter_places (drawn_by_theme c.args._theme.now (in_order c.args._labels.now) c.args._width) c.args._bars.now

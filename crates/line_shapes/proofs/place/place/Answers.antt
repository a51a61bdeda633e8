use Rattle.line_shapes.proofs.LeastLemmas.{is_least}
use Rattle.line_shapes.specs.Place.{placed}
use Rattle.std.specs.Option.{option_map}
use Rattle.line_shapes.proofs.place.place.Goals as goal

pub returns-clause-least : goal.returns-clause-least
returns-clause-least c = is_least c.args.line.now (option_map placed c.placed_in.result) c.placed_in.ensures

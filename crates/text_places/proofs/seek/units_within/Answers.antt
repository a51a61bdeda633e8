use Rattle.std.proofs.Common.{arith}
use Rattle.text_places.specs.Pages.{bytes_in}
use Rattle.text_places.proofs.UnitsLemmas.{before-none}
use Rattle.text_places.proofs.seek.units_within.Goals as goal

pub returns : goal.returns
returns c = omega (arith, before-none c.args.encoding (bytes_in c.args.page.now), c.units.ensures, c.units-2.ensures)

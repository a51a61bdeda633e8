-- The elements are those of the value's view.
use Rattle.std.proofs.Common.{◌∙◌, sym, ap, map, Some}
use Rattle.json.specs.Value.{value_view}
use Rattle.json.proofs.Trees.{view-Array}
use Rattle.json_inputs.specs.Values.{elements_in}
use Rattle.json_inputs.proofs.ValueLemmas.{items_listed}
use Rattle.json_inputs.proofs.values.elements.Goals as goal

pub returns-in-Array : goal.returns-in-Array
returns-in-Array c = sym (ap elements_in (ap value_view c.in-Array.is ∙ view-Array c.in-Array.all) ∙ ap Some (items_listed (map value_view c.in-Array.all.items)))

-- The items of the list are those of the array.
use Rattle.std.proofs.Common.{◌∙◌, sym, ap, map}
use Rattle.json.specs.Value.{value_view}
use Rattle.json.proofs.Trees.{view-Array}
use Rattle.sarif_log.specs.Log.{items_of}
use Rattle.sarif_log.proofs.LogLemmas.{list_seen}
use Rattle.sarif_log.proofs.read.items_of.Goals as goal

pub returns-in-Array : goal.returns-in-Array
returns-in-Array c =
    ap (map value_view) c.as_slice.ensures.value ∙ list_seen c.in-Array.items.items
    ∙ sym (ap items_of (ap value_view c.in-Array.is ∙ view-Array c.in-Array.items))

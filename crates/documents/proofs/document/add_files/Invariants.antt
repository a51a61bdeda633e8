-- The files so far, and what the values left say.
use Rattle.std.proofs.Common.{◌≡◌, ◌+◌, ◌++◌, length, option_map}
use Rattle.std.specs.Vec.Iter.{into_iter_items}
use Rattle.serde_json.specs.View.{items_view}
use Rattle.documents.specs.Kinds.{all_of}
use Rattle.documents.specs.Document.{file}
use Rattle.documents.proofs.document.add_files.Given as goal

abbrev pub invariant-loop-value : goal.invariant-loop-value
invariant-loop-value l =
    (goal.iterator-loop-value).can_next l.value-iterator ×
    (goal.iterator-loop-value).is_finite l.value-iterator ×
    (all_of file (items_view l.fn.values.items) ≡ option_map (λ rest. l.files ++ rest) (all_of file (items_view (into_iter_items l.value-iterator)))) ×
    (length l.files + length (into_iter_items l.value-iterator) ≡ length l.fn.values.items)

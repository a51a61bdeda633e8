-- An array or an object is empty as its view is.
use Rattle.std.proofs.Common.{◌∙◌, sym, ap, nat_eq, length}
use Rattle.json.specs.Value.{value_view}
use Rattle.json.proofs.Trees.{view-Array, view-Object}
use Rattle.json_forms.specs.Told.{is_hollow}
use Rattle.json_forms.proofs.ToldLemmas.{hollow_array, hollow_object}
use Rattle.json_forms.proofs.told.is_hollow.Goals as goal

pub returns-in-Array : goal.returns-in-Array
returns-in-Array c =
    c.is_empty.ensures ∙ ap (λ xs. nat_eq (length xs) 0) c.as_slice.ensures.value ∙ sym (hollow_array c.in-Array.items.items)
    ∙ sym (ap is_hollow (ap value_view c.in-Array.is ∙ view-Array c.in-Array.items))

pub returns-in-Object : goal.returns-in-Object
returns-in-Object c =
    c.is_empty-in-Object.ensures ∙ ap (λ xs. nat_eq (length xs) 0) c.as_slice-in-Object.ensures.value ∙ sym (hollow_object c.in-Object.members.items)
    ∙ sym (ap is_hollow (ap value_view c.in-Object.is ∙ view-Object c.in-Object.members))

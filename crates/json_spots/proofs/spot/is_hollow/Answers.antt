-- An array is empty as its view is.
use Rattle.std.proofs.Common.{◌∙◌, sym, ap, nat_eq, length}
use Rattle.json_spots.proofs.SpotLemmas.{no_item}
use Rattle.json_spots.proofs.spot.is_hollow.Goals as goal

pub returns : goal.returns
returns c = c.is_empty.ensures ∙ ap (λ xs. nat_eq (length xs) 0) c.as_slice.ensures.value ∙ sym (no_item c.args.items.now.items)

use Rattle.std.proofs.Common.{◌-◌, length, ◌∙◌, ap}
use Rattle.source_location.specs.Lines.{ending_length}
use Rattle.source_location.proofs.EndingLemmas.{last_line_found, last_line_whole}
use Rattle.source_location.proofs.newlines.last_line_start.Goals as goal

pub returns-in-Some : goal.returns-in-Some
returns-in-Some c = last_line_found c.args.text.now _ c.in-Some.position c.utf8.text (ap (λ k. length c.args.text.now - k) (c.length_of_ending.ensures.exact ∙ ap ending_length c.as_bytes-bytes.ensures.value)) (rw c.as_bytes-bytes.ensures.value at c.in-Some.ensures)

pub returns-in-None : goal.returns-in-None
returns-in-None c = last_line_whole c.args.text.now _ c.utf8.text c.requires (ap (λ k. length c.args.text.now - k) (c.length_of_ending.ensures.exact ∙ ap ending_length c.as_bytes-bytes.ensures.value)) (rw c.as_bytes-bytes.ensures.value at c.in-None.ensures)

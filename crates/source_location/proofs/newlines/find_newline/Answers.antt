use Rattle.source_location.proofs.NewlinesLemmas.{first_newline}
use Rattle.source_location.proofs.newlines.find_newline.Goals as goal

pub returns-in-Some : goal.returns-in-Some
returns-in-Some c = rw c.ending_at.ensures (rw c.as_bytes-bytes.ensures.value (first_newline c.args.text.now c.in-Some.position (rw c.as_bytes-bytes.ensures.value at c.in-Some.ensures)))

use Rattle.std.proofs.Common.{Some, None}
use Rattle.source_location.proofs.LargestLemmas.{offset_value}
use Rattle.source_location.proofs.line_index.LineIndex.offset_of.Goals as goal

pub returns-in-Some-clause-value : goal.returns-in-Some-clause-value
returns-in-Some-clause-value c = rw c.new.ensures (offset_value c.args.text.now c.args.location (Some c.in-Some.at) c.in-Some.ensures.largest)

pub returns-in-None-clause-value : goal.returns-in-None-clause-value
returns-in-None-clause-value c = offset_value c.args.text.now c.args.location None c.in-None.ensures.largest

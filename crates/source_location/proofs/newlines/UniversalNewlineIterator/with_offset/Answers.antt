use Rattle.source_location.proofs.LinesLemmas.{texts_of-lines_of, length-lines_of}
use Rattle.source_location.proofs.newlines.UniversalNewlineIterator.with_offset.Goals as goal

pub returns-clause-joined : goal.returns-clause-joined
returns-clause-joined c = texts_of-lines_of c.args.offset c.args.text.now

pub returns-clause-few : goal.returns-clause-few
returns-clause-few c = length-lines_of c.args.offset c.args.text.now

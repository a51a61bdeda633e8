-- A region is read as the bytes that it was.
use Rattle.finding_laws.proofs.LogLemmas.Span.{reads_back}
use Rattle.finding_laws.proofs.logs.region_is_read_back.Goals as goal

pub returns : goal.returns
returns c = reads_back c.args._text.now c.args._start c.args._end c.utf8._text c.requires.start c.requires.end c.requires.order

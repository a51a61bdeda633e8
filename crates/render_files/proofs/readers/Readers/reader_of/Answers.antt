-- A scanner that is taken out was one of the file, and the others stay.
use Rattle.std.proofs.Common.{subst}
use Rattle.codespan.specs.Texts.{text_of}
use Rattle.render_files.specs.Readers.{Reads}
use Rattle.render_files.proofs.KeptReaders.{fewer_readers, found_reader}
use Rattle.render_files.proofs.readers.Readers.reader_of.Goals as goal

pub invariant_of-self : goal.invariant_of-self
invariant_of-self c =
    fewer_readers (record { files = c.self.inside.files.now; rows = c.self.inside.rows }) c.self.inside.scanners c.remove.new.self c.args.file c.self.invariant c.in-Some.ensures.updates

pub returns-in-Some-clause-reads : goal.returns-in-Some-clause-reads
returns-in-Some-clause-reads c =
    subst (λ read. Reads (text_of read.files c.args.file) read.rows c.in-Some.scanner) c.self.view_is
    (found_reader (record { files = c.self.inside.files.now; rows = c.self.inside.rows }) c.self.inside.scanners c.args.file c.in-Some.scanner c.self.invariant c.in-Some.ensures.value)

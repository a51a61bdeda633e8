-- The scanner that is put back reads the file's source, whether a scanner was replaced by it or not.
use Rattle.std.proofs.Common.{subst, sym, ◌∙◌}
use Rattle.codespan.specs.Texts.{text_of}
use Rattle.render_files.specs.Readers.{FilesRead, Reads}
use Rattle.render_files.proofs.KeptReaders.{more_readers, still_alone}
use Rattle.render_files.proofs.readers.Readers.push_json.Goals as goal

pub invariant_of-self-in_ok-insert : goal.invariant_of-self-in_ok-insert
invariant_of-self-in_ok-insert c =
    let read : FilesRead = record { files = c.self.inside.files.now; rows = c.self.inside.rows } in
    let old = c.in_ok-reader_of.field-0 in
    let reads = still_alone (text_of c.args.self.now.files c.args.file) c.args.self.now.rows old c.in-Some.scanner c.push_json_with_scanner.new.scanner
    c.requires.alone c.in-Some.is c.in_ok-push_json_with_scanner.ensures.same c.in_ok-push_json_with_scanner.ensures.alone c.in_ok-reader_of.ensures.reads in
    more_readers read c.self.inside.scanners c.insert.new.self c.args.file c.in-Some.scanner c.self.invariant c.in_ok-insert.ensures.updates
    (subst (λ read. Reads (text_of read.files c.args.file) read.rows c.in-Some.scanner) (sym (c.self.view_is ∙ c.in_ok-reader_of.ensures.unchanged)) reads)

pub invariant_of-self-in_ok-insert-2 : goal.invariant_of-self-in_ok-insert-2
invariant_of-self-in_ok-insert-2 c =
    let read : FilesRead = record { files = c.self.inside.files.now; rows = c.self.inside.rows } in
    let old = c.in_ok-reader_of.field-0 in
    let reads = still_alone (text_of c.args.self.now.files c.args.file) c.args.self.now.rows old c.in-Some.scanner c.push_json_with_scanner.new.scanner
    c.requires.alone c.in-Some.is c.in_ok-push_json_with_scanner.ensures.same c.in_ok-push_json_with_scanner.ensures.alone c.in_ok-reader_of.ensures.reads in
    more_readers read c.self.inside.scanners c.insert.new.self c.args.file c.in-Some.scanner c.self.invariant c.in_ok-insert.ensures.updates
    (subst (λ read. Reads (text_of read.files c.args.file) read.rows c.in-Some.scanner) (sym (c.self.view_is ∙ c.in_ok-reader_of.ensures.unchanged)) reads)

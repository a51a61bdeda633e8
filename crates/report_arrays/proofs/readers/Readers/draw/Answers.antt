-- The scanner that stays in its place reads the file's source, and so does one that is made.
use Rattle.std.proofs.Common.{refl, subst, sym}
use Rattle.codespan.specs.Texts.{text_of}
use Rattle.oxc_handlers.specs.Report.{view_parts}
use Rattle.render_files.specs.Readers.{AreReadersOf, FilesRead, Reads}
use Rattle.render_files.proofs.KeptReaders.{can_draw, found_reader, more_readers, readers_written, still_reads}
use Rattle.report_arrays.proofs.readers.Readers.draw.Goals as goal

pub push_view_with_scanner-requires : goal.push_view_with_scanner-requires
push_view_with_scanner-requires c =
    let read : FilesRead = record { files = c.self.inside.sources.now; rows = 1 } in
    let kept = found_reader read c.self.inside.scanners c.args.file c.in-Some.scanner.now c.self.invariant c.in-Some.ensures.value in
    let reads = subst (λ files. Reads (text_of files c.args.file) 1 c.in-Some.scanner.now) c.self.view_is kept in
    can_draw (text_of c.args.self.now c.args.file) 1 c.in-Some.scanner.now (view_parts c.args.view.now)
    refl reads c.requires.source c.requires.within

pub invariant_of-self : goal.invariant_of-self
invariant_of-self c =
    let read : FilesRead = record { files = c.self.inside.sources.now; rows = 1 } in
    let reader = c.push_view_with_scanner.new.scanner in
    readers_written read c.self.inside.scanners (c.get_mut.follows.lender reader) c.args.file c.in-Some.scanner.now reader
    c.self.invariant c.in-Some.ensures.value (c.get_mut.follows.holds reader) c.push_view_with_scanner.ensures.on.same

pub invariant_of-self-3 : goal.invariant_of-self-3
invariant_of-self-3 c =
    let read : FilesRead = record { files = c.self.inside.sources.now; rows = 1 } in
    let reader = c.push_view_with_scanner-2.new.scanner in
    let made = subst (AreReadersOf read) (sym c.get_mut.follows.holds-at-none) c.self.invariant in
    more_readers read c.get_mut.follows.lender-at-none c.insert.new.self c.args.file reader made c.in_ok-insert.ensures.updates
    (still_reads (text_of read.files c.args.file) read.rows c.in_ok-scanner.scanner reader c.in_ok-scanner.ensures c.in_ok-push_view_with_scanner.ensures.on.same)

-- One note more.
use Rattle.std.proofs.Common.{map, option_map}
use Rattle.found_reports.specs.Found.{file_at}
use Rattle.found_reports.specs.Listed.{held_in}
use Rattle.line_reports.specs.Asides.{aside_parts}
use Rattle.line_reports.specs.Drawings.{drawings_parts}
use Rattle.line_reports.specs.Told.{told_parts}
use Rattle.line_reports.proofs.LabelLemmas.{asides_push, made_mark, mark_stands_by, marks_push, note_more}
use Rattle.line_reports.proofs.gathered.Gathered.marks.Goals as goal

pub loop-notes-preserved : goal.loop-notes-preserved
loop-notes-preserved c =
    let file = file_at c.args.self.now.found.files c.args.file in
    let told = held_in c.args.sources.now.entries.items in
    record {
      stand = marks_push file.held c.loop-notes.marks.items c.push.new.self.items _ c.in_ok-push.ensures.items c.loop-notes.invariant.stand (mark_stands_by file.held _ c.in_ok-span.ensures.stands c.in_ok-drawings.ensures.stand);
      asides = asides_push told c.loop-notes.marks.items c.push.new.self.items _ c.in_ok-push.ensures.items c.loop-notes.invariant.asides c.in_ok-asides.ensures.stand;
      marks = note_more c.args.columns told file c.loop-notes.notes.now c.note-item.result _ c.loop-notes.marks.items c.push.new.self.items _ c.in-len1-up.len_at_least c.note-item.is
          (made_mark c.args.columns told file (told_parts c.note-item.result) c.in_ok-span.span (drawings_parts c.in_ok-drawings.drawings) (map (option_map aside_parts) c.in_ok-asides.asides.items)
          c.in_ok-span.ensures.span c.in_ok-drawings.ensures.drawings c.in_ok-asides.ensures.asides) c.in_ok-push.ensures.items c.loop-notes.invariant.marks;
    }

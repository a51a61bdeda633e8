-- The file comes behind the others, under its key.
use Rattle.std.proofs.Common.{rules}
use Rattle.found_reports.specs.Kept.{file_view}
use Rattle.found_reports.proofs.OnceLemmas.{numbers_more, with_new}
use Rattle.found_reports.proofs.once.Once.add.Goals as goal

pub returns-clause-numbers : goal.returns-clause-numbers
returns-clause-numbers c =
    let old = c.args.self.now in
    let file = c.in_ok-number.ensures in
    numbers_more old.numbers c.insert.new.self old.found.files c.add_file.new.self.files (file_view c.args.file.now) c.args.key c.in_ok-number.number c.requires.numbers c.requires.key (search rules) file.number c.in_ok-insert.ensures.updates

pub returns-clause-files : goal.returns-clause-files
returns-clause-files c = with_new c.args.self.now.found.files c.add_file.new.self.files (file_view c.args.file.now) (search rules) c.requires.new

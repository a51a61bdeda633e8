-- What the map has of the key is the number of the file.
use Rattle.std.proofs.Common.{sym, subst}
use Rattle.found_reports.specs.Kept.{file_view}
use Rattle.found_reports.specs.Once.{IsNumber}
use Rattle.found_reports.proofs.OnceLemmas.{with_there}
use Rattle.found_reports.proofs.once.Once.added.Goals as goal

pub add-requires-clause-new : goal.add-requires-clause-new
add-requires-clause-new c =
    let file = file_view c.args.file.now in
    subst (IsNumber c.args.self.now.found.files file) (sym c.in-None.ensures.value) (c.requires.numbers c.in_ok-key.key file c.in_ok-key.ensures)

pub returns-in-Some-clause-at : goal.returns-in-Some-clause-at
returns-in-Some-clause-at c =
    let file = file_view c.args.file.now in
    subst (IsNumber c.args.self.now.found.files file) (sym c.in-Some.ensures.value) (c.requires.numbers c.in_ok-key.key file c.in_ok-key.ensures)

pub returns-in-Some-clause-files : goal.returns-in-Some-clause-files
returns-in-Some-clause-files c =
    let files = c.args.self.now.found.files in
    let file = file_view c.args.file.now in
    with_there files file c.in-Some.number.now (subst (IsNumber files file) (sym c.in-Some.ensures.value) (c.requires.numbers c.in_ok-key.key file c.in_ok-key.ensures))

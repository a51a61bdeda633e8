-- The known files and one more are among those of the reports.
use Rattle.sarif.specs.Views.{had_view, reading_view}
use Rattle.sarif.proofs.KnownLemmas.{filed_grown}
use Rattle.sarif.proofs.known.seat_of.Goals as goal

pub returns-in_ok-push-in-Some-2-clause-filed : goal.returns-in_ok-push-in-Some-2-clause-filed
returns-in_ok-push-in-Some-2-clause-filed g c =
    let file = c.in_ok-file-in-Some-2 in
    rw c.in_ok-push-in-Some-2.ensures.files
    (filed_grown (reading_view c.args.reading.now) c.args.found.now.files c.known_file.new.found.files (had_view c.in-Some-2.had) c.args.known.now.files.items file.file file.ensures.files c.requires.filed file.ensures.filed)

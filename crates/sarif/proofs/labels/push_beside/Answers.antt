-- A label on a span of the text stands in it.
use Rattle.std.proofs.Common.{◌≡◌, All, false}
use Rattle.std.proofs.lemmas.Result.{on_ok_weaker}
use Rattle.found_reports.specs.Found.{StandsIn}
use Rattle.found_reports.specs.Held.{held_text}
use Rattle.sarif.specs.Seen.{borrowed}
use Rattle.sarif.specs.Labels.{and_label}
use Rattle.sarif.specs.Views.{known_view}
use Rattle.sarif.proofs.LabelLemmas.{label_stands, stands_with}
use Rattle.sarif.proofs.labels.push_beside.Goals as goal

pub returns-in_ok-label_on-in-Some-clause-stand : goal.returns-in_ok-label_on-in-Some-clause-stand
returns-in_ok-label_on-in-Some-clause-stand c =
    let text = held_text (known_view c.args.file.now).held in
    let message = borrowed c.args.it.now.message in
    let label = c.in_ok-label_on-in-Some.field-0 in
    let stands : StandsIn text label = rw c.in_ok-label_on-in-Some.ensures (label_stands text false message c.in-Some.span c.in-Some.ensures.stands) in
    let more : c.push_label.new.labels.items ≡ and_label c.args.labels.now.items label → All (StandsIn text) c.push_label.new.labels.items =
    λ e. rw e (stands_with text c.args.labels.now.items label c.requires.stand stands) in
    on_ok_weaker _ more c.push_label.ensures

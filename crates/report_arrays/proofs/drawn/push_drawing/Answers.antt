-- What is drawn of a report is what it shows, and its labels end within the source that is read.
use Rattle.std.proofs.Common.{◌≡◌, ◌++◌, OnOk, string_bytes, subst, ◌∙◌}
use Rattle.report_arrays.specs.Values.{report}
use Rattle.render_files.proofs.ListedLemmas.{view_within}
use Rattle.render_files.proofs.ShownLemmas.{drawn_without_url}
use Rattle.report_arrays.proofs.PartsLemmas.{same_labels, same_parts, same_source}
use Rattle.report_arrays.proofs.drawn.push_drawing.Goals as goal

pub draw-requires-clause-within : goal.draw-requires-clause-within
unfolding report
draw-requires-clause-within c =
    view_within c.args.sources.now c.args.readers.now (report c.args.texts.now c.args.labels.now c.args.report.now) c.as_slice.result.now
    c.requires.known
    (c.as_slice.ensures.value ∙ same_labels c.args.sources.now c.args.texts.now c.args.labels.now c.args.report.now _ _ _
    c.source-source.ensures c.report_labels.ensures c.in_ok-labels.ensures)
    c.requires.stands

pub returns-clause-text : goal.returns-clause-text
unfolding report
returns-clause-text c =
    let it = report c.args.texts.now c.args.labels.now c.args.report.now in
    let labels = c.as_slice.ensures.value ∙ same_labels c.args.sources.now c.args.texts.now c.args.labels.now c.args.report.now _ _ _
    c.source-source.ensures c.report_labels.ensures c.in_ok-labels.ensures in
    let shown = same_parts _ _ _ _ _ _ _ _ _ _ _ _ _ _ c.text.ensures (c.as_deref.ensures.value ∙ c.in_ok-code.ensures) c.severity_of.ensures
    c.optional_text.ensures c.optional_text-2.ensures
    (same_source _ _ _ _ _ c.new.ensures (c.as_bytes.ensures.value ∙ c.source-source.ensures) c.name.ensures) labels in
    subst (λ drawing. OnOk c.draw.result (string_bytes c.draw.new.out ≡ string_bytes c.args.out.now ++ drawing))
    (drawn_without_url c.args.handler.now c.args.sources.now it _ shown) c.draw.ensures.text

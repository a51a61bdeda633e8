-- Reports of which none is refused stand in their files.
use Rattle.std.proofs.Common.{sym, map, ◌∙◌}
use Rattle.report_arrays.specs.Values.{report}
use Rattle.render_files.proofs.Standing.{all_stand}
use Rattle.report_arrays.proofs.drawn.arrays_text.Goals as goal

pub draw_all-requires : goal.draw_all-requires
draw_all-requires c =
    all_stand c.new-sources.result (map (report c.args.texts.now c.args.labels.now) c.args.reports.now) (sym c.first_refusal.ensures ∙ c.in-None.is)

use Rattle.std.proofs.Common.{◌∙◌, sym, string_bytes}
use Rattle.std.specs.Option.{option_copied}
use Rattle.oxc_plan.specs.Plan.{row_plan_view}
use Rattle.oxc_handlers.specs.RowLines.{hang_line}
use Rattle.oxc_handlers.proofs.LinesLemmas.{line_more, line_none, lines_all}
use Rattle.oxc_handlers.proofs.hangs.write_label_text.Goals as goal

pub loop-rest-preserved : goal.loop-rest-preserved
loop-rest-preserved c =
    rw c.in_ok-write_label_line.ensures
    (line_more (hang_line c.args.setting.now (row_plan_view c.args.row.now) c.args.hang) (string_bytes c.loop-rest.out) c.loop-rest.mode c.in-Some.lines.now c.first_line.result.0.now (option_copied c.first_line.result.1) c.first_line.ensures.lines
    ∙ (rw c.in-Some.is at c.loop-rest.invariant))

pub returns : goal.returns
returns c =
    sym (line_none (hang_line c.args.setting.now (row_plan_view c.args.row.now) c.args.hang) (string_bytes c.loop-rest.out) c.loop-rest.mode)
    ∙ (rw c.in_default.is at c.loop-rest.invariant)
    ∙ lines_all (hang_line c.args.setting.now (row_plan_view c.args.row.now) c.args.hang) (string_bytes c.args.out.now) c.first_mode-mode.result c.args.text.now c.first_mode-mode.ensures

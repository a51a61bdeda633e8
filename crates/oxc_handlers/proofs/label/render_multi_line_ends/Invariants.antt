use Rattle.std.proofs.Common.{◌≡◌, ◌++◌, string_bytes, drop}
use Rattle.std.specs.List.{flat_map}
use Rattle.oxc_plan.specs.Plan.{row_plan_view}
use Rattle.oxc_handlers.specs.RowLines.{end_lines}
use Rattle.oxc_handlers.proofs.label.render_multi_line_ends.Given as goal

abbrev pub invariant-loop-label : goal.invariant-loop-label
invariant-loop-label l =
    string_bytes l.out ++ flat_map (end_lines l.setting (row_plan_view l.row)) (drop l.label-index l.row.ends.items)
    ≡ string_bytes l.initial.out ++ flat_map (end_lines l.setting (row_plan_view l.row)) l.row.ends.items

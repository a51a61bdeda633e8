use Rattle.std.proofs.Common.{◌≡◌, ◌++◌, string_bytes, drop, map}
use Rattle.std.specs.List.{flat_map}
use Rattle.oxc_plan.specs.Plan.{row_plan_view}
use Rattle.oxc_handlers.specs.RowLines.{row_lines}
use Rattle.oxc_handlers.proofs.snippet.render_rows.Given as goal

abbrev pub invariant-loop-row : goal.invariant-loop-row
invariant-loop-row l =
    string_bytes l.out ++ flat_map (row_lines l.setting) (map row_plan_view (drop l.row-index l.rows))
    ≡ string_bytes l.initial.out ++ flat_map (row_lines l.setting) (map row_plan_view l.rows)

use Rattle.oxc_plan.specs.Plan.{row_plan_view}
use Rattle.oxc_handlers.specs.RowLines.{IsRow}
use Rattle.oxc_handlers.proofs.SettingLemmas.{all_map_at}
use Rattle.oxc_handlers.proofs.snippet.render_rows.Goals as goal

pub render_row-requires : goal.render_row-requires
render_row-requires c = all_map_at (IsRow c.args.setting.now) row_plan_view c.args.rows.now c.loop-row.row-index c.row-item.result c.requires c.loop-row-test.true c.row-item.is

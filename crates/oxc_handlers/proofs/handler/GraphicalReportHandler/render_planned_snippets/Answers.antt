use Rattle.std.proofs.Common.{◌<◌, ◌^◌, All, arith, length, map, subst, sym}
use Rattle.oxc_plan.specs.Plan.{in_order, snippet_view}
use Rattle.oxc_handlers.specs.Setting.{SettingView}
use Rattle.oxc_handlers.specs.Snippet.{IsSnippet}
use Rattle.oxc_handlers.proofs.DrawableLemmas.{drawable_snippets}
use Rattle.oxc_handlers.proofs.handler.GraphicalReportHandler.render_planned_snippets.Goals as goal

pub render_snippets-requires : goal.render_snippets-requires
render_snippets-requires c =
    subst (λ (s : SettingView). All (IsSnippet s.theme s.tab s.labels) (map snippet_view c.args.snippets.now)) (sym c.new-setting.ensures)
    (drawable_snippets c.self.inside.theme c.self.inside.tabs (in_order c.args.view.now.labels.now) (length c.args.view.now.labels.now) (map snippet_view c.args.snippets.now) c.requires.few c.requires.drawable)

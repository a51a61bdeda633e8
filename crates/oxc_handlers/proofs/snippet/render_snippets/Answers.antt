use Rattle.oxc_plan.specs.Plan.{snippet_view}
use Rattle.oxc_handlers.specs.Snippet.{IsSnippet}
use Rattle.oxc_handlers.proofs.SettingLemmas.{all_map_at}
use Rattle.oxc_handlers.proofs.snippet.render_snippets.Goals as goal

pub render_snippet-requires : goal.render_snippet-requires
render_snippet-requires c =
    let setting = c.args.setting.now in
    all_map_at (IsSnippet setting.theme setting.tab setting.labels) snippet_view c.args.snippets.now c.loop-snippet.snippet-index c.snippet-item.result c.requires c.loop-snippet-test.true c.snippet-item.is

use Rattle.std.proofs.Common.{◌≡◌, ◌++◌, string_bytes, drop, map}
use Rattle.std.specs.List.{flat_map}
use Rattle.std.specs.Option.{option_copied}
use Rattle.oxc_plan.specs.Plan.{snippet_view}
use Rattle.oxc_handlers.specs.Snippet.{drawn_snippet}
use Rattle.oxc_handlers.proofs.snippet.render_snippets.Given as goal

abbrev pub invariant-loop-snippet : goal.invariant-loop-snippet
invariant-loop-snippet l =
    let setting = l.setting in
    string_bytes l.out ++ flat_map (drawn_snippet setting.theme setting.tab setting.labels (option_copied l.name)) (map snippet_view (drop l.snippet-index l.snippets))
    ≡ string_bytes l.initial.out ++ flat_map (drawn_snippet setting.theme setting.tab setting.labels (option_copied l.name)) (map snippet_view l.snippets)

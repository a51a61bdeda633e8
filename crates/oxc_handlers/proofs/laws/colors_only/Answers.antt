-- Each line of a colored snippet without its escapes is that of the other one.
use Rattle.std.specs.Option.{option_copied}
use Rattle.oxc_plan.specs.Plan.{in_order, snippet_view}
use Rattle.oxc_handlers.proofs.SnippetColors.{snippet_unstyled}
use Rattle.oxc_handlers.proofs.laws.colors_only.Goals as goal

pub returns : goal.returns
returns c = snippet_unstyled c.args._tab (in_order c.args._labels.now) (option_copied c.args._name) (snippet_view c.args._snippet.now)

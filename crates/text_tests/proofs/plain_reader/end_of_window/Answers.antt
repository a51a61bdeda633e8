use Rattle.std.proofs.Common.{sym, ◌∙◌}
use Rattle.oxc_windows.proofs.WindowLemmas.{pair_within}
use Rattle.text_tests.proofs.plain_reader.end_of_window.Goals as goal

pub returns-then-begins_pair-clause-inside : goal.returns-then-begins_pair-clause-inside
returns-then-begins_pair-clause-inside c =
    pair_within c.args.len c.args.breaks.now c.saturating_sub-last.result c.requires.valid (sym c.begins_pair.ensures ∙ c.if-begins_pair.true)

-- A key that is kept.
use Rattle.std.proofs.Common.{ap, ◌∙◌}
use Rattle.std.specs.BTreeSet.{contains_text}
use Rattle.build_dirs.specs.Again.{seen_in}
use Rattle.build_dirs.proofs.AgainLemmas.{key_kept}
use Rattle.build_dirs.proofs.again.SeenKeys.meets.Goals as goal

pub returns-clause-value : goal.returns-clause-value
unfolding seen_in
returns-clause-value c = c.contains-is.ensures ∙ ap (contains_text c.args.self.now.keys) c.as_str.ensures.value

pub returns-clause-kept : goal.returns-clause-kept
unfolding seen_in
returns-clause-kept c = key_kept c.args.self.now.keys c.insert.new.self c.args.key c.in_ok-insert.ensures.updates

use Rattle.render_files.proofs.ByBytes.{same_refusal, same_views}
use Rattle.render_files.proofs.laws.offsets_show_the_same.Goals as goal

pub returns-clause-accepted : goal.returns-clause-accepted
returns-clause-accepted c = same_refusal _ _ _ c.requires.accepted c.requires.replaced

pub returns-clause-same : goal.returns-clause-same
returns-clause-same c = same_views _ _ _ c.requires.accepted c.requires.replaced

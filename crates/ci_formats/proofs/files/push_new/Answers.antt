use Rattle.std.proofs.Common.{◌∙◌, sym}
use Rattle.std.specs.BTreeSet.{contains}
use Rattle.std.proofs.lemmas.Bool.{not-true}
use Rattle.found_reports.specs.Names.{name_order}
use Rattle.ci_formats.proofs.FilesLemmas.{knows_added}
use Rattle.ci_formats.proofs.files.push_new.Goals as goal

pub returns-in_ok-push-clause-known : goal.returns-in_ok-push-clause-known
returns-in_ok-push-clause-known c =
    knows_added c.args.known.now c.insert.new.self c.args.names.now.items c.push.new.self.items c.args.name c.requires
    (not-true (contains name_order c.args.known.now c.args.name) (sym c.in_ok-insert.ensures.added ∙ c.if-branch.true))
    c.in_ok-insert.ensures.updates.0 c.in_ok-push.ensures.items

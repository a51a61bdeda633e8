use Rattle.std.proofs.Common.{◌++◌, ◌∙◌, ap, sym, subst}
use Rattle.std.specs.Option.{option_to_list}
use Rattle.oxc_protocol.specs.Parts.{OxcParts}
use Rattle.lsp_server.specs.Moved.{CanMoveAll, moved_diagnostic}
use Rattle.lsp_server.proofs.MovedLemmas.{all_kept, more_kept}
use Rattle.lsp_server.proofs.moved.moved_all.Goals as goal

pub loop-diagnostic-preserved : goal.loop-diagnostic-preserved
loop-diagnostic-preserved c =
    more_kept (moved_diagnostic c.args.change) c.args.found.now c.loop-diagnostic.diagnostic-index c.diagnostic-item.result c.loop-diagnostic.moved.items c.push_some.new.list.items
    c.loop-diagnostic-test.true c.diagnostic-item.is (c.in_ok-push_some.ensures ∙ ap (λ one. c.loop-diagnostic.moved.items ++ option_to_list one) c.in_ok-diagnostic.ensures) c.loop-diagnostic.invariant

pub returns : goal.returns
returns c = all_kept (moved_diagnostic c.args.change) c.args.found.now c.loop-diagnostic.diagnostic-index c.loop-diagnostic.moved.items c.loop-diagnostic-test.false c.loop-diagnostic.invariant

pub moved_diagnostic-requires : goal.moved_diagnostic-requires
moved_diagnostic-requires c =
    subst (λ (it : OxcParts). CanMoveAll c.args.change it) (sym c.diagnostic-item.is)
    (c.requires c.loop-diagnostic.diagnostic-index c.diagnostic-item.result c.loop-diagnostic-test.true)

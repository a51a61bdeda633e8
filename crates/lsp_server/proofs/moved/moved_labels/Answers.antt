use Rattle.std.proofs.Common.{◌++◌, ◌∙◌, ap}
use Rattle.std.specs.Option.{option_to_list}
use Rattle.lsp_server.specs.Moved.{moved_label}
use Rattle.lsp_server.proofs.MovedLemmas.{all_kept, more_kept}
use Rattle.lsp_server.proofs.moved.moved_labels.Goals as goal

pub loop-label-preserved : goal.loop-label-preserved
loop-label-preserved c =
    more_kept (moved_label c.args.change) c.args.labels.now c.loop-label.label-index c.label-item.result c.loop-label.moved.items c.push_some.new.list.items
    c.loop-label-test.true c.label-item.is (c.in_ok-push_some.ensures ∙ ap (λ one. c.loop-label.moved.items ++ option_to_list one) c.in_ok-label.ensures) c.loop-label.invariant

pub returns : goal.returns
returns c = all_kept (moved_label c.args.change) c.args.labels.now c.loop-label.label-index c.loop-label.moved.items c.loop-label-test.false c.loop-label.invariant

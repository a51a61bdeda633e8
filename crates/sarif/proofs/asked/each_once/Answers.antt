-- One name more, and in the end all of them.
use Rattle.std.proofs.Common.{[], ap, map, string_bytes, ◌∙◌}
use Rattle.std.proofs.lemmas.List.{take_all}
use Rattle.sarif.specs.Asked.{and_name, and_names}
use Rattle.sarif.proofs.AskedLemmas.{knows_none, once_more}
use Rattle.sarif.proofs.asked.each_once.Goals as goal

pub loop-name-init : goal.loop-name-init
unfolding and_names
loop-name-init c = record {
  once = ap (map string_bytes) c.new-once.ensures.items;
  known = knows_none c.new-known.result c.new-once.result.items c.new-known.ensures.empty c.new-once.ensures.items;
}

pub loop-name-preserved : goal.loop-name-preserved
loop-name-preserved c = record {
  once =
      c.in_ok-push_new.ensures.names ∙ ap (and_name (map string_bytes c.loop-name.once.items)) c.as_str.ensures.value
      ∙ once_more c.args.names.now c.loop-name.name-index c.name-item.result (map string_bytes c.loop-name.once.items) c.loop-name-test.true c.name-item.is c.loop-name.invariant.once;
  known = c.in_ok-push_new.ensures.known;
}

pub returns : goal.returns
returns c = c.loop-name.invariant.once ∙ ap (λ those. and_names [] (map string_bytes those)) (take_all c.loop-name.name-index c.args.names.now c.loop-name-test.false)

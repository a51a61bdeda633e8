-- The request is answered first, and nothing that is looked up is an answer.
use Rattle.std.proofs.Common.{◌∙◌, List, Option, ℕ, sym, subst}
use Rattle.std.specs.Option.{option_copied, option_to_list}
use Rattle.lsp_server.specs.Session.{is_running}
use Rattle.girzohal_lsp.specs.Served.{IsLookedUp, uris_of}
use Rattle.girzohal_lsp.proofs.ServedLemmas.{answered_once, none_looked_up, those_looked_up, told_alone}
use Rattle.girzohal_lsp.proofs.serve.answers_to.Goals as goal

pub returns-then-not-is_running : goal.returns-then-not-is_running
returns-then-not-is_running c =
    let bytes = option_copied c.args.kept.now.bytes in
    let start = c.new-answers.result.items in
    let added = c.push_some.new.list.items in
    let message = c.args.message in
    let told = c.in_ok-answer.answer in
    let between = c.take.new.self in
    record {
      between = between;
      told = told;
      step = c.in_ok-answer.ensures.step;
      looks = none_looked_up c.args.kept.now.asked bytes (is_running between.phase) (uris_of message between) between (option_to_list told) added
          (sym c.is_running.ensures ∙ c.if-not-is_running.true) (told_alone start added told c.new-answers.ensures.items c.in_ok-push_some.ensures);
      once = answered_once start added told message c.new-answers.ensures.items c.in_ok-push_some.ensures c.in_ok-answer.ensures.once;
      phase = c.in_ok-answer.ensures.step.phase;
    }

pub returns : goal.returns
returns c =
    let bytes = option_copied c.args.kept.now.bytes in
    let start = c.new-answers.result.items in
    let added = c.push_some.new.list.items in
    let message = c.args.message in
    let told = c.in_ok-answer.answer in
    let between = c.take.new.self in
    let asked = c.args.kept.now.asked in
    let new = c.look_up.new.server in
    let answers = c.look_up.new.answers.items in
    let looks = subst (λ (uris : Option (List (List ℕ))). IsLookedUp asked bytes uris between new added answers)
    (c.in_ok-wanted.ensures between) c.in_ok-look_up.ensures.looks in
    let alone = told_alone start added told c.new-answers.ensures.items c.in_ok-push_some.ensures in
    record {
      between = between;
      told = told;
      step = c.in_ok-answer.ensures.step;
      looks = those_looked_up asked bytes (is_running between.phase) (uris_of message between) between new (option_to_list told) answers
          (sym c.is_running.ensures ∙ c.if-not-is_running.false)
          (subst (λ before. IsLookedUp asked bytes (uris_of message between) between new before answers) alone looks);
      once = c.in_ok-look_up.ensures.none
          ∙ answered_once start added told message c.new-answers.ensures.items c.in_ok-push_some.ensures c.in_ok-answer.ensures.once;
      phase = c.in_ok-look_up.ensures.phase ∙ c.in_ok-answer.ensures.step.phase;
    }

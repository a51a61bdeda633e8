use Rattle.lsp_server.proofs.SessionLemmas.{told_more}
use Rattle.lsp_server.proofs.server.Server.take_each.Goals as goal

pub loop-message-preserved : goal.loop-message-preserved
loop-message-preserved c =
    told_more c.args.self.now c.loop-message.self c.take.new.self c.loop-message.yielded c.in-Some.message c.loop-message.answers.items c.push_some.new.list.items c.in_ok-told.told
    c.loop-message.invariant c.in_ok-told.ensures.step c.in_ok-told.ensures.once c.in_ok-push_some.ensures

use Rattle.std.proofs.Common.{arith}
use Rattle.std.proofs.lemmas.Grind.{common_steps}
use Rattle.std.proofs.lemmas.List.{take_rest}
use Rattle.lsp_server.specs.Ends.{shown}
use Rattle.lsp_server.proofs.Runs.{ends_on, more_on}
use Rattle.lsp_server.proofs.frames.Frames.next.Goals as goal

pub loop-used-preserved : goal.loop-used-preserved
loop-used-preserved c =
    (grind (arith, common_steps), more_on c.advance-taken.result.end (shown c.args.self.now) (shown c.loop-used.self) (shown c.advance-taken.new.self) c.args.bytes.now c.loop-used.used c.advance-taken.result.used c.in-More.is c.loop-used.invariant.1 (rw take_rest at c.advance-taken.ensures.ends))

pub returns-in_default-clause-ends : goal.returns-in_default-clause-ends
returns-in_default-clause-ends c =
    ends_on c.advance-taken.result.end (shown c.args.self.now) (shown c.loop-used.self) (shown c.advance-taken.new.self) c.args.bytes.now c.loop-used.used c.advance-taken.result.used c.loop-used.invariant.1 (rw take_rest at c.advance-taken.ensures.ends)

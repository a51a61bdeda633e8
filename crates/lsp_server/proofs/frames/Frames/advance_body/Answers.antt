use Rattle.std.proofs.Common.{rules, ◌≡◌, ◌+◌, ◌++◌, [], arith, take}
use Rattle.lsp_server.proofs.Runs.{within_at, whole_at}
use Rattle.lsp_server.proofs.frames.Frames.advance_body.Goals as goal

pub returns-else-is_err-clause-ends : goal.returns-else-is_err-clause-ends
returns-else-is_err-clause-ends c =
    let now : c.extend_from_slice.new.self.items ≡ c.args.self.now.body.items ++ c.args.bytes.now = search rules in
    within_at c.args.self.now.state c.args.more c.args.self.now.body.items c.args.bytes.now c.extend_from_slice.new.self.items c.requires.state (omega arith) now

pub returns-else-is_err-2-clause-ends : goal.returns-else-is_err-2-clause-ends
returns-else-is_err-2-clause-ends c =
    let whole : c.replace-whole.result.items ≡ c.args.self.now.body.items ++ take (c.args.more + 1) c.args.bytes.now = search rules in
    let rest : c.replace-whole.new.dest.items ≡ [] = search rules in
    whole_at c.args.self.now.state c.args.more c.args.self.now.body.items c.args.bytes.now c.replace-whole.result.items c.replace-whole.new.dest.items c.requires.state (omega arith) whole rest

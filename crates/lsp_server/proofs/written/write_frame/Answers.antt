use Rattle.std.proofs.Common.{ℕ, List, sym, subst}
use Rattle.lsp_server.specs.Written.{IsWhole}
use Rattle.lsp_server.proofs.WrittenLemmas.{frame_read}
use Rattle.lsp_server.proofs.written.write_frame.Goals as goal

pub returns-clause-read : goal.returns-clause-read
returns-clause-read c = λ small. subst (λ (xs : List ℕ). IsWhole xs c.args.body.now) (sym c.in_ok-bytes.ensures) (frame_read c.args.body.now small)

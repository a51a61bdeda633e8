use Rattle.std.proofs.Common.{◌≤◌, sym, subst}
use Rattle.serde_json.specs.Data.{Data, depth}
use Rattle.lsp_server.specs.Files.{seen}
use Rattle.lsp_server.proofs.ShallowLemmas.{published_shallow}
use Rattle.lsp_server.proofs.told.published.Goals as goal

pub returns-clause-shallow : goal.returns-clause-shallow
returns-clause-shallow c =
    subst (λ (d : Data). depth d ≤ 8) (sym c.in_ok-value.ensures) (published_shallow (seen c.args.file.now) c.args.diagnostics.now)

-- The log is a tool's lines.
use Rattle.std.proofs.Common.{rules, ◌≡◌, ℕ, List, Option, Some, map, string_bytes, sym, subst}
use Rattle.source_store.specs.Named.{path_in}
use Rattle.source_store.specs.declared.named.Spelling.TheVariants.{Uri}
use Rattle.girzohal_lsp.specs.Blocks.{block_parts}
use Rattle.girzohal_lsp.specs.Found.{ShowsAt}
use Rattle.girzohal_lsp.specs.declared.log.LogFile.TheVariants.{Lines}
use Rattle.girzohal_lsp.proofs.KeptLemmas.{lines_shown}
use Rattle.girzohal_lsp.proofs.found.found_in.Goals as goal

pub returns-in-Lines-clause-shown : goal.returns-in-Lines-clause-shown
returns-in-Lines-clause-shown c =
    let kept = c.args.kept.now in
    let path = c.as_str-path.result.now in
    let text = c.args.text.now in
    let bytes = c.in-Lines.field-0 in
    let shown = c.in_ok-shown-in-Lines.shown.items in
    let known : path_in Uri c.args.uri.now ≡ Some path = search rules in
    let is : kept.log.now ≡ Lines bytes = search rules in
    subst (λ (o : Option (List ℕ)). ShowsAt kept.asked kept.log.now o text shown) (sym known)
    (lines_shown kept.asked kept.log.now bytes (map string_bytes kept.names.now) (map string_bytes kept.paths.now) (map block_parts kept.blocks.now) path text shown is c.requires.parts
    (c.in_ok-shown-in-Lines.ensures.shown bytes.now))

-- The findings of the blocks with what the one open file gives of all names.
use Rattle.std.proofs.Common.{rules, ◌≡◌, ◌∙◌, ℕ, List, All, map, string_bytes, subst}
use Rattle.std.specs.List.{flat_map}
use Rattle.oxc_protocol.specs.Parts.{OxcParts}
use Rattle.found_reports.specs.Listed.{held_in}
use Rattle.source_store.specs.Given.{IsGiven}
use Rattle.source_store.specs.declared.named.Spelling.TheVariants.{Path}
use Rattle.tool_lines.specs.Lines.{lines_of}
use Rattle.tool_lines.specs.Paint.{unpainted}
use Rattle.lsp_server.specs.Seen.{StandIn}
use Rattle.girzohal_lsp.specs.Blocks.{block_parts, picked_in}
use Rattle.girzohal_lsp.specs.declared.block.Block.{Block}
use Rattle.girzohal_lsp.specs.Found.{AreFitted, columns_of, told_open}
use Rattle.girzohal_lsp.proofs.BlockLemmas.{blocks_picked, blocks_seen}
use Rattle.girzohal_lsp.proofs.FoundLemmas.{all_stand}
use Rattle.girzohal_lsp.proofs.found.found_in_lines.Goals as goal

pub returns-clause-shown : goal.returns-clause-shown
returns-clause-shown c = λ bytes keeps.
    let kept = c.args.kept.now in
    let path = c.args.path.now in
    let text = c.args.text.now in
    let all = lines_of (unpainted bytes) in
    let given = held_in c.in_ok-sources.sources.entries.items in
    let columns = columns_of kept.asked in
    let shown = c.in_ok-shown.shown.items in
    let fitted : AreFitted text (flat_map (λ (block : Block). picked_in path columns given (block_parts block)) kept.blocks.now) shown = search rules in
    record {
      pieces = keeps.are_read.pieces;
      those = keeps.are_read.those;
      reads = keeps.reads;
      of_them = keeps.are_read.of_them;
      read = keeps.are_read.read;
      given = given;
      told_so = subst (λ (l : List (List ℕ)). IsGiven (told_open path text) Path l given) keeps.names_are c.in_ok-sources.ensures;
      are = subst (λ (l : List OxcParts). AreFitted text l shown)
          (blocks_seen (picked_in path columns given) kept.blocks.now ∙ blocks_picked path columns given all keeps.reads (map block_parts kept.blocks.now) keeps.blocks_are) fitted;
    }

pub returns-clause-stand : goal.returns-clause-stand
returns-clause-stand c =
    let kept = c.args.kept.now in
    let given = held_in c.in_ok-sources.sources.entries.items in
    let picked = flat_map (λ (block : Block). picked_in c.args.path.now (columns_of kept.asked) given (block_parts block)) kept.blocks.now in
    let fitted : AreFitted c.args.text.now picked c.in_ok-shown.shown.items = search rules in
    all_stand c.args.text.now picked c.in_ok-shown.shown.items fitted

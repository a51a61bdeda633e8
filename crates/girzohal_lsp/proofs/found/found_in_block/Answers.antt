-- Nothing is found in a block none of whose names means the file.
use Rattle.std.proofs.Common.{rules, ◌≡◌, ◌∙◌, ℕ, List, false, map, string_bytes, sym, subst}
use Rattle.std.specs.List.{filter_map, list_any}
use Rattle.found_reports.specs.Found.{Found}
use Rattle.found_reports.specs.Listed.{held_in}
use Rattle.line_reports.specs.Names.{names_in}
use Rattle.line_reports.specs.Pieces.{read_parts}
use Rattle.line_reports.specs.Reports.{reports_in}
use Rattle.source_store.specs.Matching.{is_named}
use Rattle.source_store.specs.declared.named.Spelling.TheVariants.{Path}
use Rattle.girzohal_lsp.specs.Blocks.{picked_in, block_parts}
use Rattle.girzohal_lsp.specs.Found.{AreShown}
use Rattle.girzohal_lsp.proofs.BlockLemmas.{all_missed, none_picked}
use Rattle.girzohal_lsp.proofs.FoundLemmas.{none_fitted}
use Rattle.girzohal_lsp.proofs.found.found_in_block.Goals as goal

pub returns-then-not-is_one_named : goal.returns-then-not-is_one_named
returns-then-not-is_one_named c =
    let block = c.args.block.now in
    let path = c.args.path.now in
    let told = held_in c.args.sources.now.entries.items in
    let lines : List (List ℕ) = map (λ line. line.now) block.lines.now in
    let reads = map read_parts block.reads.now in
    let none : list_any (is_named path) (map string_bytes block.paths.items) ≡ false = search rules in
    let missed = all_missed Path path (names_in lines reads) (subst (λ (paths : List (List ℕ)). list_any (is_named path) paths ≡ false) block.named none) in
    none_fitted c.args.text.now (picked_in path c.args.columns told (block_parts block)) c.new.result.items (none_picked path c.args.columns told lines reads missed) c.new.ensures.items

pub returns : goal.returns
returns c =
    let block = c.args.block.now in
    let told = held_in c.args.sources.now.entries.items in
    let lines : List (List ℕ) = map (λ line. line.now) block.lines.now in
    let found : c.in_ok-found.found.found ≡ reports_in c.args.columns told lines (map read_parts block.reads.now) = search rules in
    subst (λ (l : List Found). AreShown Path c.args.path.now c.args.text.now l c.in_ok-shown.shown.items) found c.in_ok-shown.ensures.shown

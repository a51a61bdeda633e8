use Rattle.std.proofs.Common.{rules, ◌≡◌, string_bytes}
use Rattle.source_store.specs.Named.{path_in}
use Rattle.source_store.specs.Place.{text_bytes}
use Rattle.girzohal_lsp.proofs.BlockLemmas.{all_paths, path_more}
use Rattle.girzohal_lsp.proofs.lines.paths_of.Goals as goal

pub loop-name-preserved : goal.loop-name-preserved
loop-name-preserved c =
    let name = c.name-item.result in
    let meant : text_bytes c.in_ok-path.path ≡ path_in c.args.spelling (string_bytes name) = search rules in
    path_more c.args.spelling c.args.names.now c.loop-name.name-index name c.in_ok-path.path c.loop-name.paths.items c.push_some.new.list.items
    c.loop-name-test.true c.name-item.is meant c.in_ok-push_some.ensures c.loop-name.invariant

pub returns : goal.returns
returns c = all_paths c.args.spelling c.args.names.now c.loop-name.name-index _ c.loop-name-test.false c.loop-name.invariant

-- The names were sought from the start of a build.
use Rattle.std.proofs.Common.{map}
use Rattle.tool_lines.specs.Lines.{piece_parts}
use Rattle.build_dirs.specs.Dirs.{dirs_parts}
use Rattle.drawn_lines.specs.Coming.{root_of}
use Rattle.drawn_lines.specs.Named.{name_texts}
use Rattle.drawn_lines.proofs.NamedLemmas.{each_named}
use Rattle.girzohal_run.proofs.NamedLemmas.{sought_all}
use Rattle.girzohal_run.proofs.lines.first_names.Goals as goal

pub returns-clause-sought : goal.returns-clause-sought
returns-clause-sought g c =
    sought_all (g.S.Store.told c.args.store.now) c.args.asked.now c.args.sources.now.entries.items c.names_between.new.sources.entries.items
    (map (λ line. line.now) c.args.lines.now) (map piece_parts c.args.pieces.now) (name_texts c.in_ok-names.names.items) (dirs_parts c.new-dirs.result)
    c.new-dirs.ensures (rw c.as_str-root.ensures.value at c.in_ok-names.ensures.names) (rw c.as_str-root.ensures.value at c.in_ok-names.ensures.tried)

pub returns-clause-each : goal.returns-clause-each
returns-clause-each g c =
    each_named (root_of c.args.asked.now) c.names_between.new.sources.entries.items (dirs_parts c.new-dirs.result) (map (λ line. line.now) c.args.lines.now)
    (map piece_parts c.args.pieces.now) (name_texts c.in_ok-names.names.items) (rw c.as_str-root.ensures.value at c.in_ok-names.ensures.names)

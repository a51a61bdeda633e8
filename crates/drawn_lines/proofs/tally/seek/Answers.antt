-- The names were sought, and the rest of the tally stays.
use Rattle.std.proofs.Common.{refl, map}
use Rattle.tool_lines.specs.Lines.{piece_parts}
use Rattle.drawn_lines.specs.Coming.{dirs_of, root_of}
use Rattle.drawn_lines.specs.Named.{name_texts}
use Rattle.drawn_lines.proofs.NamedLemmas.{each_named, seeks_by}
use Rattle.drawn_lines.proofs.tally.seek.Goals as goal

pub returns-clause-seeks : goal.returns-clause-seeks
returns-clause-seeks g c =
    let names_are = rw c.as_str-root.ensures.value at c.in_ok-names.ensures.names in
    let tried_so = rw c.as_str-root.ensures.value at c.in_ok-names.ensures.tried in
    seeks_by (g.S.Store.told c.args.store.now) c.args.asked.now c.args.tally _ (map (λ line. line.now) c.args.lines.now) (map piece_parts c.args.pieces.now)
    (name_texts c.in_ok-names.names.items) names_are tried_so c.in_ok-names.ensures.dirs refl refl refl

pub returns-clause-each : goal.returns-clause-each
returns-clause-each g c =
    each_named (root_of c.args.asked.now) _ (dirs_of c.args.tally) (map (λ line. line.now) c.args.lines.now) (map piece_parts c.args.pieces.now)
    (name_texts c.in_ok-names.names.items) (rw c.as_str-root.ensures.value at c.in_ok-names.ensures.names)

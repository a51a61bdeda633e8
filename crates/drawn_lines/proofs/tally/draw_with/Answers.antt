-- Without other names, the blocks are drawn as they are.
use Rattle.std.proofs.Common.{map, string_bytes, sym}
use Rattle.tool_lines.specs.Lines.{piece_parts}
use Rattle.drawn_lines.specs.Named.{name_texts}
use Rattle.drawn_lines.proofs.NamedLemmas.{draws_kept}
use Rattle.drawn_lines.proofs.tally.draw_with.Goals as goal

pub returns-then-are_kept : goal.returns-then-are_kept
returns-then-are_kept g c =
    draws_kept (g.S.Store.told c.args.store.now) c.args.asked.now c.args.tally c.in_ok-kept.kept.tally _ _ (map piece_parts c.args.pieces.now)
    (name_texts c.args.names.now) (string_bytes c.in_ok-kept.kept.text) (string_bytes c.in_ok-kept.kept.aside) c.requires.each (sym c.if-are_kept.ensures) c.in_ok-kept.ensures

use Rattle.std.proofs.Common.{arith, ap, sym, ◌∙◌}
use Rattle.source_location.specs.Locations.{counted_from}
use Rattle.source_location.proofs.IndexLemmas.{ascii_part}
use Rattle.source_location.proofs.CharactersLemmas.{char_count-none}
use Rattle.source_location.proofs.line_index.LineIndex.column_at.Goals as goal

pub returns-then-offset-start : goal.returns-then-offset-start
returns-then-offset-start c = sym (char_count-none c.args.text.now (counted_from c.args.text.now c.args.row) c.args.offset (omega arith))

pub characters_in-requires : goal.characters_in-requires
characters_in-requires c kind =
    rw c.as_bytes.ensures.value (ascii_part c.args.text.now c.counted_start-start.result c.args.offset (sym (ap (λ i. i.is_ascii) (c.self.view_is ∙ c.requires.indexed)) ∙ kind))

-- The items cover the line, so they are in it.
use Rattle.std.proofs.Common.{◌<◌, ◌^◌, List, All, length, subst, sym, arith}
use Rattle.excerpt_lines.specs.declared.items.Item.{Item}
use Rattle.excerpt_blocks.specs.Below.{IsWithin}
use Rattle.excerpt_blocks.proofs.BlockLemmas.{within_items}
use Rattle.excerpt_blocks.proofs.blocks.add_marks.Goals as goal

pub read-requires-clause-items : goal.read-requires-clause-items
read-requires-clause-items c =
    let short : length c.args.line.now < 2 ^ 32 = omega arith in
    subst (λ (items : List Item). All (IsWithin c.args.line.now) items) (sym c.as_slice-3.ensures.value)
    (within_items c.args.line.now _ _ _ _ short c.in_ok-items.ensures)

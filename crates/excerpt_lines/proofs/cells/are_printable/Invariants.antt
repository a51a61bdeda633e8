use Rattle.std.proofs.Common.{◌≡◌, ◌&&◌, drop}
use Rattle.std.specs.List.{list_all}
use Rattle.excerpt_lines.specs.Cells.{is_printable}
use Rattle.excerpt_lines.proofs.cells.are_printable.Given as goal

abbrev pub invariant-loop-c : goal.invariant-loop-c
invariant-loop-c l = (l.all && list_all is_printable (drop l.c-index l.text)) ≡ list_all is_printable l.text

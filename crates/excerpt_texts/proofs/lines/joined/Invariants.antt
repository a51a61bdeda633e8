use Rattle.std.proofs.Common.{◌≡◌, map, length, option_map, string_bytes}
use Rattle.excerpt_texts.specs.Lines.{joined_from, line_parts}
use Rattle.excerpt_texts.proofs.lines.joined.Given as goal

abbrev pub invariant-loop-lines : goal.invariant-loop-lines
invariant-loop-lines l =
    joined_from l.to (option_map string_bytes l.all) (map line_parts l.lines) ≡ joined_from l.to (option_map string_bytes l.initial.all) (map line_parts l.initial.lines)

abbrev pub decreases-loop-lines : goal.decreases-loop-lines
decreases-loop-lines l = length l.lines

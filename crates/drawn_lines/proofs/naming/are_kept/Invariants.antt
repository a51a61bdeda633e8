use Rattle.std.proofs.Common.{◌≡◌, length}
use Rattle.std.specs.List.{list_all}
use Rattle.std.specs.Option.{is_none}
use Rattle.drawn_lines.specs.Named.{name_texts}
use Rattle.drawn_lines.proofs.naming.are_kept.Given as goal

-- those before are none
abbrev pub invariant-loop-rest : goal.invariant-loop-rest
invariant-loop-rest l = list_all is_none (name_texts l.rest) ≡ list_all is_none (name_texts l.names)

abbrev pub decreases-loop-rest : goal.decreases-loop-rest
decreases-loop-rest l = length l.rest

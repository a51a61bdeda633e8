use Rattle.std.proofs.Common.{◌-◌, length}
use Rattle.build_dirs.specs.Dirs.{dirs_parts}
use Rattle.drawn_lines.specs.Named.{places}
use Rattle.drawn_lines.proofs.NamedLemmas.{Tried}
use Rattle.drawn_lines.proofs.naming.try_places.Given as goal

-- the places before have no text
abbrev pub invariant-loop-place : goal.invariant-loop-place
invariant-loop-place g l =
    Tried (g.S.Store.told l.store) l.initial.sources.entries.items l.sources.entries.items (places l.root (dirs_parts l.dirs) l.name) l.k

abbrev pub decreases-loop-place : goal.decreases-loop-place
decreases-loop-place g l = length (places l.root (dirs_parts l.dirs) l.name) - l.k

use Rattle.std.proofs.Common.{◌≡◌, ◌++◌, ℕ, List, map, length}
use Rattle.found_reports.specs.Held.{Held}
use Rattle.build_dirs.specs.Dirs.{dirs_parts}
use Rattle.tool_lines.specs.Lines.{piece_parts}
use Rattle.drawn_lines.specs.Named.{Agrees, dirs_behind, name_texts, names_for, tried_in}
use Rattle.drawn_lines.proofs.NamedLemmas.{TriedSoFar}
use Rattle.drawn_lines.proofs.naming.names_between.Given as goal

-- the names so far and those of the pieces that are left
abbrev pub invariant-loop-rest : goal.invariant-loop-rest
invariant-loop-rest g l = record {
  names : (given : List ℕ → Held) → Agrees l.sources.entries.items given
      → name_texts l.names.items ++ names_for l.root given (dirs_parts l.dirs) (map (λ line. line.now) l.left) (map piece_parts l.rest)
      ≡ names_for l.root given (dirs_parts l.initial.dirs) (map (λ line. line.now) l.lines) (map piece_parts l.pieces);
  tried : (given : List ℕ → Held) → Agrees l.sources.entries.items given
      → TriedSoFar (g.S.Store.told l.store) l.initial.sources.entries.items l.sources.entries.items
      (tried_in l.root given (dirs_parts l.dirs) (map (λ line. line.now) l.left) (map piece_parts l.rest))
      (tried_in l.root given (dirs_parts l.initial.dirs) (map (λ line. line.now) l.lines) (map piece_parts l.pieces));
  dirs :
      dirs_behind (dirs_parts l.dirs) (map (λ line. line.now) l.left) (map piece_parts l.rest)
      ≡ dirs_behind (dirs_parts l.initial.dirs) (map (λ line. line.now) l.lines) (map piece_parts l.pieces);
}

abbrev pub decreases-loop-rest : goal.decreases-loop-rest
decreases-loop-rest g l = length l.rest

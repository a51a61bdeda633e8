use Rattle.std.proofs.Common.{◌≡◌, drop}
use Rattle.std.specs.List.{list_any}
use Rattle.std.specs.Str.{chars}
use Rattle.finding_filters.specs.Patterns.{GlobParts, glob_takes}
use Rattle.finding_filters.proofs.selection.any_glob.Given as goal

-- the patterns that are left decide
abbrev pub invariant-loop-glob : goal.invariant-loop-glob
invariant-loop-glob l = list_any (λ (glob : GlobParts). glob_takes glob (chars l.file)) (drop l.glob-index l.globs) ≡ list_any (λ (glob : GlobParts). glob_takes glob (chars l.file)) l.globs

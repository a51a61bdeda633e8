-- What a store tells.
use Rattle.std.specs.Prelude.{ℕ, List, Option}
use Rattle.found_reports.specs.Held.{Held}

-- what is told of paths, where something is
abbrev pub Told : Type 0
Told = List ℕ → Option Held

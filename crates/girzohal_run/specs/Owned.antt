-- What contracts see of files that have texts of their own.
use Rattle.std.specs.Prelude.{Result, Ok, Err, String, string_bytes}
use Rattle.std.specs.declared.alloc.Global.{Global}
use Rattle.found_reports.specs.Found.{NamedHeld}
use Rattle.found_reports.specs.Held.{Held, holds, lacks}
use Rattle.found_reports.specs.declared.sources.Lack.{Lack}
use Rattle.found_reports.specs.declared.sources.Source.{Source}

-- what is held of a file: its text, or why there is none
abbrev pub held_by : Result (String Global) Lack → Held
held_by (Ok text) = holds (string_bytes text)
held_by (Err why) = lacks why

abbrev pub source_view : Source → NamedHeld
source_view it = record { name = string_bytes it.name; held = held_by it.text }

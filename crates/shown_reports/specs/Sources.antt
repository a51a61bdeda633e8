-- Sources with what is shown of them.
use Rattle.std.specs.Prelude.{◌≡◌, ℕ, Bool, List, Option, String, length, map, option_map, string_bytes}
use Rattle.std.specs.declared.alloc.Global.{Global}
use Rattle.harmless.specs.Harmless.{changed_source}
use Rattle.oxc_windows.specs.Breaks.{breaks_of}
use Rattle.oxc_protocol.specs.Source.{Fits}
use Rattle.found_reports.specs.Held.{Held, held_text}
use Rattle.found_reports.specs.Listed.{held_by}
use Rattle.found_reports.specs.declared.sources.Source.{Source}
use Rattle.shown_reports.specs.Shown.{shown_source}

-- the sanitized text of a source, where it isn't the source's own
abbrev pub changed_by : Source → Option (List ℕ)
changed_by source = changed_source (held_text (held_by source))

-- what is shown of the text of a source
abbrev pub shown_by : Bool → Source → List ℕ
shown_by raw source = shown_source raw (held_text (held_by source))

-- a text that is shown has the length and the rows of what is held
pub record HasRowsOf (held : Held) (shown : List ℕ) : Type 0 where
  pub short : Fits shown
  pub len : length shown ≡ length (held_text held)
  pub breaks : breaks_of shown ≡ breaks_of (held_text held)

-- these are the texts that are changed of these sources
abbrev pub AreChanged : List Source → List (Option (String Global)) → Type 0
AreChanged entries changed = map (option_map string_bytes) changed ≡ map changed_by entries

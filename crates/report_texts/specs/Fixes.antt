-- The exact edits that are written of a report.
use Rattle.std.specs.Prelude.{ℕ, Bool, false, List, [], ◌∷◌, ◌||◌, if◌then◌else◌}
use Rattle.std.specs.List.{list_all}
use Rattle.std.specs.Str.{bytes_eq}
use Rattle.harmless.specs.Harmless.{harmless_source}
use Rattle.found_reports.specs.Fixes.{ChangeParts}
use Rattle.found_reports.specs.Found.{Found}

-- a text that isn't sanitized, or that sanitizing leaves as it is
abbrev pub stays : Bool → ChangeParts → Bool
stays raw change = raw || bytes_eq (harmless_source change.text) change.text

-- an edit that can be written: it changes something, and each text is the tool's
abbrev pub is_written : Bool → List ChangeParts → Bool
is_written raw [] = false
is_written raw (change ∷ changes) = list_all (stays raw) (change ∷ changes)

abbrev pub are_written : Bool → List (List ChangeParts) → Bool
are_written raw fixes = list_all (is_written raw) fixes

-- the edits of a report: none of them where one can't be written
abbrev pub written_fixes : Bool → List (List ChangeParts) → List (List ChangeParts)
written_fixes raw fixes = if are_written raw fixes then fixes else []

abbrev pub given_fixes : Bool → Found → List (List ChangeParts)
given_fixes raw it = written_fixes raw it.fixes

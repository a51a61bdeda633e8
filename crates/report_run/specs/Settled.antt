-- The settings that were made so far, and the drawing with them.
use Rattle.std.specs.Prelude.{◌∷◌, List, [], map, String, string_bytes, Option, Some, None, option_map, option_and_then, unwrap_or, true, false, if◌then◌else◌}
use Rattle.std.specs.Borrow.{Bor}
use Rattle.std.specs.Option.{is_none}
use Rattle.std.specs.declared.alloc.Global.{Global}
use Rattle.report_run.specs.Words.{settings}
use Rattle.report_run.specs.declared.words.Command.{Command}
use Rattle.report_run.specs.declared.words.Command.TheVariants.{Draw}
use Rattle.report_run.specs.declared.words.Setting.{Setting}
use Rattle.report_run.specs.declared.words.Setting.TheVariants.{Theme, Width, Tabs, Json}
use Rattle.report_run.specs.declared.words.Settings.{Settings}
use Rattle.report_run.specs.declared.words.ThemeName.TheVariants.{Plain}

abbrev pub nothing_set : Settings
nothing_set = record { theme = None; width = None; tabs = None; json = false }

-- one setting more, which wasn't made yet
abbrev pub with_setting : Settings → Setting → Option Settings
with_setting it (Theme theme) = if is_none it.theme then Some (record it { theme = Some theme }) else None
with_setting it (Width width) = if is_none it.width then Some (record it { width = Some width }) else None
with_setting it (Tabs tabs) = if is_none it.tabs then Some (record it { tabs = Some tabs }) else None
with_setting it Json = if it.json then None else Some (record it { json = true })

-- several settings more
abbrev pub settled : Settings → List Setting → Option Settings
settled it [] = Some it
settled it (setting ∷ more) = option_and_then (λ next. settled next more) (with_setting it setting)

abbrev pub drawing_of : Settings → Command
drawing_of it = Draw (unwrap_or it.theme Plain) (unwrap_or it.width 80) (unwrap_or it.tabs 4) it.json

-- the settings that words are, given the first one and the words behind it
abbrev pub begun_with : Option (Setting × Bor (List (String Global))) → Option (List Setting)
begun_with None = None
begun_with (Some it) = option_map (λ more. it.0 ∷ more) (settings (map string_bytes it.1.now))

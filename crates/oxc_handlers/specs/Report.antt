-- A drawn report: the plan of a diagnostic, and the text that it is drawn as.
use Rattle.std.specs.Prelude.{ℕ, ◌-◌, List, [], ◌++◌, Option, None, encode_utf8, codes}
use Rattle.std.specs.List.{flat_map}
use Rattle.std.specs.Option.{option_copied, option_and_then, option_map_or, unwrap_or}
use Rattle.oxc_plan.specs.Plan.{Ordered, SnippetView, in_order, snippets_of}
use Rattle.oxc_protocol.specs.Parts.{Parts}
use Rattle.oxc_protocol.specs.SourceViews.{ref_views}
use Rattle.oxc_protocol.specs.declared.protocol.Severity.{Severity}
use Rattle.oxc_protocol.specs.declared.protocol.Severity.TheVariants.{Error, Warning, Advice}
use Rattle.oxc_handlers.specs.declared.theme.GraphicalTheme.{GraphicalTheme}
use Rattle.oxc_handlers.specs.declared.theme.Style.{Style}
use Rattle.oxc_handlers.specs.declared.view.DiagnosticView.{DiagnosticView}
use Rattle.oxc_handlers.specs.Handler.{Handler}
use Rattle.oxc_handlers.specs.RowLines.{lf}
use Rattle.oxc_handlers.specs.Snippet.{drawn_snippet}
use Rattle.oxc_handlers.specs.Theme.{styled}
use Rattle.textwrap.specs.Filled.{filled}

-- what contracts see of a view: the parts of a diagnostic that has no url
abbrev pub view_parts : DiagnosticView → Parts
view_parts v =
    record {
      message = v.message.now;
      code = option_copied v.code;
      severity = v.severity;
      help = option_copied v.help;
      note = option_copied v.note;
      url = None;
      source = ref_views v.source;
      labels = v.labels.now;
    }

-- the parts of a diagnostic that a view shows
abbrev pub without_url : Parts → Parts
without_url parts = record parts { url = None }

-- what is drawn of a diagnostic: the distance of the tab stops, the title, the severity, the source's name, the labels in label
-- order, the snippets, help and note
pub record Plan : Type 0 where
  pub tab : ℕ
  pub title : List ℕ
  pub severity : Severity
  pub name : Option (List ℕ)
  pub labels : List Ordered
  pub snippets : List SnippetView
  pub help : Option (List ℕ)
  pub note : Option (List ℕ)

-- the code, if there is one, and what parts it from the message
abbrev pub code_part : Option (List ℕ) → List ℕ
code_part code = option_map_or (λ code. code ++ codes ": ") code []

-- the code, if there is one, and the message
unfoldable pub title_of : Parts → List ℕ
title_of parts = code_part parts.code ++ parts.message

-- an error where nothing is said
unfoldable pub severity_in : Parts → Severity
severity_in parts = unwrap_or parts.severity Error

-- the name of the source, if there is one
unfoldable pub name_in : Parts → Option (List ℕ)
name_in parts = option_and_then (λ source. source.name) parts.source

-- the snippets: none where there is no source, or no label
unfoldable pub snippets_in : ℕ → Parts → List SnippetView
snippets_in tab parts = option_map_or (λ source. snippets_of tab source.bytes parts.labels) parts.source []

-- the plan of a diagnostic, where tabs stop at multiples of `tab` columns
unfoldable pub plan_of : ℕ → Parts → Plan
plan_of tab parts =
    record {
      tab = tab;
      title = title_of parts;
      severity = severity_in parts;
      name = name_in parts;
      labels = in_order parts.labels;
      snippets = snippets_in tab parts;
      help = parts.help;
      note = parts.note;
    }

-- the style of a severity, and its icon
unfoldable pub severity_style : GraphicalTheme → Severity → Style
severity_style theme Error = theme.styles.error
severity_style theme Warning = theme.styles.warning
severity_style theme Advice = theme.styles.advice

unfoldable pub icon : GraphicalTheme → Severity → ℕ
icon theme Error = theme.characters.error
icon theme Warning = theme.characters.warning
icon theme Advice = theme.characters.advice

-- what stands before a line of the title
unfoldable pub title_indent : GraphicalTheme → Severity → ℕ → List ℕ
title_indent theme severity c = codes "  " ++ styled (severity_style theme severity) (encode_utf8 c) ++ codes " "

-- the title, filled to the width less two
unfoldable pub title : GraphicalTheme → ℕ → Plan → List ℕ
title theme width plan =
    filled (width - 2)
    (title_indent theme plan.severity (icon theme plan.severity))
    (title_indent theme plan.severity theme.characters.vbar)
    (styled (severity_style theme plan.severity) plan.title)
    ++ lf

-- a text behind its heading, filled to the width less four; nothing where there is no text
unfoldable pub footer : ℕ → Style → List ℕ → List ℕ → Option (List ℕ) → List ℕ
footer width style heading later text = option_map_or (λ text. filled (width - 4) (styled style heading) later text ++ lf) text []

unfoldable pub help_of : GraphicalTheme → ℕ → Plan → List ℕ
help_of theme width plan = footer width theme.styles.help (codes "  help: ") (codes "        ") plan.help

unfoldable pub note_of : GraphicalTheme → ℕ → Plan → List ℕ
note_of theme width plan = footer width theme.styles.note (codes "  note: ") (codes "           ") plan.note

-- the drawn snippets of a plan
unfoldable pub drawn_snippets : GraphicalTheme → Plan → List ℕ
drawn_snippets theme plan = flat_map (drawn_snippet theme plan.tab plan.labels plan.name) plan.snippets

-- the drawn report
unfoldable pub drawn : GraphicalTheme → ℕ → Plan → List ℕ
drawn theme width plan =
    lf ++ title theme width plan ++ drawn_snippets theme plan ++ help_of theme width plan ++ note_of theme width plan

-- the report of a diagnostic, as a handler draws it
abbrev pub report_of : Handler → Parts → List ℕ
report_of handler parts = drawn handler.theme handler.width (plan_of handler.tab parts)

-- the title of a diagnostic by a theme, filled to a width
abbrev pub filled_title : GraphicalTheme → ℕ → Severity → Parts → List ℕ
filled_title theme width severity parts =
    filled width
    (title_indent theme severity (icon theme severity))
    (title_indent theme severity theme.characters.vbar)
    (styled (severity_style theme severity) (title_of parts))
    ++ lf

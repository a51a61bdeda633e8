-- What a call replies: its status, its answer, and what it leaves in the caller's buffer.
use Rattle.std.specs.Prelude.{◌≡◌, ◌⊎◌, ◌≤◌, ◌<◌, ◌==◌, ◌++◌, ⊤, ℕ, List, length, drop, Option, Some, None, MatchOption, Result, Ok, Err, MatchResult, String, string_bytes, if◌then◌else◌}
use Rattle.std.specs.declared.alloc.Global.{Global}
use Rattle.codespan.specs.Texts.{NamedText}
use Rattle.oxc_handlers.specs.Handler.{Handler}
use Rattle.oxc_handlers.specs.declared.theme.GraphicalTheme.{GraphicalTheme}
use Rattle.oxc_handlers.specs.Theme.{unicode_theme, unicode_nocolor_theme, none_theme}
use Rattle.render_files.specs.declared.places.ReportError.{ReportError}
use Rattle.render_files.specs.Causes.{IsRefusal}
use Rattle.render_files.specs.Given.{GivenReport}
use Rattle.render_files.specs.Refusal.{refusal_of}
use Rattle.render_files.specs.Rendered.{drawn_reports, json_lines}
use Rattle.girzohal_c.specs.Meaning.{Meaning, means, is_wrong, no_document}
use Rattle.girzohal_c.specs.Answers.{no_answer, needs, wrong_answer, refused_answer}
use Rattle.girzohal_c.specs.declared.shapes.Look.{Look}
use Rattle.girzohal_c.specs.declared.shapes.Answer.{Answer}
use Rattle.girzohal_c.specs.declared.style.Form.{Form}
use Rattle.girzohal_c.specs.declared.style.Form.TheVariants.{Drawing, Json}
use Rattle.girzohal_c.specs.declared.style.Style.{Style}
use Rattle.girzohal_c.specs.declared.drawing.Fault.{Fault}
use Rattle.girzohal_c.specs.declared.drawing.Fault.TheVariants.{IsWrong, IsNoDocument, IsRefused, WantsMemory}

-- ---- the text

-- 0 has colors, 1 has none, and 2 has no lines either
abbrev pub theme_of : ℕ → GraphicalTheme
theme_of number =
    if number == 0 then unicode_theme else if number == 1 then unicode_nocolor_theme else none_theme

abbrev pub handler_of : Look → Handler
handler_of look = record { theme = theme_of look.theme; width = look.width; tab = look.tabs }

-- 0 is drawings, and 1 JSON
abbrev pub form_of : ℕ → Form
form_of number = if number == 0 then Drawing else Json

-- a style is the one that a look asks for
abbrev pub IsStyleOf : Look → Style → Type 0
IsStyleOf look style = (style.handler ≡ handler_of look) × (style.form ≡ form_of look.form)

-- reports one after another: drawn, or a line of JSON each
abbrev pub text_in : Form → Handler → List NamedText → List GivenReport → List ℕ
text_in Drawing handler files reports = drawn_reports handler files reports
text_in Json handler files reports = json_lines files reports

abbrev pub text_of : Look → List NamedText → List GivenReport → List ℕ
text_of look files reports = text_in (form_of look.form) (handler_of look) files reports

-- ---- the reply

-- the status and the answer of a call, and the caller's buffer before and now
pub record Reply : Type 0 where
  pub status : ℕ
  pub answer : Answer
  pub before : List ℕ
  pub now : List ℕ

-- the status and the answer are these, and the buffer is as it was
pub record Refuses (code : ℕ) (told : Answer) (it : Reply) : Type 0 where
  pub status : it.status ≡ code
  pub answer : it.answer ≡ told
  pub unchanged : it.now ≡ it.before

-- a text is at the buffer's beginning, and after it what was there
abbrev pub Wrote : List ℕ → Reply → Type 0
Wrote text it = it.now ≡ text ++ drop (length text) it.before

-- the text is written if it fits, and its length is in the answer in any case
pub record Gives (text : List ℕ) (it : Reply) : Type 0 where
  pub needed : it.answer ≡ needs (length text)
  pub fits : length text ≤ length it.before → (it.status ≡ 0) × Wrote text it
  pub small : length it.before < length text → (it.status ≡ 10) × (it.now ≡ it.before)

-- what is replied to files and reports: the first refusal, or the text
abbrev pub Draws : Look → List NamedText → List GivenReport → Reply → Type 0
Draws look files reports it =
    MatchOption (refusal_of files reports)
    (Gives (text_of look files reports) it)
    (λ why. Refuses 1 (refused_answer why) it)

-- what is replied to what the arguments mean, with enough memory
abbrev pub Replies : Look → Meaning → Reply → Type 0
Replies look (means files reports) it = Draws look files reports it
Replies look (is_wrong argument) it = Refuses 2 (wrong_answer argument) it
Replies look no_document it = Refuses 3 no_answer it

-- arguments are checked before memory is allocated
abbrev pub IsWrongNowhere : Meaning → Type 0
IsWrongNowhere (means files reports) = ⊤
IsWrongNowhere (is_wrong argument) = ⊥
IsWrongNowhere no_document = ⊤

-- out of memory may come at any time, as its own status, and only if no argument is wrong
pub record Starves (meaning : Meaning) (it : Reply) : Type 0 where
  pub judged : IsWrongNowhere meaning
  pub refuses : Refuses 6 no_answer it

-- the reply to what the arguments mean, or out of memory
abbrev pub RepliesTo : Look → Meaning → Reply → Type 0
RepliesTo look meaning it = Replies look meaning it ⊎ Starves meaning it

abbrev pub reply : ℕ → Answer → List ℕ → List ℕ → Reply
reply status answer before now = record {
  status = status;
  answer = answer;
  before = before;
  now = now;
}

-- ---- what is made before the reply

-- reports that aren't refused were made this text; an error is the refusal, or out of memory
abbrev pub IsTextOf : Form → Handler → List NamedText → List GivenReport → Result (String Global) ReportError → Type 0
IsTextOf form handler files reports made =
    MatchResult made
    (λ text. (refusal_of files reports ≡ None)
    × (string_bytes text ≡ text_in form handler files reports))
    (IsRefusal (refusal_of files reports))

abbrev pub IsFaultOf : Option ReportError → Fault → Type 0
IsFaultOf refusal (IsWrong argument) = ⊥
IsFaultOf refusal IsNoDocument = ⊥
IsFaultOf refusal (IsRefused why) = refusal ≡ Some why
IsFaultOf refusal WantsMemory = ⊤

abbrev pub MakesText : Option ReportError → List ℕ → Result (String Global) Fault → Type 0
MakesText refusal text (Ok made) = (refusal ≡ None) × (string_bytes made ≡ text)
MakesText refusal text (Err fault) = IsFaultOf refusal fault

-- what is made of the arguments: the text of what they mean, or why there is none
abbrev pub Makes : Look → Meaning → Result (String Global) Fault → Type 0
Makes look (means files reports) made =
    MakesText (refusal_of files reports) (text_of look files reports) made
Makes look (is_wrong argument) made = made ≡ Err (IsWrong argument)
Makes look no_document made = (made ≡ Err IsNoDocument) ⊎ (made ≡ Err WantsMemory)

-- the reply to what was made
abbrev pub Tells : Result (String Global) Fault → Reply → Type 0
Tells (Ok text) it = Gives (string_bytes text) it
Tells (Err (IsWrong argument)) it = Refuses 2 (wrong_answer argument) it
Tells (Err IsNoDocument) it = Refuses 3 no_answer it
Tells (Err (IsRefused why)) it = Refuses 1 (refused_answer why) it
Tells (Err WantsMemory) it = Refuses 6 no_answer it

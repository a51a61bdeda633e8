-- The parts of a shape, and what they find in a text.
use Rattle.std.specs.Prelude.{ℕ, ◌==◌, ◌||◌, not, if◌then◌else◌, Bool, true, false, List, [], ◌∷◌, take, drop, slice_index, Option, Some, None, option_map, option_and_then, unwrap_or}
use Rattle.std.specs.List.{prefix_len}
use Rattle.line_shapes.specs.declared.bytes.Kind.{Kind}
use Rattle.line_shapes.specs.declared.bytes.Kind.TheVariants.{Blank, Digit, InRule, InProgram}
use Rattle.line_shapes.specs.declared.level.Severity.{Severity}
use Rattle.line_shapes.specs.declared.level.Level.{Level}
use Rattle.line_shapes.specs.declared.part.Part.{Part}
use Rattle.line_shapes.specs.declared.part.Part.TheVariants.{Byte, Blanks, AnyBlanks, Decimal, Level as ALevel, Letter, Small, Number, Rule, Cop, Program, Message, SetApart}
use Rattle.line_shapes.specs.declared.part.Figure.{Figure}
use Rattle.line_shapes.specs.declared.part.Figure.TheVariants.{Line, Column, EndLine, EndColumn}
use Rattle.line_shapes.specs.declared.part.Found.{Found}
use Rattle.line_shapes.specs.Bytes.{is_in, is_letter, some_run, number_at, capitals_and_digits, cop_len}
use Rattle.line_shapes.specs.Level.{level_at, letter_severity, small_severity}

-- what parts found in a text, and the text behind them
pub record Seen : Type 0 where
  pub rest : List ℕ
  pub line : Option ℕ
  pub column : Option ℕ
  pub end_line : Option ℕ
  pub end_column : Option ℕ
  pub severity : Option Severity
  pub initial : Option Severity
  pub aside : Bool
  pub code : Option (List ℕ)
  pub numbered : Bool
  pub message : Option (List ℕ)
  pub apart : Bool

abbrev pub seen : Found → Seen
seen found =
    record {
      rest = found.rest.now;
      line = found.line;
      column = found.column;
      end_line = found.end_line;
      end_column = found.end_column;
      severity = found.severity;
      initial = found.initial;
      aside = found.aside;
      code = option_map (λ text. text.now) found.code;
      numbered = found.numbered;
      message = option_map (λ text. text.now) found.message;
      apart = found.apart;
    }

abbrev pub before : List ℕ → Seen
before text = record { rest = text; line = None; column = None; end_line = None; end_column = None; severity = None; initial = None; aside = false; code = None; numbered = false; message = None; apart = false }

-- so many bytes are taken
abbrev pub behind : ℕ → Seen → Seen
behind count s = record s { rest = drop count s.rest }

abbrev pub byte_taken : ℕ → List ℕ → Seen → Option Seen
byte_taken byte [] s = None
byte_taken byte (x ∷ xs) s = if x == byte then Some (record s { rest = xs }) else None

abbrev pub with_figure : Figure → ℕ → Seen → Seen
with_figure Line n s = record s { line = Some n }
with_figure Column n s = record s { column = Some n }
with_figure EndLine n s = record s { end_line = Some n }
with_figure EndColumn n s = record s { end_column = Some n }

abbrev pub with_level : Level → Seen → Seen
with_level level s = record s { rest = drop level.length s.rest; severity = Some level.severity; aside = level.aside }

abbrev pub with_letter : Severity → Seen → Seen
with_letter severity s = record s { rest = drop 1 s.rest; initial = Some severity }

abbrev pub with_code : Bool → ℕ → Seen → Seen
with_code numbered count s = record s { rest = drop count s.rest; code = Some (take count s.rest); numbered = numbered }

abbrev pub message_taken : List ℕ → Seen → Option Seen
message_taken [] s = None
message_taken (x ∷ xs) s = if is_in Blank x then None else Some (record s { rest = []; message = Some (x ∷ xs) })

-- a program's name may begin with a byte
abbrev pub is_program_start : ℕ → Bool
is_program_start byte = is_letter byte || byte == 0x2F

-- what is found once a part was taken, where it stands there
abbrev pub taken : Part → Seen → Option Seen
taken (Byte byte) s = byte_taken byte s.rest s
taken Blanks s = option_map (λ count. behind count s) (some_run (prefix_len (is_in Blank) s.rest))
taken AnyBlanks s = Some (behind (prefix_len (is_in Blank) s.rest) s)
taken (Decimal figure) s = option_map (λ n. with_figure figure n.1 (behind n.0 s)) (number_at s.rest)
taken ALevel s = option_map (λ level. with_level level s) (level_at s.rest)
taken Letter s = option_map (λ severity. with_letter severity s) (letter_severity (slice_index s.rest 0))
taken Small s = option_map (λ severity. with_letter severity s) (small_severity (slice_index s.rest 0))
taken Number s = option_map (λ count. with_code true count s) (capitals_and_digits s.rest)
taken Rule s = option_map (λ count. with_code false count s) (some_run (prefix_len (is_in InRule) s.rest))
taken Cop s = option_map (λ count. with_code false count s) (cop_len s.rest)
taken Program s = if is_program_start (slice_index s.rest 0) then Some (behind (prefix_len (is_in InProgram) s.rest) s) else None
taken Message s = message_taken s.rest s
taken SetApart s = Some (record s { apart = true })

-- a shape fits where its parts stand one after another: what they find
abbrev pub fit : List Part → Seen → Option Seen
fit [] s = Some s
fit (part ∷ parts) s = option_and_then (fit parts) (taken part s)

-- the end of a part is found without more than its text
abbrev pub is_quick : Part → Bool
is_quick (Byte byte) = true
is_quick Blanks = true
is_quick AnyBlanks = true
is_quick (Decimal figure) = true
is_quick ALevel = false
is_quick Letter = false
is_quick Small = false
is_quick Number = false
is_quick Rule = false
is_quick Cop = false
is_quick Program = true
is_quick Message = false
is_quick SetApart = true

abbrev pub past_byte : ℕ → List ℕ → Option (List ℕ)
past_byte byte [] = None
past_byte byte (x ∷ xs) = if x == byte then Some xs else None

abbrev pub past_run : Kind → Bool → List ℕ → Option (List ℕ)
past_run kind begins text = if begins then Some (drop (prefix_len (is_in kind) text) text) else None

-- the text behind such a part that a text begins with
abbrev pub past : Part → List ℕ → Option (List ℕ)
past (Byte byte) text = past_byte byte text
past Blanks text = past_run Blank (is_in Blank (slice_index text 0)) text
past AnyBlanks text = past_run Blank true text
past (Decimal figure) text = past_run Digit (is_in Digit (slice_index text 0)) text
past ALevel text = None
past Letter text = None
past Small text = None
past Number text = None
past Rule text = None
past Cop text = None
past Program text = past_run InProgram (is_program_start (slice_index text 0)) text
past Message text = None
past SetApart text = Some text

-- parts may stand at the beginning of a text, by those before the first of another kind
abbrev pub may_begin : List Part → List ℕ → Bool
may_begin [] text = true
may_begin (part ∷ parts) text = not (is_quick part) || unwrap_or (option_map (may_begin parts) (past part text)) false

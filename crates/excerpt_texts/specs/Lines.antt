-- The lines of text that an excerpt has beside its drawings.
use Rattle.std.specs.Prelude.{ℕ, ◌==◌, ◌&&◌, ◌||◌, not, if◌then◌else◌, Bool, true, false, List, [], ◌∷◌, ◌++◌, take, drop, map, filter, codes, min, slice_range, string_bytes, unwrap_or, Option, Some, None}
use Rattle.std.specs.List.{list_all, prefix_len, slice_index_or}
use Rattle.std.specs.Str.{bytes_eq, encode_utf8_all}
use Rattle.excerpt_lines.specs.declared.places.Place.{Place as PlaceAt}
use Rattle.excerpt_lines.specs.declared.tables.NoteKind.{NoteKind}
use Rattle.excerpt_lines.specs.declared.tables.NoteKind.TheVariants.{Note as NoteWord, Help as HelpWord, Hint, Warning, Error, Info, Suggestion as SuggestionWord, Advice}
use Rattle.excerpts.specs.declared.cuts.Part.{Part}
use Rattle.excerpts.specs.declared.cuts.PartKind.{PartKind}
use Rattle.excerpts.specs.declared.cuts.PartKind.TheVariants.{Empty, Place, Note, GoesOn, Frames, Source, Loose, Suggestion, Kept}
use Rattle.excerpts.specs.Body.{is_block}
use Rattle.excerpt_texts.specs.declared.lines.Use.{Use}
use Rattle.excerpt_texts.specs.declared.lines.Use.TheVariants.{InNote, InHelp, AsIs}
use Rattle.excerpt_texts.specs.declared.lines.Own.{Own}
use Rattle.excerpt_texts.specs.declared.lines.TextLine.{TextLine}

-- a line of text, and what it is for
pub record LineParts : Type 0 where
  pub to : Use
  pub text : List ℕ

abbrev pub line_parts : TextLine → LineParts
line_parts line = record { to = line.to; text = string_bytes line.text }

-- where a finding is, as its head says
pub record OwnParts : Type 0 where
  pub name : List ℕ
  pub line : Option ℕ
  pub column : Option ℕ

abbrev pub own_parts : Own → OwnParts
own_parts own = record { name = own.name.now; line = own.line; column = own.column }

abbrev pub line_at : List (List ℕ) → ℕ → List ℕ
line_at lines number = slice_index_or lines number []

abbrev pub said : Use → List ℕ → LineParts
said to text = record { to = to; text = encode_utf8_all text }

abbrev pub use_of : NoteKind → Use
use_of NoteWord = InNote
use_of HelpWord = InHelp
use_of Hint = InNote
use_of Warning = InNote
use_of Error = InNote
use_of Info = InNote
use_of SuggestionWord = InNote
use_of Advice = InNote

-- a note of another kind keeps its word
abbrev pub word_of : NoteKind → List ℕ
word_of NoteWord = []
word_of HelpWord = []
word_of Hint = codes "hint: "
word_of Warning = codes "warning: "
word_of Error = codes "error: "
word_of Info = codes "info: "
word_of SuggestionWord = codes "suggestion: "
word_of Advice = codes "advice: "

-- a line names the finding's file
abbrev pub names_own : OwnParts → List ℕ → PlaceAt → Bool
names_own own line place = bytes_eq (encode_utf8_all (slice_range line place.name place.name_end)) own.name

abbrev pub is_number : Option ℕ → Option ℕ → Bool
is_number None None = true
is_number None (Some n) = false
is_number (Some n) None = false
is_number (Some m) (Some n) = m == n

-- a line has the finding's own location
abbrev pub is_own : OwnParts → List ℕ → PlaceAt → Bool
is_own own line place = names_own own line place && is_number own.line (Some place.line) && is_number own.column place.column

-- blanks and bars alone
abbrev pub is_bare_char : ℕ → Bool
is_bare_char c = c == 0x20 || c == 0x09 || c == 0x7C || c == 0x2502

abbrev pub is_bare : List ℕ → Bool
is_bare line = list_all is_bare_char line

abbrev pub part_lines : List (List ℕ) → Part → List (List ℕ)
part_lines lines part = take part.lines (drop part.first lines)

abbrev pub place_lines : OwnParts → List ℕ → PlaceAt → List LineParts
place_lines own line place = if is_own own line place then [] else said InNote (codes "at " ++ drop place.name line) ∷ []

-- lines as they are, but for those of blanks and bars alone
abbrev pub inked : List (List ℕ) → List (List ℕ)
inked lines = filter (λ line. not (is_bare line)) lines

-- ---- how far kept lines are indented

abbrev pub is_space : ℕ → Bool
is_space c = c == 0x20

abbrev pub least : Option ℕ → ℕ → Option ℕ
least None n = Some n
least (Some m) n = Some (min m n)

-- with the spaces that a line begins with
abbrev pub with_spaces : Option ℕ → List ℕ → Option ℕ
with_spaces before line = least before (prefix_len is_space line)

abbrev pub indent_from : Option ℕ → List (List ℕ) → Option ℕ
indent_from before [] = before
indent_from before (line ∷ lines) = indent_from (if is_bare line then before else with_spaces before line) lines

-- the spaces that all lines begin with that aren't blanks and bars alone
abbrev pub indent_of : List (List ℕ) → ℕ
indent_of lines = unwrap_or (indent_from None lines) 0

abbrev pub indent_by : List (List ℕ) → Option ℕ → Part → PartKind → Option ℕ
indent_by lines before part Empty = before
indent_by lines before part (Place p) = before
indent_by lines before part (Note n) = before
indent_by lines before part (GoesOn below) = before
indent_by lines before part Frames = before
indent_by lines before part Source = before
indent_by lines before part Loose = before
indent_by lines before part Suggestion = before
indent_by lines before part Kept = with_spaces before (line_at lines part.first)

abbrev pub parts_indent : List (List ℕ) → Option ℕ → List Part → Option ℕ
parts_indent lines before [] = before
parts_indent lines before (part ∷ parts) = parts_indent lines (indent_by lines before part part.kind) parts

-- the spaces that all lines begin with that parts keep
abbrev pub kept_indent : List (List ℕ) → List Part → ℕ
kept_indent lines parts = unwrap_or (parts_indent lines None parts) 0

-- ---- the lines of text

-- a line without the spaces that all lines begin with that are kept
abbrev pub kept : ℕ → List ℕ → LineParts
kept indent line = said AsIs (drop indent line)

-- the lines of a body that is kept as a whole
unfoldable pub kept_in : List (List ℕ) → List LineParts
kept_in lines = map (kept (indent_of lines)) (inked lines)

-- a drawing that isn't shown otherwise, as it is
abbrev pub drawn_lines : Bool → List (List ℕ) → List LineParts
drawn_lines true lines = []
drawn_lines false lines = map (said InNote) (inked lines)

-- the lines that a part adds; those of a suggestion go where the note before it goes
abbrev pub part_by : OwnParts → List (List ℕ) → ℕ → Use → Bool → Part → PartKind → List LineParts
part_by own lines indent to shown part Empty = []
part_by own lines indent to shown part (Place p) = place_lines own (line_at lines part.first) p
part_by own lines indent to shown part (Note n) = said (use_of n.kind) (word_of n.kind ++ drop n.text (line_at lines part.first)) ∷ []
part_by own lines indent to shown part (GoesOn below) = said to (drop below (line_at lines part.first)) ∷ []
part_by own lines indent to shown part Frames = []
part_by own lines indent to shown part Source = drawn_lines shown (part_lines lines part)
part_by own lines indent to shown part Loose = drawn_lines shown (part_lines lines part)
part_by own lines indent to shown part Suggestion = map (said to) (inked (part_lines lines part))
part_by own lines indent to shown part Kept = kept indent (line_at lines part.first) ∷ []

unfoldable pub part_said : OwnParts → List (List ℕ) → ℕ → Use → Bool → Part → List LineParts
part_said own lines indent to shown part = part_by own lines indent to shown part part.kind

-- where a line after a part goes that goes on with a note
abbrev pub use_after : Use → PartKind → Use
use_after to Empty = to
use_after to (Place p) = to
use_after to (Note n) = use_of n.kind
use_after to (GoesOn below) = to
use_after to Frames = to
use_after to Source = to
use_after to Loose = to
use_after to Suggestion = to
use_after to Kept = to

abbrev pub first_flag : List Bool → Bool
first_flag [] = false
first_flag (flag ∷ flags) = flag

abbrev pub flags_after : Bool → List Bool → List Bool
flags_after true flags = drop 1 flags
flags_after false flags = flags

-- the lines that parts add; each block has a flag: whether it is shown otherwise
abbrev pub said_from : OwnParts → List (List ℕ) → ℕ → Use → List Bool → List Part → List LineParts
said_from own lines indent to flags [] = []
said_from own lines indent to flags (part ∷ parts) =
    part_said own lines indent to (first_flag flags) part ++ said_from own lines indent (use_after to part.kind) (flags_after (is_block part.kind) flags) parts

-- the lines of text of an excerpt; suggestions without a note before them are help
unfoldable pub said_in : OwnParts → List (List ℕ) → List Bool → List Part → List LineParts
said_in own lines flags parts = said_from own lines (kept_indent lines parts) InHelp flags parts

-- whether the lines after a place line are of the finding's file
abbrev pub here_after : OwnParts → List (List ℕ) → Bool → Part → PartKind → Bool
here_after own lines here part Empty = here
here_after own lines here part (Place p) = names_own own (line_at lines part.first) p
here_after own lines here part (Note n) = here
here_after own lines here part (GoesOn below) = here
here_after own lines here part Frames = here
here_after own lines here part Source = here
here_after own lines here part Loose = here
here_after own lines here part Suggestion = here
here_after own lines here part Kept = here

-- a drawing of rows of the source
abbrev pub is_drawing : PartKind → Bool
is_drawing Empty = false
is_drawing (Place p) = false
is_drawing (Note n) = false
is_drawing (GoesOn below) = false
is_drawing Frames = false
is_drawing Source = true
is_drawing Loose = true
is_drawing Suggestion = false
is_drawing Kept = false

abbrev pub flag_list : Bool → Bool → List Bool
flag_list true flag = flag ∷ []
flag_list false flag = []

abbrev pub drawings_from : OwnParts → List (List ℕ) → Bool → List Part → List Bool
drawings_from own lines here [] = []
drawings_from own lines here (part ∷ parts) =
    flag_list (is_block part.kind) (here && is_drawing part.kind) ++ drawings_from own lines (here_after own lines here part part.kind) parts

-- for each block whether it is a drawing of the finding's file
unfoldable pub drawings_in : OwnParts → List (List ℕ) → List Part → List Bool
drawings_in own lines parts = drawings_from own lines true parts

-- ---- notes and helps

abbrev pub is_use : Use → Use → Bool
is_use InNote InNote = true
is_use InNote InHelp = false
is_use InNote AsIs = false
is_use InHelp InNote = false
is_use InHelp InHelp = true
is_use InHelp AsIs = false
is_use AsIs InNote = false
is_use AsIs InHelp = false
is_use AsIs AsIs = true

-- a line after others, with LF between them
abbrev pub with_line : Option (List ℕ) → List ℕ → Option (List ℕ)
with_line None text = Some text
with_line (Some before) text = Some (before ++ 0x0A ∷ text)

-- the lines of one use, after others
abbrev pub joined_from : Use → Option (List ℕ) → List LineParts → Option (List ℕ)
joined_from to before [] = before
joined_from to before (line ∷ lines) = joined_from to (if is_use to line.to then with_line before line.text else before) lines

-- the note of lines: those of notes, and then those that are kept
unfoldable pub note_of : List LineParts → Option (List ℕ)
note_of lines = joined_from AsIs (joined_from InNote None lines) lines

unfoldable pub help_of : List LineParts → Option (List ℕ)
help_of lines = joined_from InHelp None lines

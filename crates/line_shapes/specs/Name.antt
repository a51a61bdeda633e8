-- Names of files in a line.
use Rattle.std.specs.Prelude.{ℕ, ◌+◌, ◌-◌, ◌==◌, ◌&&◌, ◌||◌, not, nat_le, if◌then◌else◌, Bool, true, false, List, [], ◌∷◌, length, take, reverse, slice_index, unwrap_or, codes}
use Rattle.std.specs.List.{position, prefix_len, suffix_len, range_with_len}
use Rattle.std.specs.Str.{bytes_eq}
use Rattle.line_shapes.specs.declared.bytes.Kind.TheVariants.{Blank, Digit, Angled}
use Rattle.line_shapes.specs.declared.name.NameKind.{NameKind}
use Rattle.line_shapes.specs.declared.name.NameKind.TheVariants.{Any, Unbracketed, OneWord}
use Rattle.line_shapes.specs.Bytes.{is_in, is_letter}

abbrev pub is_word : NameKind → Bool
is_word Any = false
is_word Unbracketed = false
is_word OneWord = true

abbrev pub is_unbracketed : NameKind → Bool
is_unbracketed Any = false
is_unbracketed Unbracketed = true
is_unbracketed OneWord = false

-- a name can't go on with a byte behind another; `word` says that the name is a word
abbrev pub stops : Bool → ℕ → ℕ → Bool
stops word byte last =
    byte == 0x2A || byte == 0x3F || byte == 0x22 || byte == 0x3C || byte == 0x3E || byte == 0x7C
    || (is_in Digit byte && last == 0x3A) || (is_in Blank byte && (word || last == 0x3A))

abbrev pub are_scheme : ℕ → ℕ → ℕ → Bool
are_scheme colon slash other = colon == 0x3A && slash == 0x2F && other == 0x2F

-- a name that began with the text can't go on with the byte at a place; `file` says that the text begins with `file://`
abbrev pub is_fault : Bool → Bool → List ℕ → ℕ → Bool
is_fault word file text at =
    stops word (slice_index text at) (slice_index text (at - 1))
    || (not file && are_scheme (slice_index text (at - 2)) (slice_index text (at - 1)) (slice_index text at))

abbrev pub is_file : List ℕ → Bool
is_file text = bytes_eq (take 7 text) (codes "file://")

-- the first place at which a name can't go on
unfoldable pub first_fault : NameKind → List ℕ → ℕ
first_fault kind text = unwrap_or (position (is_fault (is_word kind) (is_file text) text) (range_with_len 0 (length text))) (length text)

-- of a name backwards: there is a letter before the first blank. What is past ASCII counts as letters
abbrev pub is_lettered : List ℕ → Bool
is_lettered [] = false
is_lettered (x ∷ xs) = if is_in Blank x then false else if is_letter x || nat_le 128 x then true else is_lettered xs

-- of a text backwards: a `T` and a digit
abbrev pub begins_hour : List ℕ → Bool
begins_hour text = slice_index text 0 == 0x54 && is_in Digit (slice_index text 1)

-- a text ends in digits, behind a `T` and a digit, as a date whose hour begins
abbrev pub is_hour : List ℕ → Bool
is_hour text = let digits = suffix_len (is_in Digit) text in nat_le 1 digits && begins_hour (reverse (take (length text - digits) text))

-- a name may end as a text does
unfoldable pub ends_name : List ℕ → Bool
ends_name text = is_lettered (reverse text) && not (is_hour text)

abbrev pub begins_name : NameKind → List ℕ → Bool
begins_name kind [] = false
begins_name kind (x ∷ xs) = not (is_in Blank x) && not (is_unbracketed kind && x == 0x5B)

abbrev pub is_angle : List ℕ → Bool
is_angle [] = false
is_angle (x ∷ xs) = x == 0x3C

abbrev pub angle_behind : ℕ → List ℕ → ℕ
angle_behind count rest = if nat_le 1 count && (slice_index rest count == 0x3E) then count + 2 else 0

-- how long small letters and spaces in angles are that a text begins with, or 0
abbrev pub angle_len : List ℕ → ℕ
angle_len [] = 0
angle_len (x ∷ xs) = if x == 0x3C then angle_behind (prefix_len (is_in Angled) xs) xs else 0

abbrev pub is_plain : NameKind → List ℕ → ℕ → Bool
is_plain kind text end = begins_name kind text && ends_name (take end text) && nat_le end (first_fault kind text)

-- the first bytes of a text, so many, are a name
abbrev pub is_name : NameKind → List ℕ → ℕ → Bool
is_name kind text end = nat_le 1 end && (angle_len text == end) || is_plain kind text end

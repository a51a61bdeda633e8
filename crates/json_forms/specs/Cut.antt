-- The JSON values of an input, and its other lines.
use Rattle.std.specs.Prelude.{◌≡◌, ℕ, ◌+◌, ◌-◌, ◌<◌, ◌≤◌, ◌==◌, ◌||◌, List, [], ◌∷◌, ◌++◌, length, drop, flat_map, codes, Bool, true, false, not, if◌then◌else◌, Option, Some, None, slice_range}
use Rattle.json_forms.specs.declared.cut.Piece.{Piece}
use Rattle.json_forms.specs.declared.cut.Next.{Next}
use Rattle.json_forms.specs.declared.cut.Next.TheVariants.{Ends, Open, Found}
use Rattle.json_forms.specs.declared.cut.Mode.{Mode}
use Rattle.json_forms.specs.declared.cut.Mode.TheVariants.{Plain, InText, Escaped}

-- a space, a tab, a CR or an LF
abbrev pub is_blank : ℕ → Bool
is_blank byte = byte == 0x20 || (byte == 0x09 || (byte == 0x0D || byte == 0x0A))

abbrev pub is_solid : ℕ → Bool
is_solid byte = not (is_blank byte)

abbrev pub is_break : ℕ → Bool
is_break byte = byte == 0x0A

-- where the first byte is that passes a test, in bytes that start at an index; or their end
abbrev pub first_at : (ℕ → Bool) → ℕ → List ℕ → ℕ
first_at test at [] = at
first_at test at (byte ∷ bytes) = if test byte then at else first_at test (at + 1) bytes

-- with one of these an array of objects, texts or nothing goes on
abbrev pub is_inner : ℕ → Bool
is_inner byte = byte == 0x7B || (byte == 0x22 || byte == 0x5D)

abbrev pub goes_on : List ℕ → Bool
goes_on [] = false
goes_on (byte ∷ bytes) = if is_blank byte then goes_on bytes else is_inner byte

-- whether a value begins: `{`, or `[` before `{`, `"` or `]`
abbrev pub begins_value : List ℕ → Bool
begins_value [] = false
begins_value (byte ∷ bytes) = if byte == 0x5B then goes_on bytes else byte == 0x7B

-- how deep brackets are after a byte: those in texts don't count
abbrev pub deeper : Mode → ℕ → ℕ → ℕ
deeper Plain depth byte = if byte == 0x7B || byte == 0x5B then depth + 1 else if byte == 0x7D || byte == 0x5D then depth - 1 else depth
deeper InText depth byte = depth
deeper Escaped depth byte = depth

abbrev pub mode_after : Mode → ℕ → Mode
mode_after Plain byte = if byte == 0x22 then InText else Plain
mode_after InText byte = if byte == 0x22 then Plain else if byte == 0x5C then Escaped else InText
mode_after Escaped byte = InText

-- where brackets close, in bytes that start at an index: after the byte at which none is open
abbrev pub closed_at : Mode → ℕ → ℕ → List ℕ → Option ℕ
closed_at mode depth at [] = None
closed_at mode depth at (byte ∷ bytes) =
    if deeper mode depth byte == 0 then Some (at + 1) else closed_at (mode_after mode byte) (deeper mode depth byte) (at + 1) bytes

abbrev pub piece : Bool → ℕ → ℕ → Next
piece is_value start end = Found (record { is_value = is_value; start = start; end = end })

abbrev pub value_from : ℕ → Option ℕ → Next
value_from start None = Open start
value_from start (Some end) = piece true start end

abbrev pub piece_from : List ℕ → ℕ → Next
piece_from bytes start =
    if start == length bytes then Ends
    else if begins_value (drop start bytes) then value_from start (closed_at Plain 0 start (drop start bytes))
    else piece false start (first_at is_break (start + 1) (drop (start + 1) bytes))

-- what comes from an index on: the end, or a value or another line from the first byte that isn't blank
unfoldable pub next_piece : List ℕ → ℕ → Next
next_piece bytes from = piece_from bytes (first_at is_solid from (drop from bytes))

abbrev pub end_of : Option ℕ → Next
end_of None = Ends
end_of (Some start) = Open start

-- from an index on, these pieces come, and then the end, or a value whose brackets don't close
abbrev pub IsCut : List ℕ → ℕ → List Piece → Option ℕ → Type 0
IsCut bytes at [] unclosed = next_piece bytes at ≡ end_of unclosed
IsCut bytes at (it ∷ pieces) unclosed = (next_piece bytes at ≡ Found it) × IsCut bytes it.end pieces unclosed

abbrev pub IsWithin : ℕ → ℕ → Next → Type 0
IsWithin from len Ends = Unit {0}
IsWithin from len (Open start) = Unit {0}
IsWithin from len (Found it) = (from < it.end) × (it.start ≤ it.end) × (it.end ≤ len)

abbrev pub value_text : List ℕ → Piece → List ℕ
value_text bytes it = if it.is_value then 0x2C ∷ slice_range bytes it.start it.end else []

-- a JSON array of `null` and the values
unfoldable pub array_text : List ℕ → List Piece → List ℕ
array_text bytes pieces = codes "[null" ++ flat_map (value_text bytes) pieces ++ codes "]"

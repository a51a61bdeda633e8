-- Bytes of the markup: classes, marks and names.
use Rattle.std.specs.Prelude.{ℕ, ◌+◌, ◌==◌, ◌||◌, ◌&&◌, nat_eq, nat_le, List, [], ◌∷◌, length, take, drop, codes, Bool, true, false, not, if◌then◌else◌, Option, Some, None}
use Rattle.std.specs.List.{starts_with}
use Rattle.xml_values.specs.declared.marks.Class.{Class}
use Rattle.xml_values.specs.declared.marks.Class.TheVariants.{Blank, Name, Until}

-- a space, a tab, a CR or an LF
abbrev pub is_blank : ℕ → Bool
is_blank byte = byte == 0x20 || (byte == 0x09 || (byte == 0x0D || byte == 0x0A))

abbrev pub is_between : ℕ → ℕ → ℕ → Bool
is_between first last byte = nat_le first byte && nat_le byte last

-- a letter or `_`
abbrev pub is_name_start : ℕ → Bool
is_name_start byte = is_between 0x41 0x5A byte || (is_between 0x61 0x7A byte || byte == 0x5F)

-- also digits, `.`, `:`, `-`, and what is not ASCII
abbrev pub is_name_byte : ℕ → Bool
is_name_byte byte = is_name_start byte || (is_between 0x30 0x3A byte || (byte == 0x2E || (byte == 0x2D || nat_le 0x80 byte)))

abbrev pub is_of : Class → ℕ → Bool
is_of Blank byte = is_blank byte
is_of Name byte = is_name_byte byte
is_of (Until stop) byte = not (byte == stop)

-- how many of the first bytes are of a class
abbrev pub run_len : Class → ℕ → List ℕ → ℕ
run_len class at [] = at
run_len class at (byte ∷ bytes) = if is_of class byte then run_len class (at + 1) bytes else at

-- the first bytes, which are of a class, and those from the first other
abbrev pub run : Class → List ℕ → List ℕ
run class bytes = take (run_len class 0 bytes) bytes

abbrev pub past : Class → List ℕ → List ℕ
past class bytes = drop (run_len class 0 bytes) bytes

abbrev pub past_blanks : List ℕ → List ℕ
past_blanks bytes = past Blank bytes

-- what stands after the first byte
abbrev pub after_first : List ℕ → Option (List ℕ)
after_first [] = None
after_first (byte ∷ bytes) = Some bytes

-- what stands after a mark
abbrev pub after : List ℕ → List ℕ → Option (List ℕ)
after mark bytes = if starts_with nat_eq bytes mark then Some (drop (length mark) bytes) else None

-- the first index at which a mark stands, in bytes that start at an index
abbrev pub mark_at : List ℕ → ℕ → List ℕ → Option ℕ
mark_at mark at [] = None
mark_at mark at (byte ∷ bytes) = if starts_with nat_eq (byte ∷ bytes) mark then Some at else mark_at mark (at + 1) bytes

abbrev pub parted_at : List ℕ → List ℕ → Option ℕ → Option (List ℕ × List ℕ)
parted_at mark bytes None = None
parted_at mark bytes (Some at) = Some (take at bytes, drop (length mark) (drop at bytes))

-- what stands before a mark and after it
abbrev pub parted : List ℕ → List ℕ → Option (List ℕ × List ℕ)
parted mark bytes = parted_at mark bytes (mark_at mark 0 bytes)

abbrev pub begins_name : List ℕ → Bool
begins_name [] = false
begins_name (byte ∷ bytes) = is_name_start byte

-- a name, and what stands after it
abbrev pub named : List ℕ → Option (List ℕ × List ℕ)
named bytes = if begins_name bytes then Some (run Name bytes, past Name bytes) else None

-- Problems whose lines are read as they are.
use Rattle.std.specs.Prelude.{ℕ, ◌^◌, false, ◌==◌, ◌&&◌, ◌||◌, not, nat_lt, Bool, List, length, slice_index, Option, Some, None}
use Rattle.std.specs.List.{list_all, suffix_len}
use Rattle.std.specs.Option.{is_none}
use Rattle.line_shapes.specs.declared.bytes.Kind.TheVariants.{Blank, InRule}
use Rattle.line_shapes.specs.declared.name.NameKind.TheVariants.{Any}
use Rattle.line_shapes.specs.Bytes.{is_in}
use Rattle.line_shapes.specs.Name.{is_name}
use Rattle.line_shapes.specs.Said.{code_behind}
use Rattle.oxc_protocol.specs.Info.{InfoParts}
use Rattle.oxc_protocol.specs.declared.reporter.InfoPosition.{InfoPosition}

-- a byte that is escaped in no text of a problem: no backslash, LF or CR
abbrev pub is_own : ℕ → Bool
is_own byte = not (byte == 0x5C || byte == 0x0A || byte == 0x0D)

abbrev pub has_no_colon : List ℕ → Bool
has_no_colon text = list_all (λ byte. not (byte == 0x3A)) text

abbrev pub begins_bracket : List ℕ → Bool
begins_bracket text = slice_index text 0 == 0x5B

-- a name, by the rules of shapes, in which nothing is escaped, and that begins with no bracket
abbrev pub is_plain_name : List ℕ → Bool
is_plain_name name = is_name Any name (length name) && list_all is_own name && has_no_colon name && not (begins_bracket name)

-- numbers of 32 bits
abbrev pub is_small_place : InfoPosition → Bool
is_small_place place = nat_lt place.line (2 ^ 32) && nat_lt place.column (2 ^ 32)

-- a blank stands at neither end of a text
abbrev pub is_unpadded : List ℕ → Bool
is_unpadded text = not (is_in Blank (slice_index text 0)) && (suffix_len (is_in Blank) text == 0)

-- a message that isn't empty, has no blank at its ends and begins with no bracket, and in which nothing is escaped
abbrev pub is_plain_message : List ℕ → Bool
is_plain_message message = nat_lt 0 (length message) && list_all is_own message && is_unpadded message && not (begins_bracket message)

-- a code of bytes that codes before a message have, in which nothing is escaped; without one, the message ends in nothing that is taken for one
abbrev pub is_plain_code : Option (List ℕ) → List ℕ → Bool
is_plain_code None message = is_none (code_behind false message)
is_plain_code (Some code) message = nat_lt 0 (length code) && list_all is_own code && list_all (is_in InRule) code

abbrev pub is_plain : InfoParts → Bool
is_plain p = is_plain_name p.filename && is_small_place p.start && is_small_place p.end && is_plain_message p.message && is_plain_code p.rule_id p.message

-- Texts, which are ranges of one buffer.
use Rattle.std.specs.Prelude.{ℕ, ◌-◌, ◌==◌, ◌&&◌, ◌||◌, nat_le, nat_lt, Bool, List, [], length, slice_index, slice_range, Option, Some, None, if◌then◌else◌}
use Rattle.report_arrays.specs.declared.shapes.Text.{Text}

-- whether a place of a text is its end or the first byte of a character
abbrev pub is_boundary : List ℕ → ℕ → Bool
is_boundary texts at =
    nat_le (length texts) at
    || (nat_lt (slice_index texts at) 128 || nat_le 192 (slice_index texts at))

-- whether a range lies in the texts and cuts no character
unfoldable pub is_text : List ℕ → Text → Bool
is_text texts range =
    nat_le range.start range.end
    && nat_le range.end (length texts)
    && is_boundary texts range.start
    && is_boundary texts range.end

-- whether a range stands for no text
abbrev pub is_none : Text → Bool
is_none range = (range.start == 18446744073709551615) && (range.end == 18446744073709551615)

-- whether it is a text or none
abbrev pub is_optional : List ℕ → Text → Bool
is_optional texts range = is_none range || is_text texts range

-- whether it is a text that isn't empty, or none
abbrev pub is_filled : List ℕ → Text → Bool
is_filled texts range = is_none range || (is_text texts range && nat_lt range.start range.end)

-- whether it is a text of fewer than `u32::MAX` bytes
abbrev pub is_short_text : List ℕ → Text → Bool
is_short_text texts range = is_text texts range && nat_lt (range.end - range.start) 4294967295

-- the text at a range; the empty one where the range is wrong
abbrev pub text_of : List ℕ → Text → List ℕ
text_of texts range = if is_text texts range then slice_range texts range.start range.end else []

-- the text at a range, if it is one
abbrev pub optional_of : List ℕ → Text → Option (List ℕ)
optional_of texts range = if is_none range then None else Some (text_of texts range)

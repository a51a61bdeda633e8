-- Lines that are harmless but for their paint.
use Rattle.std.specs.Prelude.{◌≡◌, ℕ, ◌+◌, ◌-◌, ◌==◌, ◌&&◌, ◌||◌, not, if◌then◌else◌, Bool, true, List, [], ◌∷◌, ◌++◌, codes, slice_index}
use Rattle.std.specs.List.{list_all, list_any, prefix_len}
use Rattle.std.specs.Str.{chars, encode_utf8_all}
use Rattle.harmless.specs.declared.Kind.TheVariants.{Prose}
use Rattle.harmless.specs.Harmless.{harmless_char, is_between, is_harmful}

abbrev pub is_escape : ℕ → Bool
is_escape c = c == 0x1B

-- a digit or `;`
abbrev pub is_color_part : ℕ → Bool
is_color_part c = is_between 0x30 0x39 c || c == 0x3B

-- an `m` ends a color, and a `K` right behind the bracket clears the rest of its row, which is empty
abbrev pub ends_paint : ℕ → ℕ → Bool
ends_paint count c = c == 0x6D || (count == 0 && c == 0x4B)

abbrev pub paint_end : ℕ → List ℕ → ℕ
paint_end count rest = if ends_paint count (slice_index rest count) then count + 3 else 0

abbrev pub behind_bracket : List ℕ → ℕ
behind_bracket rest = paint_end (prefix_len is_color_part rest) rest

abbrev pub behind_escape : List ℕ → ℕ
behind_escape [] = 0
behind_escape (c ∷ rest) = if c == 0x5B then behind_bracket rest else 0

-- how many characters the paint takes that a text begins with, or 0: ESC `[`, digits and `;`, and `m`; or ESC `[K`
abbrev pub paint_len : List ℕ → ℕ
paint_len [] = 0
paint_len (c ∷ rest) = if is_escape c then behind_escape rest else 0

-- how many characters of paint come next: those that are left, else those of the paint that begins here
abbrev pub paint_ahead : ℕ → List ℕ → ℕ
paint_ahead left cs = if left == 0 then paint_len cs else left

-- a character stays where paint comes next, and is harmless else
abbrev pub kept_at : ℕ → ℕ → ℕ
kept_at left c = if left == 0 then harmless_char Prose c else c

-- a text whose paint stays, and whose other characters are harmless; so many characters of paint are left
unfoldable pub painted_from : ℕ → List ℕ → List ℕ
painted_from left [] = []
painted_from left (c ∷ cs) =
    let count = paint_ahead left (c ∷ cs) in
    kept_at count c ∷ painted_from (count - 1) cs

-- a text that has paint ends with ESC `[0m`
abbrev pub with_end : List ℕ → List ℕ
with_end cs = if list_any is_escape cs then cs ++ 0x1B ∷ codes "[0m" else cs

-- a line that keeps its paint alone
unfoldable pub harmless_line : List ℕ → List ℕ
harmless_line line = encode_utf8_all (with_end (painted_from 0 (chars line)))

-- Texts without the colors and links that tools write to terminals, and without what sets plain letters.
use Rattle.std.specs.Prelude.{ℕ, zero, suc, ◌+◌, ◌-◌, ◌==◌, ◌||◌, not, if◌then◌else◌, Bool, List, [], ◌∷◌, drop, slice_index}
use Rattle.std.specs.List.{prefix_len}
use Rattle.line_shapes.specs.declared.bytes.Kind.TheVariants.{Digit}
use Rattle.line_shapes.specs.Bytes.{is_in}

abbrev pub is_color_byte : ℕ → Bool
is_color_byte byte = is_in Digit byte || byte == 0x3B

abbrev pub ends_color : ℕ → Bool
ends_color byte = byte == 0x6D || byte == 0x4B

abbrev pub color_end : ℕ → List ℕ → ℕ
color_end count rest = if ends_color (slice_index rest count) then count + 3 else 0

-- digits and `;`, and an `m` or a `K`
abbrev pub color_len : List ℕ → ℕ
color_len rest = color_end (prefix_len is_color_byte rest) rest

abbrev pub ends_link : ℕ → Bool
ends_link byte = byte == 0x07 || byte == 0x1B || byte == 0x0A

-- how a link ends: BEL, or ESC and a backslash
abbrev pub link_end : ℕ → List ℕ → ℕ
link_end count [] = 0
link_end count (x ∷ []) = if x == 0x07 then count + 5 else 0
link_end count (x ∷ (y ∷ rest)) = if x == 0x07 then count + 5 else if x == 0x1B then (if y == 0x5C then count + 6 else 0) else 0

-- bytes up to that end, none of them an LF
abbrev pub link_len : List ℕ → ℕ
link_len rest = let count = prefix_len (λ byte. not (ends_link byte)) rest in link_end count (drop count rest)

abbrev pub behind_bracket : List ℕ → ℕ
behind_bracket [] = 0
behind_bracket (x ∷ []) = 0
behind_bracket (x ∷ (y ∷ rest)) = if x == 0x38 then (if y == 0x3B then link_len rest else 0) else 0

-- plain letters are set by ESC, `(` and `B`
abbrev pub behind_paren : List ℕ → ℕ
behind_paren [] = 0
behind_paren (x ∷ rest) = if x == 0x42 then 3 else 0

abbrev pub behind_escape : List ℕ → ℕ
behind_escape [] = 0
behind_escape (x ∷ rest) = if x == 0x5B then color_len rest else if x == 0x5D then behind_bracket rest else if x == 0x28 then behind_paren rest else 0

-- how many bytes the color, the link or the setting of letters takes that a text begins with, or 0
abbrev pub paint_len : List ℕ → ℕ
paint_len [] = 0
paint_len (x ∷ rest) = if x == 0x1B then behind_escape rest else 0

-- a text without its paint, once so many bytes are skipped
unfoldable pub unpainted_from : ℕ → List ℕ → List ℕ
unpainted_from skipped [] = []
unpainted_from zero (x ∷ xs) = let count = paint_len (x ∷ xs) in if count == 0 then x ∷ unpainted_from 0 xs else unpainted_from (count - 1) xs
unpainted_from (suc n) (x ∷ xs) = unpainted_from n xs

abbrev pub unpainted : List ℕ → List ℕ
unpainted text = unpainted_from 0 text

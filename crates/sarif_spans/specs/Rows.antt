-- The rows of a text.
use Rattle.std.specs.Prelude.{ℕ, zero, suc, ◌+◌, ◌-◌, ◌≤◌, ◌==◌, ◌&&◌, nat_eq, nat_le, nat_lt, not, slice_index, min, length, take, Bool, List, [], ◌∷◌, if◌then◌else◌}
use Rattle.std.specs.Borrow.{Bor}
use Rattle.std.specs.List.{list_all, starts_with}
use Rattle.std.specs.Str.{IsUtf8, IsCharBoundary}
use Rattle.sarif_spans.specs.declared.rows.Row.{Row}

-- a break stands at the beginning of a text; an empty one stands nowhere
abbrev pub stands : List ℕ → List ℕ → Bool
stands text bytes = nat_lt 0 (length text) && starts_with nat_eq bytes text

-- how long the first of the breaks is that stands at the beginning, or 0
abbrev pub break_len : List (List ℕ) → List ℕ → ℕ
break_len [] bytes = 0
break_len (text ∷ breaks) bytes = if stands text bytes then length text else break_len breaks bytes

abbrev pub is_printed : ℕ → Bool
is_printed byte = nat_le 0x20 byte && nat_lt byte 0x7F

-- no break begins with a printed character of ASCII
abbrev pub begin_unprinted : List (Bor (List ℕ)) → Bool
begin_unprinted breaks = list_all (λ text. not (is_printed (slice_index text.now 0))) breaks

abbrev pub mark : List ℕ
mark = 0xEF ∷ 0xBB ∷ 0xBF ∷ []

-- how long the byte order mark is at the beginning, or 0
abbrev pub mark_len : List ℕ → ℕ
mark_len text = if starts_with nat_eq text mark then 3 else 0

abbrev pub row_at : ℕ → ℕ → Row
row_at start end = record { start = min start end; end = end }

-- the rows of what follows the place `at`, of which the first starts at `start`, behind a break of which `skip` bytes are left
unfoldable pub rows_from : List (List ℕ) → ℕ → ℕ → ℕ → List ℕ → List Row
rows_from breaks start at skip [] = row_at start at ∷ []
rows_from breaks start at (suc skip) (byte ∷ bytes) = rows_from breaks start (at + 1) skip bytes
rows_from breaks start at zero (byte ∷ bytes) =
    let width = break_len breaks (byte ∷ bytes) in
    if width == 0 then rows_from breaks start (at + 1) 0 bytes
    else row_at start at ∷ rows_from breaks (at + width) (at + 1) (width - 1) bytes

-- the rows of a text: each ends where a break stands, the first of the breaks that does, and the first one
-- starts behind a byte order mark
unfoldable pub rows_in : List (List ℕ) → List ℕ → List Row
rows_in breaks text = rows_from breaks (mark_len text) 0 0 text

-- a row stands in a text, and cuts no character
pub record IsRowOf (text : List ℕ) (row : Row) : Type 0 where
  pub ordered : row.start ≤ row.end
  pub start : IsCharBoundary text row.start
  pub end : IsCharBoundary text row.end

-- the first bytes are a text of their own
pub record BeginsWithText (bytes : List ℕ) (width : ℕ) : Type 0 where
  pub within : width ≤ length bytes
  pub utf8 : IsUtf8 (take width bytes)

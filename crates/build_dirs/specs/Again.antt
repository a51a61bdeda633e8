-- Findings that are printed again.
use Rattle.std.specs.Prelude.{◌≡◌, ℕ, ◌==◌, ◌&&◌, ◌||◌, not, Bool, true, false, List, [], ◌∷◌, ◌++◌, map}
use Rattle.std.specs.BTreeSet.{contains_text}
use Rattle.std.specs.List.{flat_map, list_all, list_any}
use Rattle.std.specs.Str.{bytes_eq}
use Rattle.std.specs.Str.Lossy.{utf8_lossy}
use Rattle.build_dirs.specs.declared.again.SeenKeys.{SeenKeys}
use Rattle.build_dirs.specs.declared.again.PrintedPiece.{PrintedPiece}

-- the lines of a finding or a note, and its path
pub record Piece : Type 0 where
  pub path : List ℕ
  pub lines : List (List ℕ)

abbrev pub piece_of : PrintedPiece → Piece
piece_of piece = record { path = piece.path.now; lines = map (λ line. line.now) piece.lines.now }

-- the same of bytes
abbrev pub lossy_piece : List ℕ → List (List ℕ) → Piece
lossy_piece path lines = record { path = utf8_lossy path; lines = map utf8_lossy lines }

-- a line with a byte before it that says what it is
abbrev pub tagged : ℕ → List ℕ → List ℕ
tagged tag line = tag ∷ line

abbrev pub ended : List ℕ → List ℕ
ended line = line ++ 0x0A ∷ []

-- lines, each with its end
abbrev pub key_lines : List (List ℕ) → List ℕ
key_lines lines = flat_map ended lines

-- a path after `@`, each line after a blank
abbrev pub lines_of : Piece → List (List ℕ)
lines_of piece = tagged 0x40 piece.path ∷ map (tagged 0x20) piece.lines

unfoldable pub key_text : List Piece → List ℕ
key_text pieces = key_lines (flat_map lines_of pieces)

abbrev pub is_clean_line : List ℕ → Bool
is_clean_line line = not (list_any (λ byte. byte == 0x0A) line)

abbrev pub is_clean : Piece → Bool
is_clean piece = is_clean_line piece.path && list_all is_clean_line piece.lines

abbrev pub KeysAreExact : Type 0
KeysAreExact = (pieces others : List Piece) → list_all is_clean pieces ≡ true → list_all is_clean others ≡ true → key_text pieces ≡ key_text others → pieces ≡ others

-- ---- keys that were met

-- which keys were met before
abbrev pub Seen : Type 0
Seen = List ℕ → Bool

abbrev pub none_seen : Seen
none_seen key = false

unfoldable pub with_seen : Seen → List ℕ → Seen
with_seen seen key other = bytes_eq key other || seen other

unfoldable pub seen_in : SeenKeys → Seen
seen_in seen key = contains_text seen.keys key

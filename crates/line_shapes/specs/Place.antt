-- Where a finding is: a lead, a name, and what stands behind it.
use Rattle.std.specs.Prelude.{◌≡◌, ℕ, ◌-◌, ◌==◌, ◌||◌, ◌&&◌, nat_le, nat_lt, if◌then◌else◌, Bool, true, false, List, [], ◌∷◌, length, take, drop, map, slice_index, Option, Some, None, option_map, option_and_then}
use Rattle.std.specs.List.{prefix_len, range_with_len}
use Rattle.std.specs.Option.{option_or}
use Rattle.memchr.specs.Find.{IsFirst}
use Rattle.line_shapes.specs.declared.part.Part.{Part}
use Rattle.line_shapes.specs.declared.place.Placed.{Placed}
use Rattle.line_shapes.specs.declared.locations.TheConstants.{AFTERS, LEADS}
use Rattle.line_shapes.specs.Part.{Seen, seen, before, fit}
use Rattle.line_shapes.specs.declared.name.NameKind.{NameKind}
use Rattle.line_shapes.specs.Name.{angle_len, begins_name, ends_name, is_name}
use Rattle.line_shapes.specs.Bytes.{is_in}
use Rattle.line_shapes.specs.declared.bytes.Kind.{Kind}
use Rattle.line_shapes.specs.declared.bytes.Kind.TheVariants.{Digit, Blank}

pub record Place : Type 0 where
  pub name : List ℕ
  pub found : Seen

abbrev pub placed : Placed → Place
placed p = record { name = p.name.now; found = seen p.found }

-- the first answer
abbrev pub first_some : {A B : Type 0} → (A → Option B) → List A → Option B
first_some f [] = None
first_some f (x ∷ xs) = option_or (f x) (first_some f xs)

-- what the first of these shapes that fits finds
abbrev pub first_fit : List (List Part) → Seen → Option Seen
first_fit shapes s = first_some (λ shape. fit shape s) shapes

unfoldable pub afters : List (List Part)
afters = map (λ shape. shape.1.now) AFTERS

unfoldable pub leads : List (List Part × NameKind)
leads = map (λ lead. (lead.1.now, lead.2)) LEADS

abbrev pub named : Seen → ℕ → Seen → Place
named s end found = record { name = take end s.rest; found = found }

abbrev pub fits_behind : Seen → ℕ → Option Seen
fits_behind s end = first_fit afters (record s { rest = drop end s.rest })

-- the place whose name begins here and has so many bytes
unfoldable pub placed_at : NameKind → Seen → ℕ → Option Place
placed_at kind s end = if is_name kind s.rest end then option_map (named s end) (fits_behind s end) else None

-- a name may begin as a text does, and end behind so many bytes
abbrev pub may_name : NameKind → List ℕ → ℕ → Bool
may_name kind text end = begins_name kind text && ends_name (take end text)

-- what is found behind a name without angles that may begin and end so; whether all its bytes go on a name is not asked
unfoldable pub found_at : NameKind → Seen → ℕ → Option Seen
found_at kind s end = if may_name kind s.rest end then fits_behind s end else None

-- the place whose name stands in angles
unfoldable pub in_angles : Seen → Option Place
in_angles s = let count = angle_len s.rest in if nat_le 1 count && nat_lt count (length s.rest) then option_map (named s count) (fits_behind s count) else None

-- a byte that ends a number in places
abbrev pub ends_number : ℕ → Bool
ends_number byte = byte == 0x3A || byte == 0x2C || byte == 0x29

-- the same, or the point between a row and a column
abbrev pub ends_row : ℕ → Bool
ends_row byte = ends_number byte || byte == 0x2E

-- the byte behind the bytes of a kind that a text begins with
abbrev pub behind_run : Kind → List ℕ → ℕ
behind_run kind text = slice_index text (prefix_len (is_in kind) text)

abbrev pub is_bracket : ℕ → Bool
is_bracket byte = byte == 0x28 || byte == 0x5B

-- the `l` of `line`, or a parenthesis
abbrev pub opens_place : ℕ → Bool
opens_place byte = byte == 0x6C || byte == 0x28

-- a text begins with a number that ends as in places
abbrev pub numbers_end : List ℕ → Bool
numbers_end text = is_in Digit (slice_index text 0) && ends_row (behind_run Digit text)

-- the same of blanks
abbrev pub blanks_end : List ℕ → Bool
blanks_end text = is_in Blank (slice_index text 0) && opens_place (behind_run Blank text)

-- a text may stand behind the first byte of what stands behind a name
abbrev pub may_follow : List ℕ → Bool
may_follow text = is_bracket (slice_index text 0) || numbers_end text || blanks_end text

-- the one with the shortest name
unfoldable pub in_lead : NameKind → Seen → Option Place
in_lead kind s = first_some (placed_at kind s) (range_with_len 1 (length s.rest - 1))

-- the place behind the first of these leads that has any
abbrev pub in_leads : List (List Part × NameKind) → List ℕ → Option Place
in_leads leads line = first_some (λ lead. option_and_then (in_lead lead.1) (fit lead.0 (before line))) leads

abbrev pub place : List ℕ → Option Place
place line = in_leads leads line

-- a byte with which what stands behind a name begins
abbrev pub is_mark : ℕ → Bool
is_mark byte = byte == 0x3A || byte == 0x28 || byte == 0x5B

abbrev pub IsNextMark : List ℕ → ℕ → Option ℕ → Type 0
IsNextMark text from answer = IsFirst (λ at. is_mark (slice_index text at) ≡ true) from (length text) answer

-- a digit stands before such a byte
abbrev pub ends_figure : ℕ → ℕ → Bool
ends_figure last byte = is_in Digit last && ends_number byte

-- the same somewhere in a text, or between a byte and the text
abbrev pub figure_behind : ℕ → List ℕ → Bool
figure_behind last [] = false
figure_behind last (x ∷ xs) = ends_figure last x || figure_behind x xs

-- a digit stands before `:`, `,` or `)` in a text
abbrev pub has_figure : List ℕ → Bool
has_figure text = figure_behind 0 text

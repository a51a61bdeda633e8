-- What a gutter is.
use Rattle.std.specs.Prelude.{◌≡◌, ℕ, ◌+◌, ◌<◌, ◌≤◌, ◌==◌, ◌&&◌, ◌||◌, min, if◌then◌else◌, List, [], ◌∷◌, length, slice_index, slice_range, Option, Some, None, MatchOption, ◌⊎◌}
use Rattle.excerpt_lines.specs.declared.tables.CharClass.TheVariants.{Blank, Digit, Bar}
use Rattle.excerpt_lines.specs.declared.gutter.Gutter.{Gutter}
use Rattle.excerpt_lines.specs.declared.gutter.Sign.{Sign}
use Rattle.excerpt_lines.specs.declared.gutter.Sign.TheVariants.{Unsigned, Added, Removed, Changed}
use Rattle.excerpt_lines.specs.Tables.{is_in}
use Rattle.excerpt_lines.specs.Runs.{EachIn, small, value_from}

-- what a character is a sign of, before another one
abbrev pub sign_of : ℕ → ℕ → Option Sign
sign_of c next =
    if (c == 0x2570) && (next == 0x2574) then Some Unsigned
    else if (next == 0x20) || (next == 0) then
    (if c == 0x2B then Some Added else if c == 0x2D then Some Removed else if c == 0x7E then Some Changed else if is_in Bar c then Some Unsigned else None)
    else None

-- a `>` or nothing
abbrev pub lead_len : List ℕ → ℕ
lead_len [] = 0
lead_len (c ∷ cs) = if c == 0x3E then 1 else 0

-- the text after a bar and a blank
abbrev pub text_at : List ℕ → ℕ → ℕ
text_at line bar = min (bar + 2) (length line)

-- the number that digits write, without zeros in front, if it is one of 32 bits
abbrev pub number_of : List ℕ → Option ℕ
number_of [] = small 0
number_of (d ∷ []) = small (value_from 0 (d ∷ []))
number_of (d ∷ (e ∷ digits)) = if d == 0x30 then None else small (value_from 0 (d ∷ (e ∷ digits)))

-- a bar, or one blank after a number a sign
pub record IsSignAt (line : List ℕ) (digits digits_end bar : ℕ) (sign : Sign) : Type 0 where
  pub within : bar < length line
  pub sign_is : sign_of (slice_index line bar) (slice_index line (bar + 1)) ≡ Some sign
  pub signed : (sign ≡ Unsigned) ⊎ ((digits < digits_end) × (bar ≡ digits_end + 1))

-- a `>` or nothing, blanks, digits or none, blanks, and a bar or a sign
pub record IsGutter (line : List ℕ) (g : Gutter) : Type 0 where
  pub lead : lead_len line ≤ g.digits
  pub blanks : EachIn Blank line (lead_len line) g.digits
  pub digits_so : g.digits ≤ g.digits_end
  pub digits_each : EachIn Digit line g.digits g.digits_end
  pub gap_so : g.digits_end ≤ g.bar
  pub gap : EachIn Blank line g.digits_end g.bar
  pub sign_so : IsSignAt line g.digits g.digits_end g.bar g.sign
  pub gap_none : g.digits ≡ g.digits_end → g.digits_end ≡ g.bar
  pub number_is : MatchOption g.number (g.digits ≡ g.digits_end) (λ n. (g.digits < g.digits_end) × (number_of (slice_range line g.digits g.digits_end) ≡ Some n))

abbrev pub HasNoGutter : List ℕ → Type 0
HasNoGutter line = (g : Gutter) → IsGutter line g → ⊥

abbrev pub HasNoSignAt : List ℕ → ℕ → ℕ → ℕ → Type 0
HasNoSignAt line digits digits_end bar = (sign : Sign) → IsSignAt line digits digits_end bar sign → ⊥

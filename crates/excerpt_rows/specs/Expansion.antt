-- A row of a source as a tool prints it.
use Rattle.std.specs.Prelude.{◌≡◌, ℕ, ◌+◌, ◌-◌, ◌/◌, ◌%◌, ◌<◌, ◌≤◌, ◌==◌, ◌||◌, ◌&&◌, not, nat_lt, if◌then◌else◌, Bool, List, [], ◌∷◌, ◌++◌, length, map, take, replicate, slice_index, unwrap_or, false}
use Rattle.std.specs.List.{flat_map, list_all, sum_by}
use Rattle.std.specs.Char.{len_utf8}
use Rattle.unicode_width.specs.Width.{char_width}
use Rattle.ucd_category.specs.GeneralCategory.{general_category, general_category_eq}
use Rattle.ucd_category.specs.declared.GeneralCategory.TheVariants.{Control, Format}
use Rattle.excerpt_rows.specs.declared.expansion.Tabs.{Tabs}
use Rattle.excerpt_rows.specs.declared.expansion.Tabs.TheVariants.{Stops8, Blanks4, Blanks1, Blanks2, Stops4, ByteStops8}
use Rattle.excerpt_rows.specs.declared.expansion.Hidden.{Hidden}
use Rattle.excerpt_rows.specs.declared.expansion.Hidden.TheVariants.{Dropped, Pictured, Coded, Kept}
use Rattle.excerpt_rows.specs.declared.expansion.Rule.{Rule}
use Rattle.excerpt_rows.specs.declared.expansion.Rule.TheVariants.{Same, Expanded}
use Rattle.excerpt_rows.specs.declared.expansion.Printed.{Printed}

-- the cells and the bytes of a text
abbrev pub width_of : ℕ → ℕ
width_of c = unwrap_or (char_width false c) 0

unfoldable pub cells_of : List ℕ → ℕ
cells_of text = sum_by width_of text

unfoldable pub bytes_of : List ℕ → ℕ
bytes_of text = sum_by len_utf8 text

-- how many blanks a tab is after so many cells and bytes
abbrev pub tab_len : Tabs → ℕ → ℕ → ℕ
tab_len Stops8 cells bytes = 8 - cells % 8
tab_len Blanks4 cells bytes = 4
tab_len Blanks1 cells bytes = 1
tab_len Blanks2 cells bytes = 2
tab_len Stops4 cells bytes = 4 - cells % 4
tab_len ByteStops8 cells bytes = 8 - bytes % 8

-- a control or format character
abbrev pub is_hidden : ℕ → Bool
is_hidden c = general_category_eq (general_category c) Control || general_category_eq (general_category c) Format

-- neither that nor a tab
abbrev pub is_as_is : ℕ → Bool
is_as_is c = not (c == 0x09) && not (is_hidden c)

abbrev pub is_plain : List ℕ → Bool
is_plain row = list_all is_as_is row

-- U+2400 is the picture of U+0000
abbrev pub picture_of : ℕ → ℕ
picture_of c = if nat_lt c 0x20 then 0x2400 + c else 0xFFFD

-- the last hexadecimal digit of a number
abbrev pub hex : ℕ → ℕ
hex n = if nat_lt (n % 16) 10 then 0x30 + n % 16 else 0x37 + n % 16

abbrev pub last_digits : ℕ → List ℕ
last_digits c = hex (c / 0x1000) ∷ hex (c / 0x100) ∷ hex (c / 0x10) ∷ hex c ∷ []

-- four digits at least
abbrev pub digits_of : ℕ → List ℕ
digits_of c =
    if nat_lt c 0x1_0000 then last_digits c
    else if nat_lt c 0x10_0000 then hex (c / 0x1_0000) ∷ last_digits c
    else hex (c / 0x10_0000) ∷ hex (c / 0x1_0000) ∷ last_digits c

unfoldable pub code_of : ℕ → List ℕ
code_of c = 0x3C ∷ 0x55 ∷ 0x2B ∷ (digits_of c ++ 0x3E ∷ [])

abbrev pub hidden_as : Hidden → ℕ → List ℕ
hidden_as Dropped c = []
hidden_as Pictured c = picture_of c ∷ []
hidden_as Coded c = code_of c
hidden_as Kept c = c ∷ []

-- what a character is printed as after a text
abbrev pub shown : Rule → List ℕ → ℕ → List ℕ
shown Same text c = c ∷ []
shown (Expanded tabs hidden) text c =
    if c == 0x09 then replicate (tab_len tabs (cells_of text) (bytes_of text)) 0x20
    else if is_hidden c then hidden_as hidden c
    else c ∷ []

-- a text, and after it a row as it is printed there
unfoldable pub expanded_after : Rule → List ℕ → List ℕ → List ℕ
expanded_after rule text [] = text
expanded_after rule text (c ∷ cs) = expanded_after rule (text ++ shown rule text c) cs

abbrev pub expanded : Rule → List ℕ → List ℕ
expanded rule row = expanded_after rule [] row

-- how many characters are printed of the first so many of a row
abbrev pub printed_len : Rule → List ℕ → ℕ → ℕ
printed_len rule row count = length (expanded rule (take count row))

-- what is printed for a character of the row is placed at its offset in bytes
pub record ArePlaces (rule : Rule) (row places : List ℕ) : Type 0 where
  pub count : length places ≡ length (expanded rule row)
  pub each : (k at : ℕ) → k < length row → printed_len rule row k ≤ at → at < printed_len rule row (k + 1) → slice_index places at ≡ bytes_of (take k row)

pub record IsMeasured (printed : Printed) : Type 0 where
  pub cells : printed.cells ≡ cells_of printed.text.items
  pub bytes : printed.bytes ≡ bytes_of printed.text.items

-- ---- all rules, in their order

abbrev pub tabs_in_order : List Tabs
tabs_in_order = Stops8 ∷ Blanks4 ∷ Blanks1 ∷ Blanks2 ∷ Stops4 ∷ ByteStops8 ∷ []

abbrev pub hidden_in_order : List Hidden
hidden_in_order = Dropped ∷ Pictured ∷ Coded ∷ Kept ∷ []

-- by tabs, and by hidden characters for each of these
unfoldable pub rules : List Rule
rules = flat_map (λ tabs. map (λ hidden. Expanded tabs hidden) hidden_in_order) tabs_in_order

-- What a line is made of.
use Rattle.std.specs.Prelude.{◌≡◌, ℕ, ◌+◌, ◌-◌, ◌*◌, ◌<◌, ◌≤◌, ◌==◌, ◌||◌, ◌&&◌, nat_le, nat_lt, if◌then◌else◌, Bool, true, false, List, [], ◌∷◌, ◌++◌, length, slice_index, Option, Some, None, All, Any, AllPairs}
use Rattle.std.specs.List.{list_any}
use Rattle.std.specs.Option.{is_some}
use Rattle.excerpt_lines.specs.declared.tables.CharClass.{CharClass}
use Rattle.excerpt_lines.specs.declared.tables.CharClass.TheVariants.{Blank, Ink, Bar as BarClass, Underscore}
use Rattle.excerpt_lines.specs.declared.items.Part.{Part}
use Rattle.excerpt_lines.specs.declared.items.Part.TheVariants.{Gutter, Row, Mark, Bar, Link, Hook, Text, Whole, Lead}
use Rattle.excerpt_lines.specs.declared.items.Item.{Item}
use Rattle.excerpt_lines.specs.Tables.{class_of, hook_of, is_in}
use Rattle.excerpt_lines.specs.Runs.{EachIn, run_end}
use Rattle.excerpt_lines.specs.Cells.{cell_at}

-- a run of marks may end here: before a blank, a bar, `_`, other marks or the end
unfoldable pub may_end : List ℕ → ℕ → Bool
may_end line end = nat_le (length line) end || (is_in Blank (slice_index line end) || is_in BarClass (slice_index line end) || slice_index line end == 0x5F || is_some (class_of (slice_index line end)))

abbrev pub run_by : List ℕ → ℕ → Option CharClass → Option CharClass
run_by line start None = None
run_by line start (Some class) = if may_end line (run_end class line start) then Some class else None

-- the class of the run of marks that begins here
unfoldable pub mark_in : List ℕ → ℕ → Option CharClass
mark_in line start = run_by line start (class_of (slice_index line start))

abbrev pub joins : ℕ → Bool
joins c = c == 0x5E || c == 0x2D || is_in BarClass c

-- `_`s before `^`, `-` or a bar, or after a bar
unfoldable pub link_in : List ℕ → ℕ → ℕ → Bool
link_in line begin start = let end = run_end Underscore line start in
    if end == start || end == length line then false
    else joins (slice_index line end) || (nat_lt begin start && is_in BarClass (slice_index line (start - 1)))

abbrev pub hook_by : List ℕ → ℕ → Option CharClass → Option CharClass
hook_by line start None = None
hook_by line start (Some rest) = let end = run_end rest line (start + 1) in
    if nat_lt (start + 1) end && (end == length line || slice_index line end == 0x20) then Some rest else None

-- how the hook goes on that begins here, before a blank or the end
unfoldable pub hook_in : List ℕ → ℕ → Option CharClass
hook_in line start = hook_by line start (hook_of (slice_index line start))

abbrev pub again_by : List ℕ → ℕ → Option CharClass → Bool
again_by line at None = false
again_by line at (Some class) = let end = run_end class line at in end == length line || is_in Blank (slice_index line end)

-- a run of marks begins here, and a blank or the end follows it
unfoldable pub marks_again : List ℕ → ℕ → Bool
marks_again line at = again_by line at (class_of (slice_index line at))

-- blanks begin here before the end, a hung place, or, if there are two, marks
unfoldable pub is_gap : List ℕ → List ℕ → ℕ → Bool
is_gap line hung end = let next = run_end Blank line end in
    next == length line || list_any (λ place. place == next) hung || (nat_le 2 (next - end) && marks_again line next)

-- a text may end here: at the end of the line, or before such blanks
unfoldable pub may_stop : List ℕ → List ℕ → ℕ → Bool
may_stop line hung end = is_in Ink (slice_index line (end - 1)) && (end == length line || (is_in Blank (slice_index line end) && is_gap line hung end))

-- a text ends where it may end first
pub record IsTextEnd (line hung : List ℕ) (start end : ℕ) : Type 0 where
  pub more : start < end
  pub within : end ≤ length line
  pub stops : may_stop line hung end ≡ true
  pub first : (k : ℕ) → start < k → k < end → may_stop line hung k ≡ false

-- neither marks, nor a bar, nor a link, nor a hook begin here
pub record IsNoPart (line : List ℕ) (begin start : ℕ) : Type 0 where
  pub mark : mark_in line start ≡ None
  pub bar : is_in BarClass (slice_index line start) ≡ false
  pub link : link_in line begin start ≡ false
  pub hook : hook_in line start ≡ None

-- what each part is, of a line whose text begins at `begin`
abbrev pub IsPart : List ℕ → ℕ → List ℕ → Part → ℕ → ℕ → Type 0
IsPart line begin hung Gutter start end = (is_in Ink (slice_index line start) ≡ true) × (end ≡ begin)
IsPart line begin hung Row start end = (start ≡ begin) × (end ≡ length line)
IsPart line begin hung (Mark class) start end = (mark_in line start ≡ Some class) × (end ≡ run_end class line start)
IsPart line begin hung Bar start end = (mark_in line start ≡ None) × (is_in BarClass (slice_index line start) ≡ true) × (end ≡ start + 1)
IsPart line begin hung Link start end = (mark_in line start ≡ None) × (is_in BarClass (slice_index line start) ≡ false) × (link_in line begin start ≡ true) × (end ≡ run_end Underscore line start)
IsPart line begin hung (Hook rest) start end = (mark_in line start ≡ None) × (is_in BarClass (slice_index line start) ≡ false) × (link_in line begin start ≡ false) × (hook_in line start ≡ Some rest) × (end ≡ run_end rest line (start + 1))
IsPart line begin hung Text start end = (is_in Ink (slice_index line start) ≡ true) × IsNoPart line begin start × IsTextEnd line hung start end
IsPart line begin hung Whole start end = (is_in Ink (slice_index line start) ≡ true) × (is_in Ink (slice_index line (end - 1)) ≡ true) × EachIn Blank line end (length line)
IsPart line begin hung Lead start end = (is_in Ink (slice_index line start) ≡ true) × (end ≡ begin)

-- a part that begins and ends at these places
pub record HasPart (line : List ℕ) (begin : ℕ) (hung : List ℕ) (start : ℕ) (part : Part) (end : ℕ) : Type 0 where
  pub some : start < end
  pub within : end ≤ length line
  pub is : IsPart line begin hung part start end

-- the item of a part between two places, with its cells
pub record IsItem (line : List ℕ) (part : Part) (start end : ℕ) (item : Item) : Type 0 where
  pub part_is : item.part ≡ part
  pub start_is : item.start ≡ start
  pub end_is : item.end ≡ end
  pub cell_is : item.cell ≡ cell_at line start
  pub end_cell_is : item.end_cell ≡ cell_at line end
  pub few_cell : item.cell ≤ 8 * start
  pub few : item.end_cell ≤ 8 * end

-- the next item from a place on: only blanks come before it
pub record IsNext (line : List ℕ) (begin : ℕ) (hung : List ℕ) (at : ℕ) (item : Item) : Type 0 where
  pub from : at ≤ item.start
  pub gap : EachIn Blank line at item.start
  pub part : HasPart line begin hung item.start item.part item.end
  pub cell_is : item.cell ≡ cell_at line item.start
  pub end_cell_is : item.end_cell ≡ cell_at line item.end
  pub few_cell : item.cell ≤ 8 * item.start
  pub few : item.end_cell ≤ 8 * item.end

-- nothing is lost: blanks, an item, blanks, an item .. and blanks to the end
abbrev pub Covers : List ℕ → ℕ → List ℕ → ℕ → List Item → Type 0
Covers line begin hung at [] = EachIn Blank line at (length line)
Covers line begin hung at (item ∷ items) = IsNext line begin hung at item × Covers line begin hung item.end items

-- the parts of drawings
abbrev pub is_drawn : Part → Bool
is_drawn Gutter = false
is_drawn Row = false
is_drawn (Mark class) = true
is_drawn Bar = true
is_drawn Link = true
is_drawn (Hook rest) = true
is_drawn Text = true
is_drawn Whole = false
is_drawn Lead = false

-- parts of drawings that cover the line from a place on are added
pub record AddsItems (line hung : List ℕ) (at : ℕ) (old new : List Item) : Type 0 where
  pub more : List Item
  pub added : new ≡ old ++ more
  pub covers : Covers line at hung at more
  pub parts : All (λ item. is_drawn item.part ≡ true) more

-- a place is in an item
abbrev pub IsOver : ℕ → Item → Type 0
IsOver k item = (item.start ≤ k) × (k < item.end)

-- each character that is no blank is in an item
abbrev pub InkIsKept : List ℕ → List Item → Type 0
InkIsKept line items = (k : ℕ) → k < length line → is_in Blank (slice_index line k) ≡ false → Any (IsOver k) items

-- each item ends before the next one begins
abbrev pub AreDisjoint : List Item → Type 0
AreDisjoint items = AllPairs (λ (one other : Item). one.end ≤ other.start) items

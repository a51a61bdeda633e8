-- How a printed row lies over a row of the source, as a value.
use Rattle.std.specs.Prelude.{◌≡◌, ℕ, ◌+◌, ◌-◌, ◌≤◌, ◌==◌, ◌||◌, ◌&&◌, nat_le, nat_lt, if◌then◌else◌, Bool, List, [], ◌∷◌, ◌++◌, length, drop, take, replicate, slice_index_or, Option, Some, None}
use Rattle.std.specs.Char.{len_utf8}
use Rattle.std.specs.Cmp.Lexicographic.{pointwise}
use Rattle.std.specs.List.{list_all, starts_with}
use Rattle.std.specs.Option.{option_map, option_or}
use Rattle.excerpt_rows.specs.declared.alignment.TheConstants.{LIMIT}
use Rattle.excerpt_rows.specs.declared.alignment.Alignment.{Alignment}
use Rattle.excerpt_rows.specs.declared.alignment.Shift.{Shift}
use Rattle.excerpt_rows.specs.declared.ends.Edge.TheVariants.{Dot}
use Rattle.excerpt_rows.specs.declared.expansion.Rule.{Rule}
use Rattle.excerpt_rows.specs.declared.expansion.Rule.TheVariants.{Same}
use Rattle.excerpt_rows.specs.Alignment.{shifted, spare}
use Rattle.excerpt_rows.specs.Ends.{core, core_end, core_start, first_of, ink, is_blank, last_of}
use Rattle.excerpt_rows.specs.Expansion.{bytes_of, expanded, rules, shown}

-- what an alignment says
pub record AlignedParts : Type 0 where
  pub rule : Rule
  pub shift : Shift
  pub places : List ℕ
  pub end : ℕ

abbrev pub aligned_parts : Alignment → AlignedParts
aligned_parts a = record { rule = a.rule; shift = a.shift; places = a.places.items; end = a.end }

-- the offset of the character at a column; past the row, its end
abbrev pub offset_in : AlignedParts → ℕ → ℕ
offset_in a column = slice_index_or a.places (shifted a.shift column) a.end

-- ---- one text over another

abbrev pub begins_with : List ℕ → List ℕ → Bool
begins_with text start = starts_with (λ a b. a == b) text start

-- the text begins with a row, and after it is blank
abbrev pub is_begun_by : List ℕ → List ℕ → Bool
is_begun_by text row = begins_with text row && list_all is_blank (drop (length row) text)

-- the places, counted from a number, at which the first text is in the second
unfoldable pub places_from : List ℕ → ℕ → List ℕ → List ℕ
places_from core at [] = []
places_from core at (c ∷ cs) = (if begins_with (c ∷ cs) core then at ∷ [] else []) ++ places_from core (at + 1) cs

-- the item of a list of one
abbrev pub only_one : List ℕ → Option ℕ
only_one [] = None
only_one (place ∷ []) = Some place
only_one (place ∷ other ∷ places) = None

-- the row was cut by `...`, and something is left
abbrev pub is_cut : List ℕ → Bool
is_cut row = (nat_le 3 (first_of Dot (ink row)) || nat_le 3 (length (ink row) - last_of Dot (ink row))) && nat_lt (core_start row) (core_end row)

abbrev pub whole_shift : List ℕ → List ℕ → Shift
whole_shift printed text = record { skipped = 0; lead = spare printed text }

abbrev pub cut_shift : List ℕ → ℕ → Shift
cut_shift printed place = record { skipped = place; lead = core_start printed }

-- a printed row, without the blanks that it has more in front, is a text but for blanks at its end; or else the one part of it that it was cut to
unfoldable pub shift_over : List ℕ → List ℕ → Option Shift
shift_over printed text =
    if is_begun_by text (drop (spare printed text) printed) then Some (whole_shift printed text)
    else if is_cut printed then option_map (cut_shift printed) (only_one (places_from (core printed) 0 text))
    else None

-- ---- the first rule

unfoldable pub first_by : List Rule → List ℕ → List ℕ → Option (Rule × Shift)
first_by [] printed source = None
first_by (rule ∷ table) printed source = option_or (option_map (λ shift. (rule, shift)) (shift_over printed (expanded rule source))) (first_by table printed source)

-- as it is, or else by the first rule by which it lies over the source's row
abbrev pub printed_by : List ℕ → List ℕ → Option (Rule × Shift)
printed_by printed source = if pointwise (λ a b. a == b) printed source then Some (Same, record { skipped = 0; lead = 0 }) else first_by rules printed source

-- ---- the whole

-- after a text and so many bytes: for each character that is printed, the offset of the row's character that it is printed for
unfoldable pub places_after : Rule → List ℕ → ℕ → List ℕ → List ℕ
places_after rule text offset [] = []
places_after rule text offset (c ∷ cs) = replicate (length (shown rule text c)) offset ++ places_after rule (text ++ shown rule text c) (offset + len_utf8 c) cs

abbrev pub parts_by : List ℕ → Rule × Shift → AlignedParts
parts_by source by = record { rule = by.0; shift = by.1; places = places_after by.0 [] 0 source; end = bytes_of source }

-- how a printed row lies over a row of the source, both of LIMIT characters at most
unfoldable pub alignment_of : List ℕ → List ℕ → Option AlignedParts
alignment_of printed source = if nat_le (length printed) LIMIT && nat_le (length source) LIMIT then option_map (parts_by source) (printed_by printed source) else None

-- ---- offsets

abbrev pub OffsetsAreBoundaries : Type 0
OffsetsAreBoundaries = (printed source : List ℕ) (a : AlignedParts) → alignment_of printed source ≡ Some a → (column : ℕ) → (count : ℕ) × ((count ≤ length source) × (offset_in a column ≡ bytes_of (take count source)))

abbrev pub OffsetsAreWithin : Type 0
OffsetsAreWithin = (printed source : List ℕ) (a : AlignedParts) → alignment_of printed source ≡ Some a → (a.end ≡ bytes_of source) × ((column : ℕ) → offset_in a column ≤ a.end)

abbrev pub OffsetsAscend : Type 0
OffsetsAscend = (printed source : List ℕ) (a : AlignedParts) → alignment_of printed source ≡ Some a → (column later : ℕ) → column ≤ later → offset_in a column ≤ offset_in a later

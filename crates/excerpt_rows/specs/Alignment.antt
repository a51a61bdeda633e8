-- A printed row, laid over a row of the source.
use Rattle.std.specs.Prelude.{◌≡◌, ◌≢◌, ◌⊎◌, ℕ, ◌+◌, ◌-◌, ◌<◌, ◌≤◌, List, ◌++◌, length, drop, take, slice_index, Some, slice_get, slice_index_or, true}
use Rattle.std.specs.List.{list_all}
use Rattle.excerpt_rows.specs.declared.alignment.TheConstants.{LIMIT}
use Rattle.excerpt_rows.specs.declared.alignment.Alignment.{Alignment}
use Rattle.excerpt_rows.specs.declared.alignment.Shift.{Shift}
use Rattle.excerpt_rows.specs.declared.expansion.Rule.{Rule}
use Rattle.excerpt_rows.specs.declared.expansion.Rule.TheVariants.{Same}
use Rattle.excerpt_rows.specs.Ends.{IsDotted, core, core_end, core_start, first_of, is_blank}
use Rattle.excerpt_rows.specs.Expansion.{ArePlaces, bytes_of, expanded, printed_len, rules}
use Rattle.excerpt_rows.specs.Search.{IsOnlyPlace}
use Rattle.excerpt_rows.specs.declared.ends.Edge.TheVariants.{Blank}

-- how many blanks a printed row has more in front than a text
abbrev pub spare : List ℕ → List ℕ → ℕ
spare printed text = first_of Blank printed - first_of Blank text

-- without these, it is the text but for blanks at its end
pub record IsWhole (printed text : List ℕ) : Type 0 where
  pub rest : List ℕ
  pub whole : drop (spare printed text) printed ++ rest ≡ text
  pub blank : list_all is_blank rest ≡ true

-- it was cut by `...`, and what is left is in the text exactly once
pub record IsPart (printed text : List ℕ) (shift : Shift) : Type 0 where
  pub dotted : IsDotted printed
  pub some : core_start printed < core_end printed
  pub place : IsOnlyPlace (core printed) text shift.skipped
  pub begun : shift.lead ≡ core_start printed

abbrev pub IsNoPart : List ℕ → List ℕ → Type 0
IsNoPart printed text = (shift : Shift) → IsPart printed text shift → ⊥

-- a printed row is a text, or else a part of it
abbrev pub IsLaid : List ℕ → List ℕ → Shift → Type 0
IsLaid printed text shift = (IsWhole printed text × (shift.skipped ≡ 0) × (shift.lead ≡ spare printed text)) ⊎ ((IsWhole printed text → ⊥) × IsPart printed text shift)

abbrev pub IsNotLaid : List ℕ → List ℕ → Type 0
IsNotLaid printed text = (shift : Shift) → IsLaid printed text shift → ⊥

-- by none of the first so many rules a printed row is a row of the source
abbrev pub NoneLaid : List Rule → ℕ → List ℕ → List ℕ → Type 0
NoneLaid table count printed source = (k : ℕ) (rule : Rule) → k < count → slice_get table k ≡ Some rule → IsNotLaid printed (expanded rule source)

-- by this rule it is, and by no earlier one
pub record FirstLaid (table : List Rule) (printed source : List ℕ) (rule : Rule) (shift : Shift) : Type 0 where
  pub at : ℕ
  pub here : slice_get table at ≡ Some rule
  pub laid : IsLaid printed (expanded rule source) shift
  pub before : NoneLaid table at printed source

-- a printed row is the source's row as it is, or else by the first rule by which it is
abbrev pub IsPrintedBy : List Rule → List ℕ → List ℕ → Rule → Shift → Type 0
IsPrintedBy table printed source rule shift = ((printed ≡ source) × (rule ≡ Same) × (shift.skipped ≡ 0) × (shift.lead ≡ 0)) ⊎ ((printed ≢ source) × FirstLaid table printed source rule shift)

pub record IsOther (table : List Rule) (printed source : List ℕ) : Type 0 where
  pub differs : printed ≢ source
  pub none : NoneLaid table (length table) printed source

pub record IsAlignment (printed source : List ℕ) (a : Alignment) : Type 0 where
  pub printed_short : length printed ≤ LIMIT
  pub source_short : length source ≤ LIMIT
  pub rule : IsPrintedBy rules printed source a.rule a.shift
  pub places : ArePlaces a.rule source a.places.items
  pub end : a.end ≡ bytes_of source

abbrev pub HasNoAlignment : List ℕ → List ℕ → Type 0
HasNoAlignment printed source = length printed ≤ LIMIT → length source ≤ LIMIT → IsOther rules printed source

-- the character of the expansion that a printed column is
abbrev pub shifted : Shift → ℕ → ℕ
shifted shift column = column + shift.skipped - shift.lead

abbrev pub offset_at : Alignment → ℕ → ℕ
offset_at a column = slice_index_or a.places.items (shifted a.shift column) a.end

-- ---- columns

-- the columns of a printed row that are of the source: after its lead, and if it was cut, before what was put after it
pub record IsOfSource (printed : List ℕ) (shift : Shift) (column : ℕ) : Type 0 where
  pub after : shift.lead ≤ column
  pub within : column < length printed
  pub uncut : IsDotted printed → column < core_end printed

-- the character at a column is one of those that are printed for the source's character `at`, and the offset is that character's
pub record IsColumn (printed source : List ℕ) (a : Alignment) (column at : ℕ) : Type 0 where
  pub there : at < length source
  pub offset : offset_at a column ≡ bytes_of (take at source)
  pub from : printed_len a.rule source at ≤ shifted a.shift column
  pub to : shifted a.shift column < printed_len a.rule source (at + 1)
  pub same : slice_index printed column ≡ slice_index (expanded a.rule source) (shifted a.shift column)

abbrev pub ColumnsAreRight : Type 0
ColumnsAreRight = (printed source : List ℕ) (a : Alignment) (column : ℕ) → IsAlignment printed source a → IsOfSource printed a.shift column → (at : ℕ) × IsColumn printed source a column at

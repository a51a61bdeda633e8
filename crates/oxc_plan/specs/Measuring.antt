-- The columns of many places of a text, in one pass over it.
use Rattle.std.specs.Prelude.{◌≡◌, true, ℕ, ◌*◌, ◌<◌, ◌≤◌, List, ◌++◌, length, map, take, fold, slice_index, All}
use Rattle.std.specs.List.{concat, flat_map}
use Rattle.unicode_segmentation.specs.Grapheme.{graphemes}
use Rattle.oxc_plan.specs.declared.columns.Pen.{Pen}
use Rattle.oxc_plan.specs.declared.measuring.MeasuredText.{MeasuredText}
use Rattle.oxc_plan.specs.Width.{at_margin, led, moved, text_width}

-- the columns of a text before each of these places, measured alone
abbrev pub widths_before : ℕ → List ℕ → List ℕ → List ℕ
widths_before tab text places = map (λ at. text_width tab (take at text)) places

-- they are known, and small
pub record HaveColumns (tab : ℕ) (text places columns : List ℕ) : Type 0 where
  pub known : columns ≡ widths_before tab text places
  pub small : All (λ column. column ≤ 18 * length text) columns

-- what was measured of a text
abbrev pub HoldsColumns : ℕ → MeasuredText → Type 0
HoldsColumns tab measured = HaveColumns tab measured.text.now measured.places.items measured.columns.items

-- the places that are still to be measured lie no earlier than an offset
abbrev pub IsAhead : List ℕ → ℕ → ℕ → Type 0
IsAhead places done offset = done < length places → offset ≤ slice_index places done

-- the columns before the first of these places are known, and the others lie no earlier than an offset
pub record HaveColumnsUpTo (tab : ℕ) (text places columns : List ℕ) (offset : ℕ) : Type 0 where
  pub few : length columns ≤ length places
  pub front : HaveColumns tab text (take (length columns) places) columns
  pub ahead : IsAhead places (length columns) offset

-- a text was gone through up to an offset, where clusters are to come, and the pen stands there
pub record IsGoneThrough (tab : ℕ) (text : List ℕ) (offset : ℕ) (pen : Pen) (clusters : List (List ℕ)) : Type 0 where
  pub done : List (List ℕ)
  pub parts : graphemes true text ≡ done ++ clusters
  pub offset_is : offset ≡ length (concat done)
  pub pen_is : pen ≡ fold (moved tab) at_margin (flat_map led done)

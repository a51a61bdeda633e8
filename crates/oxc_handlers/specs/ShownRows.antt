-- What is drawn of a row of ASCII before an offset.
use Rattle.std.specs.Prelude.{◌≡◌, ℕ, ◌-◌, ◌≤◌, Bool, List, ◌++◌, length, take}
use Rattle.std.specs.Str.{IsAscii}
use Rattle.oxc_plan.specs.Columns.{column_at}
use Rattle.oxc_plan.specs.Rows.{RowView}
use Rattle.oxc_handlers.specs.Colors.{unstyled}
use Rattle.oxc_handlers.specs.Texts.{shown_text}

-- what is drawn of the text of a row before an offset
abbrev pub shown_before : ℕ → RowView → ℕ → List ℕ
shown_before tab row offset = shown_text tab (take (offset - row.offset) row.text)

-- the drawn row begins with what is drawn before the offset, and that has, escapes aside, as many characters as the offset's column
pub record IsShownInColumns (tab : ℕ) (row : RowView) (offset : ℕ) (at_start : Bool) : Type 0 where
  pub rest : List ℕ
  pub front : shown_text tab row.text ≡ shown_before tab row offset ++ rest
  pub column : column_at tab row offset at_start ≡ length (unstyled (shown_before tab row offset))

-- the law: so is each offset within a row of ASCII
abbrev pub HasColumnsAsShown : ℕ → RowView → Type 0
HasColumnsAsShown tab row =
    IsAscii row.text
    → (offset : ℕ) (at_start : Bool) → row.offset ≤ offset → offset - row.offset ≤ length row.text
    → IsShownInColumns tab row offset at_start

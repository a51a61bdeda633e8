-- What the first bytes of an input came to.
use Rattle.std.specs.Prelude.{◌≡◌, ⊤, ℕ, ◌<◌, ◌≤◌, ◌&&◌, ◌++◌, List, length, Bool, true, false, Option}
use Rattle.std.specs.Io.KnownBytes.{Consumes}
use Rattle.oxc_protocol.specs.Faults.{Rose}
use Rattle.girzohal_options.specs.declared.Asked.{Asked}
use Rattle.girzohal_options.specs.declared.InputForm.{InputForm}
use Rattle.girzohal_options.specs.declared.InputForm.TheVariants as form
use Rattle.girzohal_run.specs.Lines.{may_come}
use Rattle.girzohal_run.specs.Run.{comes, limit}
use Rattle.girzohal_run.specs.declared.opening.Opening.{Opening}
use Rattle.girzohal_run.specs.declared.opening.Opening.TheVariants as opening

abbrev pub is_auto : InputForm → Bool
is_auto form.Auto = true
is_auto form.Document = false
is_auto form.Sarif = false
is_auto form.Json = false
is_auto form.Lines = false

-- the first bytes of the input tell its form, and lines are written as they come
abbrev pub may_begin : Asked → Bool
may_begin asked = may_come asked && is_auto asked.from

-- these bytes were taken, and are lines that are written as they come, or no more than a run reads at once
abbrev pub Opens : Asked → Option (List ℕ) → Option (List ℕ) → Opening → Type 0
Opens asked before now (opening.Lines bytes) = Consumes before now bytes.items × (length bytes.items ≤ limit) × ((more : List ℕ) → comes asked (bytes.items ++ more) ≡ true)
Opens asked before now (opening.Whole bytes) = Consumes before now bytes.items × (length bytes.items ≤ limit)
Opens asked before now opening.TooLong = (bytes : List ℕ) × (limit < length bytes) × Consumes before now bytes
Opens asked before now opening.Fault = ⊤
Opens asked before now opening.OutOfMemory = ⊤

-- it failed only where faults rose, which never fall
abbrev pub HasOpeningCause : ℕ → ℕ → Opening → Type 0
HasOpeningCause before now (opening.Lines bytes) = before ≤ now
HasOpeningCause before now (opening.Whole bytes) = before ≤ now
HasOpeningCause before now opening.TooLong = before ≤ now
HasOpeningCause before now opening.Fault = Rose before now
HasOpeningCause before now opening.OutOfMemory = before ≤ now

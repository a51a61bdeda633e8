-- An object that means nothing, among other lines.
use Rattle.std.proofs.Common.{ℕ, List, Option}
use Rattle.std.specs.declared.ops.Range.{Range}
use Rattle.line_shapes.specs.declared.tables.Unit.{Unit as ColumnUnit}
use Rattle.input_forms.specs.Object.{IsJsonPart}
use Rattle.girzohal_run.specs.Made.{HasCause, IsNoObject, IsToldBehind}
use Rattle.girzohal_run.specs.Reads.{IsNonePart, before, part_of}
use Rattle.girzohal_run.specs.declared.object.ObjectForm.{ObjectForm}
use Rattle.girzohal_run.specs.declared.fault.Fault.{Fault}
use Rattle.girzohal_run.specs.declared.fault.Fault.TheVariants.{NoForm, OutOfMemory}

-- what is said of it behind what stands before it
pub none_told : (how : ObjectForm) (columns : Option ColumnUnit) (bytes : List ℕ) (range : Range ℕ) → IsJsonPart bytes range → (fault told : Fault)
    → HasCause (IsNonePart how columns) (part_of bytes range) fault → IsToldBehind (before bytes range) fault told → HasCause (IsNoObject how columns) bytes told
none_told how columns bytes range there (NoForm line) (NoForm said) cause behind =
    record { range = range; there = there; line = line.items; none = cause; said_is = behind }
none_told how columns bytes range there (NoForm line) OutOfMemory cause behind = tt
none_told how columns bytes range there OutOfMemory (NoForm said) cause behind = absurd behind
none_told how columns bytes range there OutOfMemory OutOfMemory cause behind = tt

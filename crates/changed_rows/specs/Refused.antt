-- Where a diff is refused.
use Rattle.std.specs.Prelude.{ℕ, ⊤}
use Rattle.changed_rows.specs.declared.error.DiffError.{DiffError}
use Rattle.changed_rows.specs.declared.error.DiffError.TheVariants.{Refused, OutOfMemory}
use Rattle.changed_rows.specs.declared.error.Refusal.{Refusal}
use Rattle.changed_rows.specs.declared.error.Wanted.{Wanted}

abbrev pub refusal : ℕ → Wanted → Refusal
refusal row wanted = record { row = row; wanted = wanted }

-- a fact of the refusal, if the diff is refused
abbrev pub IfRefused : DiffError → (Refusal → Type 0) → Type 0
IfRefused (Refused it) P = P it
IfRefused OutOfMemory P = ⊤

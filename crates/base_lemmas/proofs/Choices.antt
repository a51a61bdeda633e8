-- Choices of which both arms are one.
use Rattle.std.proofs.Common.{◌≡◌, Bool, true, false, if◌then◌else◌, Option, Some, None, refl}
use Rattle.std.specs.Option.{option_or}

-- a choice between one value and itself
pub if_same : {A : Type 0} (b : Bool) (x : A) → (if b then x else x) ≡ x
if_same true x = refl
if_same false x = refl

-- what was found, or else nothing
pub option_or-none : {A : Type 0} (found : Option A) → option_or found None ≡ found
option_or-none None = refl
option_or-none (Some x) = refl

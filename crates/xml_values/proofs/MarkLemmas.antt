-- A mark that doesn't stand at the first byte stands later, or nowhere.
use Rattle.std.proofs.Common.{◌≡◌, ◌∙◌, ℕ, ◌+◌, ◌<◌, List, [], ◌∷◌, length, drop, nat_eq, Bool, true, false, if◌then◌else◌, Option, Some, ap, arith, refl}
use Rattle.std.specs.List.{starts_with}
use Rattle.xml_values.specs.Marks.{mark_at}

or_later : List ℕ → ℕ → List ℕ → Bool → Option ℕ
or_later mark at bytes stands = if stands then Some at else mark_at mark (at + 1) bytes

pub mark_later : (mark bytes : List ℕ) (at : ℕ) → 0 < length bytes → starts_with nat_eq bytes mark ≡ false → mark_at mark at bytes ≡ mark_at mark (at + 1) (drop 1 bytes)
unfolding or_later
mark_later mark [] at some not = absurd (omega arith)
mark_later mark (byte ∷ bytes) at some not = ap (or_later mark at bytes) not

pub mark_here : (mark bytes : List ℕ) (at : ℕ) → 0 < length bytes → starts_with nat_eq bytes mark ≡ true → mark_at mark at bytes ≡ Some at
unfolding or_later
mark_here mark [] at some is = absurd (omega arith)
mark_here mark (byte ∷ bytes) at some is = ap (or_later mark at bytes) is

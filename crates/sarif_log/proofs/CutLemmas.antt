-- Past the end no brace stands.
use Rattle.std.proofs.Common.{◌≡◌, ℕ, ◌<◌, ◌&&◌, List, length, slice_index, true, inl, inr, sym, ◌∙◌, arith}
use Rattle.std.proofs.lemmas.Bool.Decides.{leb_tells}
use Rattle.std.proofs.lemmas.List.{get_or_past}
use Rattle.sarif_log.specs.Cut.{begins, opens}

pub opens_within : (bytes : List ℕ) (at : ℕ) → opens bytes at ≡ true → at < length bytes
unfolding opens
opens_within bytes at opened =
    elim (leb_tells (length bytes) at) [
      | inl t ↦ (let none : slice_index bytes at ≡ 0 = get_or_past bytes at 0 t.1 in absurd (cc (rw none at opened)))
      | inr t ↦ t.1
    ]

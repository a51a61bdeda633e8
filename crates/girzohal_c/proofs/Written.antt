-- What was written of a text is UTF-8.
use Rattle.std.proofs.Common.{◌≡◌, ◌⊎◌, inl, inr, ℕ, ◌≤◌, ◌<◌, List, ◌++◌, length, take, drop, sym, ap, subst, ◌∙◌, arith}
use Rattle.std.proofs.Math.Seq.{take-append_seam}
use Rattle.std.specs.Str.{IsUtf8}
use Rattle.std.proofs.lemmas.Bool.{cases_lt}
use Rattle.girzohal_c.specs.declared.shapes.Answer.{Answer}
use Rattle.girzohal_c.specs.Replies.{Gives, reply}

-- the text is at the buffer's beginning if the status is 0
front : (text before now : List ℕ) (needed : ℕ) → needed ≡ length text → now ≡ text ++ drop (length text) before → take needed now ≡ text
front text before now needed e is =
    ap (λ k. take k now) e ∙ ap (take (length text)) is ∙ take-append_seam text (drop (length text) before)

written : (text : List ℕ) (status : ℕ) (answer : Answer) (before now : List ℕ) → Gives text (reply status answer before now)
    → IsUtf8 text → status ≡ 0 → (length before < length text) ⊎ (length text ≤ length before) → IsUtf8 (take answer.needed now)
written text status answer before now gives is zero (inr fits) =
    let needed : answer.needed ≡ length text = ap (λ (it : Answer). it.needed) gives.needed in
    subst IsUtf8 (sym (front text before now answer.needed needed (gives.fits fits).1)) is
written text status answer before now gives is zero (inl small) = let ten = (gives.small small).0 in absurd (omega (arith, ten, zero))

pub written_is_utf8 : (text : List ℕ) (status : ℕ) (answer : Answer) (before now : List ℕ) → Gives text (reply status answer before now)
    → IsUtf8 text → status ≡ 0 → IsUtf8 (take answer.needed now)
written_is_utf8 text status answer before now gives is zero =
    written text status answer before now gives is zero (cases_lt (length before) (length text))

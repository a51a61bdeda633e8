-- What known bytes are after several writes.
use Rattle.std.proofs.Common.{◌≡◌, ℕ, ◌-◌, List, ◌++◌, Option, Some, None, append_assoc, ◌∙◌, ap, length, take, drop, arith, length-drop}
use Rattle.std.proofs.lemmas.Grind.{common_steps}
use Rattle.std.proofs.lemmas.List.{take-append-drop}
use Rattle.std.specs.Io.KnownBytes.{Appends}

-- two writes one after the other
pub Appends-trans : (a b c : Option (List ℕ)) (xs ys : List ℕ) → Appends a b xs → Appends b c ys → Appends a c (xs ++ ys)
Appends-trans None b c xs ys first second = tt
Appends-trans (Some s) None c xs ys first second = absurd first
Appends-trans (Some s) (Some t) None xs ys first second = absurd second
Appends-trans (Some s) (Some t) (Some u) xs ys first second = rw (second, first) (append_assoc s xs ys)

-- the rest behind a written front is the rest of the whole
pub split_after : (front rest whole : List ℕ) (n : ℕ) → front ++ rest ≡ whole → (front ++ take n rest) ++ take (length rest - n) (drop n rest) ≡ whole
split_after front rest whole n is =
    let all : take (length rest - n) (drop n rest) ≡ drop n rest = grind (arith, common_steps, length-drop n rest) in
    rw all (append_assoc front (take n rest) (drop n rest) ∙ (ap (λ xs. front ++ xs) (take-append-drop n rest) ∙ is))

use Rattle.std.specs.Prelude.{◌≡◌, ℕ, Bool, List, Option, Some, None, nat_eq, ◌&&◌}
use Rattle.std.proofs.Common.{refl, ap}
use Rattle.std.specs.Bool.{Decides, beq}
use Rattle.std.specs.Option.{option_eq}
use Rattle.std.specs.Cmp.{IsEquivalence, decided, unsigned_Decides, booleans_Decides}
use Rattle.std.specs.Cmp.Lexicographic.{pointwise, pointwise_decides}
use Rattle.std.proofs.lemmas.Bool.Decides.{Decides-and}
use Rattle.oxc_span.specs.Label.{Label}

-- a test of two values decides whether two that may be missing are equal
pub option_decides : {A : Type 0} {E : A → A → Bool} → ((a b : A) → Decides (E a b) (a ≡ b)) → (x y : Option A) → Decides (option_eq E x y) (x ≡ y)
option_decides e None None = (λ _. refl, λ _. refl)
option_decides e None (Some y) = (λ h. cc, λ h. cc)
option_decides e (Some x) None = (λ h. cc, λ h. cc)
option_decides e (Some x) (Some y) = (λ h. ap Some ((e x y).0 h), λ h. (e x y).1 (cc))

-- texts are equal where both are missing, or both are there with the same bytes
abbrev pub text_eq : Option (List ℕ) → Option (List ℕ) → Bool
text_eq = option_eq (pointwise nat_eq)

pub text_decides : (x y : Option (List ℕ)) → Decides (text_eq x y) (x ≡ y)
text_decides = option_decides (pointwise_decides unsigned_Decides)

-- labels are equal by all that contracts see of them
abbrev pub label_eq : Label → Label → Bool
label_eq a b = text_eq a.text b.text && (nat_eq a.offset b.offset && (nat_eq a.len b.len && beq a.primary b.primary))

pub label_decides : (a b : Label) → Decides (label_eq a b) (a ≡ b)
label_decides a b =
    let all = Decides-and _ _ (text_decides a.text b.text) (Decides-and _ _ (unsigned_Decides a.offset b.offset) (Decides-and _ _ (unsigned_Decides a.len b.len) (booleans_Decides a.primary b.primary))) in
    (λ h. let p = all.0 h in λ i. record { text = p.0 i; offset = p.1.0 i; len = p.1.1.0 i; primary = p.1.1.1 i }, λ e. all.1 (ap (λ (l : Label). l.text) e, (ap (λ (l : Label). l.offset) e, (ap (λ (l : Label). l.len) e, ap (λ (l : Label). l.primary) e))))

pub label_eq_equiv : IsEquivalence label_eq
label_eq_equiv = decided label_eq label_decides

-- Named texts, and when they are equal.
use Rattle.std.specs.Prelude.{◌≡◌, ℕ, ◌&&◌, Bool, List}
use Rattle.std.specs.Bool.{Decides}
use Rattle.std.specs.Cmp.{IsEquivalence, decided}
use Rattle.std.specs.Str.{bytes_eq}
use Rattle.std.proofs.Common.{ap}
use Rattle.std.proofs.lemmas.Bool.Decides.{Decides-and}
use Rattle.std.proofs.lemmas.Slice.Eq.{bytes_eq-Decides}

-- a file as contracts see it: the bytes of its name, and of its text
pub record FileView : Type 0 where
  pub name : List ℕ
  pub text : List ℕ

-- texts are equal by their bytes
pub text_eq_equiv : IsEquivalence bytes_eq
text_eq_equiv = decided bytes_eq bytes_eq-Decides

-- files are equal by name and text
abbrev pub file_eq : FileView → FileView → Bool
file_eq a b = bytes_eq a.name b.name && bytes_eq a.text b.text

pub file_decides : (a b : FileView) → Decides (file_eq a b) (a ≡ b)
file_decides a b =
    let both = Decides-and _ _ (bytes_eq-Decides a.name b.name) (bytes_eq-Decides a.text b.text) in
    (λ h. let p = both.0 h in λ i. record { name = p.0 i; text = p.1 i }, λ e. both.1 (ap (λ (f : FileView). f.name) e, ap (λ (f : FileView). f.text) e))

pub file_eq_equiv : IsEquivalence file_eq
file_eq_equiv = decided file_eq file_decides

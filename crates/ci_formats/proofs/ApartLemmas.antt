-- Texts that stand behind their lengths are told apart.
use Rattle.std.proofs.Common.{◌≡◌, ℕ, ◌^◌, ◌<◌, List, ◌∷◌, ◌++◌, length, take, drop, Option, Some, None, unwrap_or, codes, decimal, refl, sym, ap, ◌∙◌, inr, arith, append_assoc}
use Rattle.std.proofs.lemmas.List.{drop_at, take_at}
use Rattle.escapes.specs.Cuts.{cut_at, number_of}
use Rattle.escapes.proofs.CutLemmas.{cut_here, decimal_free, number_back}
use Rattle.ci_formats.specs.Fingerprint.{AreToldApart, marked, measured}

abbrev Pair : Type 0
Pair = List ℕ × List ℕ

pub record AreSame (a b x y : List ℕ) : Type 0 where
  pub first : a ≡ b
  pub rest : x ≡ y

abbrev first_or : Pair → Option Pair → List ℕ
first_or other None = other.0
first_or other (Some p) = p.0

abbrev second_or : Pair → Option Pair → List ℕ
second_or other None = other.1
second_or other (Some p) = p.1

number_same : (n m : ℕ) → n < 2 ^ 64 → m < 2 ^ 64 → decimal n ≡ decimal m → n ≡ m
number_same n m low high same = ap (λ o. unwrap_or o n) (sym (number_back n low) ∙ ap number_of same ∙ number_back m high)

shape : (a x : List ℕ) → measured a ++ x ≡ decimal (length a) ++ 0x3A ∷ (a ++ x)
unfolding measured
shape a x = append_assoc (decimal (length a) ++ codes ":") a x ∙ append_assoc (decimal (length a)) (codes ":") (a ++ x)

cut_measured : (a x : List ℕ) → length a < 2 ^ 64 → cut_at 0x3A (measured a ++ x) ≡ Some (decimal (length a), a ++ x)
cut_measured a x small = ap (cut_at 0x3A) (shape a x) ∙ cut_here 0x3A (decimal (length a)) (a ++ x) (decimal_free 0x3A (length a) small (inr (omega arith)))

measured_same : (a b x y : List ℕ) → length a < 2 ^ 64 → length b < 2 ^ 64 → measured a ++ x ≡ measured b ++ y → AreSame a b x y
measured_same a b x y low high same =
    let cuts : ◌≡◌ {A = Option Pair} (Some (decimal (length a), a ++ x)) (Some (decimal (length b), b ++ y)) = sym (cut_measured a x low) ∙ ap (cut_at 0x3A) same ∙ cut_measured b y high in
    let size : length a ≡ length b = number_same (length a) (length b) low high (ap (first_or (a, x)) cuts) in
    let rests : a ++ x ≡ b ++ y = ap (second_or (a, x)) cuts in
    record {
      first = sym (take_at a x (length a) refl) ∙ ap (take (length a)) rests ∙ take_at b y (length a) (sym size);
      rest = sym (drop_at a x (length a) refl) ∙ ap (drop (length a)) rests ∙ drop_at b y (length a) (sym size);
    }

texts : (p c m d : List ℕ) → p ++ c ++ m ++ d ≡ p ++ (c ++ (m ++ d))
texts p c m d = simp append_assoc

pub told_apart : AreToldApart
unfolding marked
told_apart a b low high same =
    let front = measured_same a.path b.path (measured a.code ++ (measured a.message ++ decimal a.before)) (measured b.code ++ (measured b.message ++ decimal b.before)) low.path high.path
    (sym (texts (measured a.path) (measured a.code) (measured a.message) (decimal a.before)) ∙ same ∙ texts (measured b.path) (measured b.code) (measured b.message) (decimal b.before)) in
    let middle = measured_same a.code b.code (measured a.message ++ decimal a.before) (measured b.message ++ decimal b.before) low.code high.code front.rest in
    let last = measured_same a.message b.message (decimal a.before) (decimal b.before) low.message high.message middle.rest in
    let count = number_same a.before b.before low.before high.before last.rest in
    λ i. record { path = front.first i; code = middle.first i; message = last.first i; before = count i }

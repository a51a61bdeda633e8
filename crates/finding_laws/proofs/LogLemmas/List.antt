-- Lists of values that are written, as they are read.
use Rattle.std.proofs.Common.{◌≡◌, ℕ, zero, suc, ◌+◌, ◌≤◌, List, [], ◌∷◌, map, Option, Some, None, unwrap_or, refl, ap, ap₂, arith}
use Rattle.std.specs.Prelude.{slice_get}
use Rattle.std.specs.List.{All}
use Rattle.std.proofs.lemmas.List.Elements.{All-head, All-tail}
use Rattle.json.specs.Json.{Json}
use Rattle.json.specs.Tree.{HasNumbers, ItemsHaveNumbers, depth, items_depth}
use Rattle.serde_json.specs.Data.{Data}
use Rattle.serde_json.specs.View.{items_of}
use Rattle.serde_json.specs.Written.{outline, items_outline}
use Rattle.sarif_log.specs.declared.form.Kind.TheVariants.{Object}
use Rattle.sarif_log.specs.declared.form.Shape.{Shape}
use Rattle.sarif_log.specs.Faults.{fault_in, items_fault}
use Rattle.sarif_log.specs.Log.{list_of}

-- a value that has no fault, whose numbers are numbers, and which is no deeper
pub record Fits (shape : Shape) (deep : ℕ) (it : Data) : Type 0 where
  pub faultless : fault_in (Object shape) (outline it) ≡ None
  pub numbers : HasNumbers (outline it)
  pub shallow : depth (outline it) ≤ deep

pub items_fit : (shape : Shape) (deep at : ℕ) (its : List Data) → All (Fits shape deep) its → items_fault (Object shape) at (items_outline (items_of its)) ≡ None
unfolding items_fault
items_fit shape deep at [] fit = refl
items_fit shape deep at (it ∷ its) fit = rw (All-head (Fits shape deep) it its fit).faultless (items_fit shape deep (at + 1) its (All-tail (Fits shape deep) it its fit))

pub items_numbers : (shape : Shape) (deep : ℕ) (its : List Data) → All (Fits shape deep) its → ItemsHaveNumbers (items_outline (items_of its))
items_numbers shape deep [] fit = tt
items_numbers shape deep (it ∷ its) fit = ((All-head (Fits shape deep) it its fit).numbers, items_numbers shape deep its (All-tail (Fits shape deep) it its fit))

pub items_shallow : (shape : Shape) (deep : ℕ) (its : List Data) → All (Fits shape deep) its → items_depth (items_outline (items_of its)) ≤ deep
items_shallow shape deep [] fit = omega arith
items_shallow shape deep (it ∷ its) fit =
    omega (arith, (All-head (Fits shape deep) it its fit).shallow, items_shallow shape deep its (All-tail (Fits shape deep) it its fit))

-- ---- what is read of them

pub items_read : {B : Type 0} (read : Option Json → B) (its : List Data) → map (λ value. read (Some value)) (list_of (items_outline (items_of its))) ≡ map (λ it. read (Some (outline it))) its
items_read read [] = refl
items_read read (it ∷ its) = ap (λ rest. read (Some (outline it)) ∷ rest) (items_read read its)

-- each is read as what is meant
pub each_read : {A B : Type 0} (P : A → Type 0) (value : A → Data) (read : Data → B) (meant : A → B) → ((x : A) → P x → read (value x) ≡ meant x)
    → (xs : List A) → All P xs → map read (map value xs) ≡ map meant xs
each_read P value read meant one [] all = refl
each_read P value read meant one (x ∷ xs) all = ap₂ (λ first rest. first ∷ rest) (one x (All-head P x xs all)) (each_read P value read meant one xs (All-tail P x xs all))

pub read_at : {A B : Type 0} (read : A → B) (xs : List A) (at : ℕ) (other : A) → read (unwrap_or (slice_get xs at) other) ≡ unwrap_or (slice_get (map read xs) at) (read other)
read_at read [] at other = refl
read_at read (x ∷ xs) zero other = refl
read_at read (x ∷ xs) (suc at) other = read_at read xs at other

-- what holds of all holds of one, and of all others
pub holds_at : {A : Type 0} (P : A → Type 0) (xs : List A) (at : ℕ) (other : A) → All P xs → P other → P (unwrap_or (slice_get xs at) other)
holds_at P [] at other all own = own
holds_at P (x ∷ xs) zero other all own = All-head P x xs all
holds_at P (x ∷ xs) (suc at) other all own = holds_at P xs at other (All-tail P x xs all) own

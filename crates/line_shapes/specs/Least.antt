-- What it is for a place to be the least that fits.
use Rattle.std.specs.Prelude.{◌≡◌, ℕ, zero, suc, ◌-◌, ◌<◌, if◌then◌else◌, Bool, List, [], ◌∷◌, length, take, drop, Option, Some, None, option_map, option_and_then, MatchOption}
use Rattle.std.specs.List.{range_with_len}
use Rattle.line_shapes.specs.declared.part.Part.{Part}
use Rattle.line_shapes.specs.Part.{Seen, before, fit}
use Rattle.line_shapes.specs.Name.{is_name}
use Rattle.line_shapes.specs.declared.name.NameKind.{NameKind}
use Rattle.line_shapes.specs.Place.{Place, afters, leads, named}

-- the answer at the item with this number
abbrev pub pick : {A B : Type 0} → (A → Option B) → List A → ℕ → Option B
pick f [] k = None
pick f (x ∷ xs) zero = f x
pick f (x ∷ xs) (suc k) = pick f xs k

abbrev pub after_fits : Seen → ℕ → List Part → Option Seen
after_fits s end shape = fit shape (record s { rest = drop end s.rest })

abbrev pub name_fits : ℕ → NameKind → Seen → ℕ → Option Place
name_fits after kind s end = if is_name kind s.rest end then option_map (named s end) (pick (after_fits s end) afters after) else None

abbrev pub lead_fits : ℕ → ℕ → List ℕ → List Part × NameKind → Option Place
lead_fits name after line lead = option_and_then (λ s. pick (name_fits after lead.1 s) (range_with_len 1 (length s.rest - 1)) name) (fit lead.0 (before line))

-- the place in a line with the lead of this number, a name of one byte more than this number, and what stands behind names of this number, where they fit
abbrev pub fits_at : List ℕ → ℕ → ℕ → ℕ → Option Place
fits_at line lead name after = pick (lead_fits name after line) leads lead

-- a place fits, and none with an earlier lead, none with this lead and a shorter name, none with both and an earlier text behind them
pub record IsLeast (line : List ℕ) (p : Place) : Type 0 where
  pub lead : ℕ
  pub name : ℕ
  pub after : ℕ
  pub fits : fits_at line lead name after ≡ Some p
  pub first_lead : (l n a : ℕ) → l < lead → fits_at line l n a ≡ None
  pub shortest_name : (n a : ℕ) → n < name → fits_at line lead n a ≡ None
  pub first_after : (a : ℕ) → a < after → fits_at line lead name a ≡ None

-- the answer is the least that fits, and none exactly where nothing does
abbrev pub IsLeastPlace : List ℕ → Option Place → Type 0
IsLeastPlace line answer = MatchOption answer ((l n a : ℕ) → fits_at line l n a ≡ None) (IsLeast line)

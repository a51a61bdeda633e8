-- What is kept of a list is a part of it.
use Rattle.std.proofs.Common.{◌≡◌, ◌⊎◌, inl, inr, Bool, true, false, if◌then◌else◌, List, [], ◌∷◌, ℕ, refl, sym, subst}
use Rattle.found_reports.specs.Found.{Found}
use Rattle.found_reports.specs.Kept.{FoundParts}
use Rattle.report_filters.specs.Filtered.{IsLeft, flags_for}
use Rattle.found_reports.specs.Flagged.{kept_of, later_flags, next_flag}
use Rattle.report_filters.specs.declared.rules.Rules.{Rules}
use Rattle.finding_laws.specs.Baselines.Parts.{IsPartOf}

part_of_more : {A : Type 0} (part its : List A) (other : A) → IsPartOf part its → IsPartOf part (other ∷ its)
part_of_more [] its other is = tt
part_of_more (it ∷ part) its other is = inr is

kept_part : {A : Type 0} (flags : List Bool) (its : List A) → IsPartOf (kept_of flags its) its
kept_part flags [] = tt
kept_part flags (it ∷ its) = go (next_flag flags) (kept_part (later_flags flags) its)
  where
    go : (flag : Bool) → IsPartOf (kept_of (later_flags flags) its) its
        → IsPartOf (if flag then it ∷ kept_of (later_flags flags) its else kept_of (later_flags flags) its) (it ∷ its)
    go true rest = inl (refl, rest)
    go false rest = part_of_more (kept_of (later_flags flags) its) its it rest

pub left_part : (rules : Rules) (notes : Bool) (parts left : FoundParts) (line : List ℕ) → IsLeft rules notes parts left line → IsPartOf left.found parts.found
left_part rules notes parts left line is =
    subst (λ (those : List Found). IsPartOf those parts.found) (sym is.found) (kept_part (flags_for rules notes parts.found) parts.found)

-- Rules by beginnings of ids, and messages by their names.
use Rattle.std.proofs.Common.{◌≡◌, ℕ, ◌-◌, ◌<◌, ◌==◌, zero, suc, List, Option, Some, None, slice_index, take, if◌then◌else◌, refl, ◌∙◌, arith}
use Rattle.std.proofs.lemmas.Bool.{ne_eqb}
use Rattle.std.specs.Option.{option_or}
use Rattle.sarif_log.specs.Log.{Rule}
use Rattle.sarif.specs.Rules.{rule_before, rule_with}

-- of three options the first that is there
pub option_or_assoc : {A : Type 0} (a b c : Option A) → option_or (option_or a b) c ≡ option_or a (option_or b c)
option_or_assoc None b c = refl
option_or_assoc (Some x) b c = refl

-- one byte less of an id
pub before_step : (rules : List Rule) (id : List ℕ) (end : ℕ) → 0 < end
    → rule_before rules id end ≡ (if slice_index id (end - 1) == 0x2F then option_or (rule_with rules (take (end - 1) id)) (rule_before rules id (end - 1)) else rule_before rules id (end - 1))
unfolding rule_before
before_step rules id zero some = absurd (omega (arith, some))
before_step rules id (suc end) some = let e : suc end - 1 ≡ end = omega arith in rw e refl

pub before_none : (rules : List Rule) (id : List ℕ) (end : ℕ) → end ≡ 0 → rule_before rules id end ≡ None
unfolding rule_before
before_none rules id zero none = refl
before_none rules id (suc end) none = absurd (omega (arith, none))

-- one byte less, where that is no slash
pub before_plain : (rules : List Rule) (id : List ℕ) (end : ℕ) → 0 < end → (slice_index id (end - 1) ≡ 0x2F → ⊥) → rule_before rules id end ≡ rule_before rules id (end - 1)
before_plain rules id end some plain = before_step rules id end some ∙ rw (ne_eqb (slice_index id (end - 1)) 0x2F plain) refl

pub ruleset before_rules = (before_step, before_plain, before_none)

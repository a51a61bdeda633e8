-- What the first bytes of an input tell.
use Rattle.std.specs.Prelude.{◌≡◌, ◌≢◌, ℕ, nat_eq, List, [], ◌∷◌, ◌++◌, codes, ◌==◌, ◌||◌, ◌&&◌, Bool, true, false, if◌then◌else◌}
use Rattle.std.specs.List.{starts_with}
use Rattle.input_forms.specs.Begun.{begins_as, begins_xml, first_from}
use Rattle.input_forms.specs.declared.begun.Begun.{Begun}
use Rattle.input_forms.specs.declared.begun.Begun.TheVariants.{Lines}
use Rattle.input_forms.specs.declared.sure.FirstBytes.{FirstBytes}
use Rattle.input_forms.specs.declared.sure.FirstBytes.TheVariants.{SurelyLines, Open, Other}

-- of what an input begins as, by what comes next: it is lines whatever comes, or never, or that hangs on it
abbrev pub Settles : FirstBytes → (List ℕ → Begun) → Type 0
Settles SurelyLines begins = (more : List ℕ) → begins more ≡ Lines
Settles Other begins = (more : List ℕ) → begins more ≢ Lines
Settles Open begins = ((more : List ℕ) × (begins more ≡ Lines)) × ((more : List ℕ) × (begins more ≢ Lines))

-- what these first bytes tell of an input, whatever comes behind them
abbrev pub Tells : FirstBytes → List ℕ → Type 0
Tells it bytes = Settles it (λ more. begins_as (bytes ++ more))

-- ---- how it is found

-- a byte order mark isn't whole yet, or nothing came
abbrev pub may_become_mark : List ℕ → Bool
may_become_mark [] = true
may_become_mark (a ∷ []) = a == 0xEF
may_become_mark (a ∷ (b ∷ [])) = a == 0xEF && b == 0xBB
may_become_mark (a ∷ (b ∷ (c ∷ rest))) = false

-- of a text whose first byte is no blank
abbrev pub told_in_bracket : List ℕ → FirstBytes
told_in_bracket [] = Open
told_in_bracket (byte ∷ rest) = if byte == 0x7B || (byte == 0x22 || byte == 0x5D) then Other else SurelyLines

-- the beginning of a word with which XML begins
abbrev pub may_begin_xml : List ℕ → Bool
may_begin_xml rest = starts_with nat_eq (codes "?xml") rest || (starts_with nat_eq (codes "checkstyle") rest || (starts_with nat_eq (codes "results") rest || (starts_with nat_eq (codes "pmd") rest || starts_with nat_eq (codes "jslint") rest)))

abbrev pub told_behind_angle : List ℕ → FirstBytes
told_behind_angle rest = if begins_xml rest then Other else if may_begin_xml rest then Open else SurelyLines

abbrev pub told_with : ℕ → List ℕ → FirstBytes
told_with byte rest = if byte == 0x7B then Other else if byte == 0x5B then told_in_bracket (first_from rest) else if byte == 0x3C then told_behind_angle rest else SurelyLines

abbrev pub told_by : List ℕ → FirstBytes
told_by [] = Open
told_by (byte ∷ rest) = told_with byte rest

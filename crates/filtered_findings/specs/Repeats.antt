-- Findings that were there before.
use Rattle.std.specs.Prelude.{ℕ, ◌||◌, Bool, true, false, List, [], ◌∷◌, String}
use Rattle.std.specs.BTreeSet.{BTreeSet, contains_text}
use Rattle.std.specs.Str.{bytes_eq}
use Rattle.std.specs.declared.alloc.Global.{Global}
use Rattle.finding_filters.specs.Finding.{FindingParts}
use Rattle.finding_filters.specs.Texts.{exact_text}

-- which texts came before
abbrev pub Seen : Type 0
Seen = List ℕ → Bool

abbrev pub none_seen : Seen
none_seen text = false

unfoldable pub with_seen : Seen → List ℕ → Seen
with_seen seen text other = bytes_eq text other || seen other

unfoldable pub seen_in : BTreeSet (String Global) → Seen
seen_in texts text = contains_text texts text

-- for each finding, whether it came before
abbrev pub repeats_from : Seen → List FindingParts → List Bool
repeats_from seen [] = []
repeats_from seen (it ∷ rest) = seen (exact_text it) ∷ repeats_from (with_seen seen (exact_text it)) rest

-- no finding counts as a repetition
abbrev pub no_repeats : List FindingParts → List Bool
no_repeats [] = []
no_repeats (it ∷ rest) = false ∷ no_repeats rest

abbrev pub repeats_if : Bool → List FindingParts → List Bool
repeats_if true its = repeats_from none_seen its
repeats_if false its = no_repeats its

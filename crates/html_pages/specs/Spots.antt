-- Findings in the order of their headings.
use Rattle.std.specs.Prelude.{ℕ, ◌+◌, List, [], ◌∷◌}
use Rattle.std.specs.Cmp.Lexicographic.{slice_cmp}
use Rattle.std.specs.List.Sorted.{IsPermutation, IsSorted}
use Rattle.std.specs.Ordering.{nat_cmp, ordering_then}
use Rattle.std.specs.declared.cmp.Ordering.{Ordering}
use Rattle.oxc_protocol.specs.declared.protocol.Severity.{Severity}
use Rattle.oxc_protocol.specs.declared.protocol.Severity.TheVariants.{Advice, Error, Warning}
use Rattle.ci_formats.specs.Finding.{FindingParts}
use Rattle.finding_summaries.specs.Names.{file_of, rule_of}
use Rattle.html_pages.specs.declared.spots.Part.{Part}
use Rattle.html_pages.specs.declared.spots.Part.TheVariants.{Files, Rules}
use Rattle.html_pages.specs.declared.spots.Spot.{Spot}

-- a finding below its heading: the rank of its severity, the name in the heading, and its place in the list
pub record SpotParts : Type 0 where
  pub rank : ℕ
  pub name : List ℕ
  pub at : ℕ

abbrev pub spot_parts : Spot → SpotParts
spot_parts it = record { rank = it.rank; name = it.name.now; at = it.at }

-- errors come first
abbrev pub rank_of : Severity → ℕ
rank_of Error = 0
rank_of Warning = 1
rank_of Advice = 2

-- below severity and rule, or below its file
abbrev pub spot_in : Part → ℕ → FindingParts → SpotParts
spot_in Rules at f = record { rank = rank_of f.severity; name = rule_of f; at = at }
spot_in Files at f = record { rank = 0; name = file_of f; at = at }

-- those of findings, of which the first has this place
abbrev pub spots_from : Part → ℕ → List FindingParts → List SpotParts
spots_from part at [] = []
spots_from part at (f ∷ rest) = spot_in part at f ∷ spots_from part (at + 1) rest

-- by rank, by name, and by place
abbrev pub spot_order : SpotParts → SpotParts → Ordering
spot_order a b = ordering_then (nat_cmp a.rank b.rank) (ordering_then (slice_cmp nat_cmp a.name b.name) (nat_cmp a.at b.at))

pub record IsInOrder (spots sorted : List SpotParts) : Type 0 where
  pub permutation : IsPermutation spots sorted
  pub sorted_is : IsSorted spot_order sorted

-- the spots of findings, in order
abbrev pub AreSpots : Part → List FindingParts → List SpotParts → Type 0
AreSpots part findings spots = IsInOrder (spots_from part 0 findings) spots

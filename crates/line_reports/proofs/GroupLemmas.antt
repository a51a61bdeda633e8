-- The reports of one finding more with its notes.
use Rattle.std.proofs.Common.{◌≡◌, ℕ, ◌-◌, ◌≤◌, List, [], ◌∷◌, ◌++◌, length, map, take, drop, get_or, ap, ◌∙◌, append_assoc, arith}
use Rattle.std.proofs.lemmas.List.{take_rest}
use Rattle.found_reports.specs.Found.{Found}
use Rattle.found_reports.specs.Held.{Held}
use Rattle.line_shapes.specs.declared.tools.Columns.{Columns}
use Rattle.line_reports.specs.declared.groups.Group.{Group}
use Rattle.line_reports.specs.Joined.{group_parts}
use Rattle.line_reports.specs.Reports.{all_reports, group_reports}

pub groups_more : (columns : Columns) (told : List ℕ → Held) (groups : List Group) (group : Group) (old new all : List Found) → 1 ≤ length groups → group ≡ get_or groups 0 group
    → new ≡ old ++ group_reports columns told (group_parts group) → old ++ all_reports columns told (map group_parts groups) ≡ all
    → new ++ all_reports columns told (map group_parts (take (length groups - 1) (drop 1 groups))) ≡ all
groups_more columns told [] group old new all some is pushed before = absurd (omega (arith, some))
groups_more columns told (x ∷ rest) group old new all some is pushed before =
    ap (λ gs. new ++ all_reports columns told (map group_parts gs)) (take_rest (x ∷ rest) 1)
    ∙ (ap (λ front. front ++ all_reports columns told (map group_parts rest)) (pushed ∙ ap (λ (g : Group). old ++ group_reports columns told (group_parts g)) is)
    ∙ (append_assoc old (group_reports columns told (group_parts x)) (all_reports columns told (map group_parts rest)) ∙ before))

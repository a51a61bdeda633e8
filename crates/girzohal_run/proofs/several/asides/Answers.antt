-- The rest of one input more.
use Rattle.std.proofs.Common.{◌≡◌, ◌-◌, List, ℕ, drop, take, length, map, ap, subst, ◌∙◌}
use Rattle.std.specs.List.{fold}
use Rattle.girzohal_run.specs.Filtering.{with_line}
use Rattle.girzohal_run.specs.Joined.{FindsParts, aside_in, finds_parts}
use Rattle.girzohal_run.specs.declared.finds.Finds.{Finds}
use Rattle.girzohal_run.proofs.ListedLemmas.{split_first}
use Rattle.girzohal_run.proofs.several.asides.Goals as goal

pub loop-finds-preserved : goal.loop-finds-preserved
loop-finds-preserved c =
    let finds = c.loop-finds.finds.now in
    let input = c.input-item.result in
    let rest = take (length finds - 1) (drop 1 finds) in
    let split = split_first finds input c.in-len1-up.len_at_least c.input-item.is in
    let left = map (λ (it : FindsParts). it.aside) (map finds_parts rest) in
    ap (λ (text : List ℕ). fold with_line text left) (c.in_ok-push_lines.ensures ∙ ap (λ (aside : List ℕ). with_line c.loop-finds.text.items aside) c.deref.ensures.value)
    ∙ subst (λ (xs : List Finds). fold with_line c.loop-finds.text.items (map (λ (it : FindsParts). it.aside) (map finds_parts xs)) ≡ aside_in (map finds_parts c.args.finds.now)) split c.loop-finds.invariant

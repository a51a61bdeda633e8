-- The bytes came, and behind what is known of them stands what is left.
use Rattle.std.proofs.Common.{[], ◌++◌, string_bytes, subst, sym, ap, ◌∙◌}
use Rattle.drawn_lines.specs.Coming.{IsDrawn}
use Rattle.girzohal_run.proofs.lines.drawn.Goals as goal

pub returns-clause-drawn : goal.returns-clause-drawn
returns-clause-drawn g c =
    let told = g.S.Store.told c.args.store.now in
    let asked = c.args.asked.now in
    let first = string_bytes c.in_ok-come.come.text in
    let beside = string_bytes c.in_ok-come.come.aside in
    let came = c.in_ok-come.ensures [] [] [] (c.new-coming.ensures told asked) in
    let all = c.in_ok-push_str.ensures.bytes ∙ ap (λ t. first ++ t) c.as_str.ensures.value in
    let kept = c.in_ok-push_str-2.ensures.bytes ∙ ap (λ t. beside ++ t) c.as_str-2.ensures.value in
    let text = string_bytes c.push_str.new.self in
    let reached = c.in_ok-end.end.reached in
    let drew = subst (λ t. IsDrawn told asked c.args.bytes.now t (beside ++ string_bytes c.in_ok-end.end.aside) reached) (sym all)
    (c.in_ok-end.ensures c.args.bytes.now first beside came) in
    subst (λ t. IsDrawn told asked c.args.bytes.now text t reached) (sym (ap (λ v. v.items) c.into_bytes-aside.ensures.value ∙ kept)) drew

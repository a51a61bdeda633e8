use Rattle.std.proofs.Common.{◌≡◌, ◌++◌, ◌-◌, ◌∙◌, ap, append_assoc, arith, length, map, string_bytes, subst, sym, take}
use Rattle.std.specs.List.{flat_map}
use Rattle.std.specs.Result.{OnOk}
use Rattle.std.proofs.lemmas.List.{length-take-le}
use Rattle.finding_summaries.specs.Markdown.{more_row, row_text}
use Rattle.finding_summaries.specs.Ranking.{row_parts}
use Rattle.finding_summaries.proofs.RankLemmas.{cut_rows}
use Rattle.finding_summaries.proofs.markdown.push_rows.Goals as goal

pub slice_bounds-shown-end : goal.slice_bounds-shown-end
slice_bounds-shown-end c = sym (length-take-le 50 c.args.rows.now (omega (arith, c.if-rows-le-MOST.false)))

pub returns : goal.returns
returns c =
    let rows = c.args.rows.now in
    let old = string_bytes c.args.out.now in
    let shown = flat_map row_text (map row_parts (take 50 rows)) in
    let whole =
    ap (λ l. l ++ more_row (length rows - 50) c.left.result) c.in_ok-push_each.ensures ∙ append_assoc old shown (more_row (length rows - 50) c.left.result)
    ∙ ap (λ n. old ++ (shown ++ more_row (length rows - 50) n)) c.left.ensures ∙ ap (λ l. old ++ l) (sym (cut_rows c.args.all rows c.if-rows-le-MOST.false)) in
    subst (λ l. OnOk c.push_more.result (string_bytes c.push_more.new.out ≡ l)) whole c.push_more.ensures

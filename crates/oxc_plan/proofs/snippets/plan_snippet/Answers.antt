use Rattle.std.proofs.Common.{◌∙◌, ap, sym, refl, subst, map, arith}
use Rattle.oxc_plan.specs.Groups.{largest_end, span_at}
use Rattle.oxc_plan.specs.Plan.{gutter_of, ordered_view, row_plan_view}
use Rattle.oxc_plan.specs.Rows.{rows_of}
use Rattle.oxc_plan.specs.Sweep.{MeetNoOthers}
use Rattle.oxc_plan.proofs.PlanLemmas.{head_in, rows_read, snippet_made}
use Rattle.oxc_plan.proofs.snippets.plan_snippet.Goals as goal

pub place_in-place-requires-clause-from : goal.place_in-place-requires-clause-from
place_in-place-requires-clause-from c =
    let group = c.args.group.now in
    let is = c.requires.read in
    let alone = c.requires.alone in
    let head = head_in c.args.scanner.now.input (map ordered_view c.args.labels.now) c.args.spans.now group.places group.span group.contents c.requires.spans is.start is.end is.contents alone.some alone.within alone.held c.requires.ordered.within in
    omega (arith, head.0, ap (λ l. l.span.start) c.head_label-head.ensures)

pub place_in-place-requires-clause-upto : goal.place_in-place-requires-clause-upto
place_in-place-requires-clause-upto c =
    let group = c.args.group.now in
    let is = c.requires.read in
    let alone = c.requires.alone in
    let head = head_in c.args.scanner.now.input (map ordered_view c.args.labels.now) c.args.spans.now group.places group.span group.contents c.requires.spans is.start is.end is.contents alone.some alone.within alone.held c.requires.ordered.within in
    omega (arith, head.1, ap (λ l. l.span.start) c.head_label-head.ensures)

pub plan_rows-requires : goal.plan_rows-requires
plan_rows-requires c =
    let group = c.args.group.now in
    let is = c.requires.read in
    let alone = c.requires.alone in
    let views = rows_read c.args.scanner.now.input c.args.spans.now group.places group.span group.contents (rows_of group.contents) is.start is.end is.contents refl in
    record {
      text = is.text c.requires.text;
      measured = is.measured;
      numbered = is.numbered;
      spans_are = c.requires.spans;
      rising = c.requires.ordered.ascend;
      ordered = λ k d lt. (c.requires.ordered.within k d lt).0;
      some = alone.some;
      within = alone.within;
      alone = subst (MeetNoOthers c.args.spans.now group.places) (sym views) alone.alone;
    }

pub returns : goal.returns
returns c =
    let group = c.args.group.now in
    let is = c.requires.read in
    let starts = is.start ∙ ap (λ l. (span_at l group.places.start).start) c.requires.spans in
    let ends = is.end ∙ ap (λ l. largest_end l group.places.start group.places.end) c.requires.spans in
    snippet_made c.args.tabs c.args.scanner.now.input (map ordered_view c.args.labels.now) group.places group.span group.contents (ordered_view c.head_label-head.result)
    c.place_in-place.result.0 c.place_in-place.result.1 c.gutter_of-gutter.result (rows_of group.contents) (map row_plan_view c.in_ok-rows.rows.items)
    starts ends is.contents c.head_label-head.ensures (ap (λ p. p.0) c.place_in-place.ensures.place) (ap (λ p. p.1) c.place_in-place.ensures.place) refl c.in_ok-rows.ensures
    (c.gutter_of-gutter.ensures ∙ ap (λ l. gutter_of (map row_plan_view l)) c.deref.ensures.value)

use Rattle.std.proofs.Common.{◌≡◌, ◌∙◌, None, arith, subst}
use Rattle.std.specs.Option.{option_map}
use Rattle.line_shapes.specs.Part.{seen}
use Rattle.line_shapes.specs.Place.{IsNextMark, found_at, in_lead as place_in_lead}
use Rattle.line_shapes.proofs.PlaceLemmas.{ends_here, goes_on, none_left, nothing_at}
use Rattle.line_shapes.proofs.place.in_text.Goals as goal

pub returns-in-Some-at_end : goal.returns-in-Some-at_end
unfolding place_in_lead
returns-in-Some-at_end c =
    c.within.ensures ∙ ends_here c.args.kind (seen c.args.begun) c.loop-end.at c.in-Some.end (seen c.in-Some-at_end.found) _ c.requires c.in-Some.ensures c.loop-end.invariant.2 c.in-Some-at_end.ensures

pub loop-end-preserved : goal.loop-end-preserved
loop-end-preserved c =
    let nothing : None ≡ found_at c.args.kind (seen c.args.begun) c.in-Some.end = subst (λ answer. option_map seen answer ≡ found_at c.args.kind (seen c.args.begun) c.in-Some.end) c.in_default-at_end.is c.at_end.ensures in (
      omega arith,
      omega (arith, c.in-Some.ensures.0.high),
      goes_on c.args.kind (seen c.args.begun) c.loop-end.at c.in-Some.end _ c.in-Some.ensures c.loop-end.invariant.2 (nothing_at c.args.kind (seen c.args.begun) c.in-Some.end c.requires nothing),
    )

pub returns : goal.returns
unfolding place_in_lead
returns c = none_left c.args.kind (seen c.args.begun) c.loop-end.at _ (subst (λ answer. IsNextMark c.args.begun.rest.now c.loop-end.at answer) c.in_default.is c.next_mark.ensures) c.loop-end.invariant.2

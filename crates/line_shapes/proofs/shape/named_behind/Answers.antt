use Rattle.std.proofs.Common.{◌≡◌, length, None, arith, subst}
use Rattle.std.specs.Option.{option_map}
use Rattle.line_shapes.specs.Part.{seen}
use Rattle.line_shapes.specs.Place.{placed}
use Rattle.line_shapes.specs.Shape.{first_named as first_own_place, own_at as own_place_at}
use Rattle.line_shapes.proofs.PlaceLemmas.{found_there, goes_further, none_there}
use Rattle.line_shapes.proofs.shape.named_behind.Goals as goal

pub returns-in-Some : goal.returns-in-Some
unfolding first_own_place
returns-in-Some c =
    found_there (own_place_at c.args.kind c.args.after.now (seen c.args.begun)) c.loop-at.at (length c.args.begun.rest.now) (placed c.in-Some.placed) _ (omega arith) c.loop-at.invariant.1 c.in-Some.ensures

pub loop-at-preserved : goal.loop-at-preserved
loop-at-preserved c =
    let nothing : None ≡ own_place_at c.args.kind c.args.after.now (seen c.args.begun) c.loop-at.at =
    subst (λ answer. option_map placed answer ≡ own_place_at c.args.kind c.args.after.now (seen c.args.begun) c.loop-at.at) c.in_default.is c.named_at.ensures in
    (omega arith, goes_further (own_place_at c.args.kind c.args.after.now (seen c.args.begun)) c.loop-at.at (length c.args.begun.rest.now) _ (omega arith) c.loop-at.invariant.1 nothing)

pub returns : goal.returns
unfolding first_own_place
returns c = none_there (own_place_at c.args.kind c.args.after.now (seen c.args.begun)) c.loop-at.at (length c.args.begun.rest.now) _ (omega arith) c.loop-at.invariant.1

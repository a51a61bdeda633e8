use Rattle.std.proofs.Common.{◌≡◌, ◌∙◌, Some, ap, option_map}
use Rattle.line_shapes.specs.Part.{seen}
use Rattle.line_shapes.specs.Place.{afters, first_fit, fits_behind}
use Rattle.line_shapes.proofs.PlaceLemmas.{found_not, found_so, rest_is}
use Rattle.line_shapes.proofs.place.found_at.Goals as goal

pub returns-then-may_name : goal.returns-then-may_name
unfolding afters
returns-then-may_name c =
    let here : Some (seen c.in_ok-found.found) ≡ fits_behind (seen c.args.begun) c.args.end =
    c.in_ok-found.ensures ∙ ap (λ text. first_fit afters (record (seen c.args.begun) { rest = text })) (rest_is c.args.begun.rest.now c.args.end) in
    found_so c.args.kind (seen c.args.begun) (seen c.in_ok-found.found) c.args.end c.may_name.result c.if-may_name.true c.may_name.ensures here

pub returns-in_err-found : goal.returns-in_err-found
unfolding afters
returns-in_err-found c =
    ap (option_map seen) c.from_residual.ensures
    ∙ found_not c.args.kind (seen c.args.begun) c.args.end (c.in_err-found.ensures ∙ ap (λ text. first_fit afters (record (seen c.args.begun) { rest = text })) (rest_is c.args.begun.rest.now c.args.end))

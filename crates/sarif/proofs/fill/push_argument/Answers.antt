-- No character is cut behind a brace.
use Rattle.sarif.proofs.FillLemmas.{after_close, after_open}
use Rattle.sarif.proofs.fill.push_argument.Goals as goal

pub range-requires-clause-start_boundary : goal.range-requires-clause-start_boundary
range-requires-clause-start_boundary c = λ _. after_open c.args.rest.now c.args.digits c.utf8.rest c.requires

pub range-requires-in-None-clause-end_boundary : goal.range-requires-in-None-clause-end_boundary
range-requires-in-None-clause-end_boundary c = after_close c.args.rest.now c.args.digits c.utf8.rest c.requires

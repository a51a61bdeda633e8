-- The refusal of the input, with its name.
use Rattle.girzohal_run.proofs.SeveralLemmas.{refused_by}
use Rattle.girzohal_run.proofs.several.find_in.Goals as goal

pub returns-in-Err-clause-cause : goal.returns-in-Err-clause-cause
returns-in-Err-clause-cause g c =
    refused_by c.args.asked.now c.args.input.now c.in-Err.fault c.named.result (rw c.deref.ensures.value at c.in-Err.ensures.cause) (rw c.as_str.ensures.value at c.named.ensures)

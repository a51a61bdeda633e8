use Rattle.std.proofs.Common.{◌∙◌, sym, ap}
use Rattle.escapes.specs.Cuts.{looks_as_number}
use Rattle.escapes.proofs.CutLemmas.{number_read}
use Rattle.escapes.proofs.cuts.number.Goals as goal

pub returns-then-looks_as_number-clause-value : goal.returns-then-looks_as_number-clause-value
returns-then-looks_as_number-clause-value c =
    c.ok.ensures.value
    ∙ number_read c.args.text.now c.parse.result (ap looks_as_number (sym c.as_bytes.ensures.value) ∙ sym c.looks_as_number.ensures ∙ c.if-looks_as_number.true) c.parse.ensures.value.0

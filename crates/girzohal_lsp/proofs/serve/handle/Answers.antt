use Rattle.girzohal_lsp.proofs.serve.handle.Goals as goal

pub returns : goal.returns
returns g c = record {
  message = c.in_ok-message.message;
  is_read = c.in_ok-message.ensures;
  answered = c.in_ok-answers.ensures;
}

use Rattle.girzohal_lsp.proofs.log.no_json.Goals as goal

pub returns : goal.returns
returns c = record { row = c.args.line; column = c.args.column; is = c.in_ok-why.ensures.ok }

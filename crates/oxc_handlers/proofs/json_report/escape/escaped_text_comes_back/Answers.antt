use Rattle.oxc_handlers.proofs.JsonEscapeLemmas.{comes_back}
use Rattle.oxc_handlers.proofs.json_report.escape.escaped_text_comes_back.Goals as goal

pub returns : goal.returns
returns c = comes_back c.args._text.now

use Rattle.std.proofs.Common.{◌≡◌, arith, rules, string_bytes, subst}
use Rattle.std.proofs.lemmas.Grind.{common_steps}
use Rattle.std.specs.Option.{option_copied}
use Rattle.oxc_handlers.specs.JsonText.{json_of}
use Rattle.oxc_handlers.specs.JsonValue.{ReadsBack}
use Rattle.oxc_handlers.proofs.ReportsLemmas.{url_back}
use Rattle.oxc_handlers.proofs.json_report.json_text.Goals as goal

pub returns-clause-text : goal.returns-clause-text
returns-clause-text g c =
    let parts = (goal.Diagnostic-dyn g c.args.diagnostic.now).parts c.args.diagnostic.now.1 in
    subst (λ p. string_bytes c.push_json.new.out ≡ json_of p) (url_back parts c.of-view.result (option_copied c.url.result) c.of-view.ensures c.url.ensures)
    (first_of (search rules, grind (arith, common_steps)))

pub returns-clause-reads_back : goal.returns-clause-reads_back
returns-clause-reads_back g c =
    let parts = (goal.Diagnostic-dyn g c.args.diagnostic.now).parts c.args.diagnostic.now.1 in
    subst ReadsBack (url_back parts c.of-view.result (option_copied c.url.result) c.of-view.ensures c.url.ensures) (first_of (search rules, grind (arith, common_steps)))

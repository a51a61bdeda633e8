-- The document's value is read by the forms.
use Rattle.std.proofs.Common.{rules}
use Rattle.xml_values.specs.Views.{document_view}
use Rattle.girzohal_run.proofs.ValuesLemmas.{both_ok}
use Rattle.girzohal_run.proofs.xml.find_xml.Goals as goal

pub returns-clause-found : goal.returns-clause-found
returns-clause-found g c =
    both_ok c.say_values.result _ _ _
    (λ it finds none. record {
      value = document_view c.in_ok-document.document;
      forms = c.in_ok-forms.forms;
      has = record { is = search rules; forms_are = search rules };
      none_refused = search rules;
      finds = search rules;
    }) c.say_values.ensures.found c.say_values.ensures.none

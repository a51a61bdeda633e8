-- The values are read by the forms, and the lines beside them.
use Rattle.std.proofs.Common.{rules, map}
use Rattle.json.specs.Value.{value_view}
use Rattle.json_inputs.specs.Input.{said_in}
use Rattle.girzohal_run.proofs.ValuesLemmas.{all_refused, both_ok}
use Rattle.girzohal_run.proofs.values.find_values.Goals as goal

pub returns-clause-found : goal.returns-clause-found
returns-clause-found g c =
    let forms = c.in_ok-forms.forms in
    let rows = c.in_ok-rows.rows.items in
    let values = map value_view c.after_first.result.now in
    both_ok c.say_values.result _ _ _
    (λ it finds none. record {
      said = said_in forms rows values;
      beside = c.in_ok-beside.beside.items;
      reads = record {
        pieces = c.in_ok-cut.cut.pieces.items;
        values = values;
        forms = forms;
        has = record { cut = search rules; are = search rules; forms_are = search rules };
        none_refused = search rules;
        said_is = search rules;
        beside_is = search rules;
      };
      finds = search rules;
    }) c.say_values.ensures.found c.say_values.ensures.none

pub returns-clause-cause : goal.returns-clause-cause
returns-clause-cause g c =
    all_refused c.say_values.result c.lent.result.now c.deref-4.result.now (map value_view c.after_first.result.now) c.say_values.ensures.cause
    c.args.asked.now.json_shapes.items c.args.asked.now.tool c.args.bytes.now c.in_ok-cut.cut.pieces.items c.in_ok-forms.forms (search rules) (search rules)
    (record { cut = search rules; are = search rules; forms_are = search rules })

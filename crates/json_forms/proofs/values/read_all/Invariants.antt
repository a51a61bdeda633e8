-- Those before are read; those left are still to come.
use Rattle.std.proofs.Common.{◌≡◌, ◌++◌, drop, map, flat_map}
use Rattle.json.specs.Value.{value_view}
use Rattle.json_forms.specs.Read.{first_refusal, reading_view}
use Rattle.json_forms.specs.Values.{answers, reading_of}
use Rattle.json_forms.proofs.values.read_all.Given as goal

abbrev pub invariant-loop-value : goal.invariant-loop-value
invariant-loop-value l = record {
  read_so_far : map reading_view l.fn.readings.items ++ map (reading_of l.forms) (map value_view l.values)
      ≡ map reading_view l.readings.items ++ map (reading_of l.forms) (map value_view (drop l.value-index l.values));
  none_so_far : first_refusal (flat_map (answers l.forms) (map value_view l.values))
      ≡ first_refusal (flat_map (answers l.forms) (map value_view (drop l.value-index l.values)));
}

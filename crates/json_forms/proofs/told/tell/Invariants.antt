-- At most one of those before fits.
use Rattle.std.proofs.Common.{◌≡◌, ◌++◌, drop, filter, option_map}
use Rattle.std.specs.Option.{option_to_list}
use Rattle.json.specs.Value.{value_view}
use Rattle.json_forms.specs.Told.{fits}
use Rattle.json_forms.proofs.told.tell.Given as goal

abbrev pub invariant-loop-form : goal.invariant-loop-form
invariant-loop-form l = filter (fits l.is_last_asked (value_view l.value)) l.forms ≡ option_to_list (option_map (λ form. form.now) l.one) ++ filter (fits l.is_last_asked (value_view l.value)) (drop l.form-index l.forms)

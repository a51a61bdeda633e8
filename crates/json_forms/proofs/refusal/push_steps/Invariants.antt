-- Those before are written; those left are still to come.
use Rattle.std.proofs.Common.{◌≡◌, ◌++◌, drop, flat_map, string_bytes}
use Rattle.json_forms.specs.Refusal.{step_text}
use Rattle.json_forms.proofs.refusal.push_steps.Given as goal

abbrev pub invariant-loop-step : goal.invariant-loop-step
invariant-loop-step l = string_bytes l.initial.out ++ flat_map step_text l.steps ≡ string_bytes l.out ++ flat_map step_text (drop l.step-index l.steps)

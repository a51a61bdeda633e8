-- Those before are written; those left are still to come.
use Rattle.std.proofs.Common.{◌≡◌, ◌++◌, drop, flat_map, string_bytes}
use Rattle.json_spots.specs.Text.{step_text}
use Rattle.json_spots.proofs.text.push_steps.Given as goal

abbrev pub invariant-loop-step : goal.invariant-loop-step
invariant-loop-step l = string_bytes l.initial.out ++ flat_map step_text l.rest ≡ string_bytes l.out ++ flat_map step_text (drop l.step-index l.rest)

use Rattle.std.proofs.Common.{◌≡◌, string_bytes, string_capacity, vec_capacity, reverse, refl, ◌∙◌}
use Rattle.source_edit.specs.Edits.{edited}
use Rattle.source_edit.specs.Steps.{backwards}
use Rattle.source_edit.proofs.StepsLemmas.{popped_leads, more_room}
use Rattle.source_edit.proofs.edit_text.EditText.step_back.Goals as goal

pub invariant_of-self-2 : goal.invariant_of-self-2
invariant_of-self-2 c =
    let inside = c.self.inside in
    let text = string_bytes inside.text in
    let step = c.in-Some.step in
    let leads = popped_leads (string_capacity inside.text) (vec_capacity inside.line_starts) text inside.steps.items c.pop.new.self.items step c.in-Some.ensures.items c.self.invariant.steps in
    let made : string_bytes c.put.new.text ≡ edited text (backwards step) = c.put.ensures.edited ∙ rw c.as_str.ensures.value refl in
    record {
      fits = rw made leads.0.acceptable.fits;
      starts = c.put.ensures.indexed;
      steps =
          rw made (more_room (string_capacity inside.text) (string_capacity c.put.new.text) (vec_capacity inside.line_starts) (vec_capacity c.put.new.line_starts)
          (edited text (backwards step)) (reverse c.pop.new.self.items) c.put.ensures.text_room c.put.ensures.starts_room leads.1);
    }

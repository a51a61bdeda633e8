use Rattle.std.proofs.Common.{◌≡◌, ◌+◌, ◌++◌, ◌∷◌, [], length, string_bytes, string_capacity, vec_capacity, reverse, refl, ap, subst, ◌∙◌}
use Rattle.std.specs.Str.{IsCharBoundary}
use Rattle.source_edit.specs.Edits.{edited, change_of, after_edit}
use Rattle.source_edit.specs.Causes.{IsAcceptable}
use Rattle.source_edit.specs.Steps.{history_of}
use Rattle.source_edit.proofs.StepsLemmas.{more_room, leads_back, step_back_is, pushed_leads, pushed_history, same_editing}
use Rattle.source_edit.proofs.edit_text.EditText.apply_at.Goals as goal

pub invariant_of-self-in_default : goal.invariant_of-self-in_default
invariant_of-self-in_default c =
    let inside = c.self.inside in
    let text = string_bytes inside.text in
    record {
      fits = rw c.prepare.ensures.text c.self.invariant.fits;
      starts = rw (c.prepare.ensures.text, c.prepare.ensures.starts) c.self.invariant.starts;
      steps =
          rw (c.prepare.ensures.text, c.reserve.ensures.items) (more_room (string_capacity inside.text) (string_capacity c.prepare.new.text) (vec_capacity inside.line_starts) (vec_capacity c.prepare.new.line_starts)
          text (reverse inside.steps.items) c.prepare.ensures.text_room c.prepare.ensures.starts_room c.self.invariant.steps);
    }

pub invariant_of-self-2 : goal.invariant_of-self-2
invariant_of-self-2 c =
    let inside = c.self.inside in
    let text = string_bytes inside.text in
    let change = change_of c.args.edit.now in
    let step = c.in-Ok.step in
    let text_room = string_capacity c.prepare.new.text in
    let starts_room = vec_capacity c.prepare.new.line_starts in
    let ready = c.in-Ok.ensures.ready in
    let ok : IsAcceptable text change = subst (λ l. IsAcceptable l change) c.as_str.ensures.value c.in_ok-check.ensures in
    let made : string_bytes c.put.new.text ≡ edited text change = c.put.ensures.edited ∙ rw (c.prepare.ensures.text, c.as_str-2.ensures.value) refl in
    let start : IsCharBoundary (edited text change) change.start = subst (λ l. IsCharBoundary l change.start) made c.put.ensures.start in
    let end : IsCharBoundary (edited text change) (change.start + length change.insert) =
    subst (λ l. IsCharBoundary l (change.start + length change.insert)) made (subst (λ l. IsCharBoundary (string_bytes c.put.new.text) (change.start + length l)) c.as_str-2.ensures.value c.put.ensures.end) in
    let steps = c.push_reserved.ensures.items ∙ ap (λ l. l ++ step ∷ []) c.reserve.ensures.items in
    let earlier = more_room (string_capacity inside.text) text_room (vec_capacity inside.line_starts) starts_room text (reverse inside.steps.items) c.prepare.ensures.text_room c.prepare.ensures.starts_room c.self.invariant.steps in
    let back = step_back_is text_room starts_room text change c.in-Ok.starts.items step ok ready in
    let leads = leads_back text_room starts_room text change c.in-Ok.starts.items step ok c.self.invariant.fits ready start end in
    record {
      fits = rw made ok.fits;
      starts = c.put.ensures.indexed;
      steps =
          rw made (more_room text_room (string_capacity c.put.new.text) starts_room (vec_capacity c.put.new.line_starts) (edited text change) (reverse c.push_reserved.new.self.items)
          c.put.ensures.text_room c.put.ensures.starts_room
          (pushed_leads text_room starts_room (edited text change) text c.push_reserved.new.self.items inside.steps.items step steps back leads earlier));
    }

pub returns-clause-accepted : goal.returns-clause-accepted
returns-clause-accepted c =
    let inside = c.self.inside in
    let text = string_bytes inside.text in
    let change = change_of c.args.edit.now in
    let step = c.in-Ok.step in
    let ok : IsAcceptable text change = subst (λ l. IsAcceptable l change) c.as_str.ensures.value c.in_ok-check.ensures in
    let made : string_bytes c.put.new.text ≡ edited text change = c.put.ensures.edited ∙ rw (c.prepare.ensures.text, c.as_str-2.ensures.value) refl in
    let steps = c.push_reserved.ensures.items ∙ ap (λ l. l ++ step ∷ []) c.reserve.ensures.items in
    let back = step_back_is (string_capacity c.prepare.new.text) (vec_capacity c.prepare.new.line_starts) text change c.in-Ok.starts.items step ok c.in-Ok.ensures.ready in
    let history : history_of (string_bytes c.put.new.text) (reverse c.push_reserved.new.self.items) ≡ history_of text (reverse inside.steps.items) ++ text ∷ [] =
    ap (λ l. history_of l (reverse c.push_reserved.new.self.items)) made ∙ pushed_history (edited text change) text c.push_reserved.new.self.items inside.steps.items step steps back in
    same_editing (string_bytes c.put.new.text) (edited text change) _ _ made history ∙ ap (λ before. after_edit before change) c.self.view_is

use Rattle.std.proofs.Common.{◌≡◌, ◌+◌, ◌<◌, ◌∷◌, length, map, drop, inl, sym, ap, subst, ◌∙◌, arith}
use Rattle.source_edit.specs.Edits.{change_of, after_edits}
use Rattle.source_edit.specs.Causes.{AreAcceptable, IsCauseAmong}
use Rattle.source_edit.proofs.AllLemmas.{HasApplied, applied_none, applied_more, rest_more, rest_none}
use Rattle.source_edit.proofs.edit_text.EditText.apply_all.Goals as goal

pub loop-place-init : goal.loop-place-init
loop-place-init c = applied_none c.args.self.now (map change_of c.deref-edit-items.result.now)

pub returns-in-Err-clause-cause : goal.returns-in-Err-clause-cause
returns-in-Err-clause-cause c =
    let items = c.deref-edit-items.result.now in
    let here = c.loop-place.place in
    let item = c.edit-item.result in
    let within : here < length items = omega (arith, c.loop-place-test.true) in
    let rest : map change_of (drop here items) ≡ change_of item ∷ map change_of (drop (here + 1) items) =
    rest_more items here item within ∙ ap (λ edit. change_of edit ∷ map change_of (drop (here + 1) items)) (sym c.edit-item.is) in
    subst (λ list. IsCauseAmong 0 c.args.self.now.text (map change_of list) c.in-Err.error) c.deref-edit-items.ensures.value
    (c.loop-place.invariant.cause c.in-Err.error (subst (λ list. IsCauseAmong here c.loop-place.self.text list c.in-Err.error) (sym rest) (inl c.in-Err.ensures.cause)))

pub returns-in-Err-clause-unchanged : goal.returns-in-Err-clause-unchanged
returns-in-Err-clause-unchanged c =
    let back = c.loop-place.invariant.back in
    c.step_back_by.ensures c.args.self.now back.0 back.1 (c.in-Err.ensures.unchanged ∙ back.2)

pub loop-place-preserved : goal.loop-place-preserved
loop-place-preserved c =
    let items = c.deref-edit-items.result.now in
    let here = c.loop-place.place in
    let item = c.edit-item.result in
    let within : here < length items = omega (arith, c.loop-place-test.true) in
    let rest : map change_of (drop here items) ≡ change_of item ∷ map change_of (drop (here + 1) items) =
    rest_more items here item within ∙ ap (λ edit. change_of edit ∷ map change_of (drop (here + 1) items)) (sym c.edit-item.is) in
    applied_more c.args.self.now c.loop-place.self c.apply_at.new.self (map change_of items) (map change_of (drop (here + 1) items)) (change_of item) here
    (subst (λ list. HasApplied c.args.self.now c.loop-place.self (map change_of items) list here) rest c.loop-place.invariant) c.in_default.ensures.cause c.in_default.ensures.accepted

pub returns-clause-accepted : goal.returns-clause-accepted
returns-clause-accepted c =
    let items = c.deref-edit-items.result.now in
    let rest = rest_none items c.loop-place.place (omega (arith, c.loop-place-test.false)) in
    ap (after_edits c.loop-place.self) (sym rest) ∙ c.loop-place.invariant.after ∙ ap (λ list. after_edits c.args.self.now (map change_of list)) c.deref-edit-items.ensures.value

pub returns-clause-cause : goal.returns-clause-cause
returns-clause-cause c =
    let items = c.deref-edit-items.result.now in
    let rest = rest_none items c.loop-place.place (omega (arith, c.loop-place-test.false)) in
    subst (λ list. AreAcceptable c.args.self.now.text (map change_of list)) c.deref-edit-items.ensures.value
    (c.loop-place.invariant.accepted (subst (AreAcceptable c.loop-place.self.text) (sym rest) tt))

-- The values around the one further out are those from there on.
use Rattle.std.proofs.Common.{◌∙◌, ◌-◌, ◌<◌, ◌++◌, ap, sym, arith, drop, string_bytes}
use Rattle.std.proofs.lemmas.Result.{on_ok_weaker}
use Rattle.json_spots.specs.Spot.{crumbs_view}
use Rattle.json_forms.specs.Refusal.{trail_text}
use Rattle.json_forms.proofs.RefusalLemmas.{text_further}
use Rattle.json_forms.proofs.refusal.push_spot.Goals as goal

pub returns-then-up-len : goal.returns-then-up-len
returns-then-up-len c =
    let above : 0 < c.args.up = omega (arith, c.if-up-eq0.false) in
    on_ok_weaker c.push_trail-then-up-len.result
    (λ e. e ∙ ap (λ text. string_bytes c.args.out.now ++ text)
    (ap (λ crumbs. trail_text (crumbs_view crumbs)) c.split_at-cut.ensures.back ∙ ap (λ crumbs. trail_text (crumbs_view (drop (c.args.up - 1) crumbs))) c.as_slice.ensures.value ∙ sym (text_further c.args.spot.now c.args.up above)))
    c.push_trail-then-up-len.ensures

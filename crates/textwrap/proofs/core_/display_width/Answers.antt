use Rattle.std.proofs.Common.{◌≡◌, [], sym, ap, ◌∙◌, arith, refl, subst}
use Rattle.std.specs.Str.{chars, IsUtf8}
use Rattle.std.specs.Str.Iter.{chars_rest}
use Rattle.std.proofs.lemmas.Str.{IsUtf8-past_char, chars-nil}
use Rattle.std.proofs.lemmas.List.{nil_from_length}
use Rattle.textwrap.specs.Width.{pen_behind, display_width}
use Rattle.textwrap.proofs.WidthLemmas.{pen_step, room_step}
use Rattle.textwrap.proofs.core_.display_width.Goals as goal

pub loop-c-init : goal.loop-c-init
unfolding pen_behind
loop-c-init c =
    let whole : chars_rest c.into_iter-c-iterator.result ≡ c.args.text.now = cc in
    record {
      can_next = tt;
      is_finite = tt;
      text = subst IsUtf8 (sym whole) c.utf8.text;
      ahead = rw (whole, c.pen_at_start-pen.ensures) refl;
      room = rw (whole, c.pen_at_start-pen.ensures) (omega arith);
    }

pub moved_over-pen-requires : goal.moved_over-pen-requires
moved_over-pen-requires c = omega (arith, c.loop-c.invariant.room, room_step c.in-Some.c _ _ c.in-Some.ensures.steps.0)

pub loop-c-preserved : goal.loop-c-preserved
loop-c-preserved c =
    let step = c.in-Some.ensures.steps.0 in
    let kept = c.loop-c.invariant in
    record {
      can_next = tt;
      is_finite = tt;
      text = IsUtf8-past_char _ _ _ kept.text step;
      ahead = rw c.moved_over-pen.ensures.exact (pen_step c.loop-c.pen c.in-Some.c _ _ kept.text step ∙ kept.ahead);
      room = omega (arith, kept.room, room_step c.in-Some.c _ _ step, c.moved_over-pen.ensures.bound);
    }

pub returns-clause-exact : goal.returns-clause-exact
unfolding display_width
returns-clause-exact c =
    let none : chars_rest c.loop-c.c-iterator ≡ [] = nil_from_length _ c.in-None.ensures.steps.0.0 in
    let done : chars (chars_rest c.loop-c.c-iterator) ≡ [] = ap chars none ∙ chars-nil in
    let same : c.loop-c.pen ≡ pen_behind c.args.text.now = rw done at c.loop-c.invariant.ahead in
    ap (λ pen. pen.width) same

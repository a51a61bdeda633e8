use Rattle.std.proofs.Common.{◌≡◌, [], sym, ap, ◌∙◌, arith, refl, subst, string_bytes}
use Rattle.std.specs.Str.{chars, IsUtf8}
use Rattle.std.specs.Str.Iter.{chars_rest}
use Rattle.std.proofs.lemmas.Str.{IsUtf8-past_char, chars-nil}
use Rattle.std.proofs.lemmas.List.{nil_from_length}
use Rattle.oxc_handlers.proofs.TextsLemmas.{char_step, one_char_less, few_chars, shown_step, shown_none}
use Rattle.oxc_handlers.proofs.line.write_cluster.Goals as goal

pub loop-c-init : goal.loop-c-init
loop-c-init c =
    let whole : chars_rest c.into_iter-c-iterator.result ≡ c.args.cluster.now = cc in
    record {
      can_next = tt;
      is_finite = tt;
      text = subst IsUtf8 (sym whole) c.utf8.cluster;
      ahead = rw (whole, c.width-lead.ensures.value) refl;
      drawn = rw (whole, c.width-lead.ensures.value) refl;
      room = rw whole (omega (arith, few_chars c.args.cluster.now c.utf8.cluster, c.width-lead.ensures.bound));
    }

pub loop-c-preserved : goal.loop-c-preserved
loop-c-preserved c =
    let step = c.in-Some.ensures.steps.0 in
    let kept = c.loop-c.invariant in
    record {
      can_next = tt;
      is_finite = tt;
      text = IsUtf8-past_char _ _ _ kept.text step;
      ahead = rw c.moved_over-at.ensures.exact (char_step c.args.tabs c.loop-c.at c.loop-c.lead c.in-Some.c _ _ kept.text step ∙ kept.ahead);
      drawn = rw (c.moved_over-at.ensures.exact, c.in_ok-write_char.ensures) (shown_step (string_bytes c.loop-c.out) c.args.tabs c.loop-c.at c.loop-c.lead c.in-Some.c _ _ kept.text step ∙ kept.drawn);
      room = omega (arith, kept.room, one_char_less c.in-Some.c _ _ kept.text step, c.moved_over-at.ensures.bound);
    }

pub returns-clause-exact : goal.returns-clause-exact
returns-clause-exact c =
    let none : chars_rest c.loop-c.c-iterator ≡ [] = nil_from_length _ c.in-None.ensures.steps.0.0 in
    let done : chars (chars_rest c.loop-c.c-iterator) ≡ [] = ap chars none ∙ chars-nil in
    rw done at c.loop-c.invariant.ahead

pub returns-clause-text : goal.returns-clause-text
returns-clause-text c =
    let none : chars_rest c.loop-c.c-iterator ≡ [] = nil_from_length _ c.in-None.ensures.steps.0.0 in
    let done : chars (chars_rest c.loop-c.c-iterator) ≡ [] = ap chars none ∙ chars-nil in
    sym (shown_none c.args.tabs c.loop-c.at (string_bytes c.loop-c.out)) ∙ (rw done at c.loop-c.invariant.drawn)

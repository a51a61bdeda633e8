-- The value that the relation determines.
use Rattle.std.proofs.Common.{inl, inr, arith}
use Rattle.excerpt_rows.specs.Expansion.{rules}
use Rattle.excerpt_rows.proofs.AlignedLemmas.{long_is, none_is, value_is}
use Rattle.excerpt_rows.proofs.alignment.aligned.Goals as goal

pub returns-then-printed-gt-LIMIT-clause-value : goal.returns-then-printed-gt-LIMIT-clause-value
returns-then-printed-gt-LIMIT-clause-value c =
    elim c.then-printed-gt-LIMIT.either [
      | inl long ↦ long_is c.args.printed.now c.args.source.now (inl long)
      | inr long ↦ long_is c.args.printed.now c.args.source.now (inr long.1)
    ]

pub returns-in_default-clause-value : goal.returns-in_default-clause-value
unfolding rules
returns-in_default-clause-value c =
    none_is c.args.printed.now c.args.source.now (omega (arith, c.if-printed-gt-LIMIT.false)) (omega (arith, c.if-source-gt-LIMIT.false)) (λ a b. rw c.in_default.is at c.in_ok-rule.ensures)

pub returns-clause-value : goal.returns-clause-value
unfolding rules
returns-clause-value c =
    value_is c.args.printed.now c.args.source.now (record { rule = c.in-Some.rule; shift = c.in-Some.shift; places = c.in_ok-places_of.field-0; end = c.byte_len.result })
    (record {
      printed_short = omega (arith, c.if-printed-gt-LIMIT.false);
      source_short = omega (arith, c.if-source-gt-LIMIT.false);
      rule = rw c.in-Some.is at c.in_ok-rule.ensures;
      places = c.in_ok-places_of.ensures;
      end = c.byte_len.ensures;
    })

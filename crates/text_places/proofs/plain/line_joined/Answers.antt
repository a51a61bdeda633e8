use Rattle.std.proofs.Common.{arith, ap, subst, length}
use Rattle.text_places.specs.Plain.{IsPlainLine}
use Rattle.text_places.proofs.plain.line_joined.Goals as goal

pub overflow_add-bytes : goal.overflow_add-bytes
overflow_add-bytes c = omega (arith, ap length c.as_str.ensures.value, c.requires.fits)

pub line_across-requires-clause-bytes : goal.line_across-requires-clause-bytes
line_across-requires-clause-bytes c = omega (arith, ap length c.as_str.ensures.value)

pub returns-then-next-line : goal.returns-then-next-line
returns-then-next-line c text utf8 tells next_tells =
    subst (λ n. IsPlainLine text n c.line_across.result) c.if-next-line.true (c.line_across.ensures text utf8 tells next_tells)

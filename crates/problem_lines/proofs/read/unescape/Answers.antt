use Rattle.std.proofs.Common.{◌++◌, ap, sym, ◌∙◌, append_assoc, string_bytes, arith, rules}
use Rattle.problem_lines.proofs.UnescapeLemmas.{cut_parts, cut_whole}
use Rattle.problem_lines.proofs.read.unescape.Goals as goal

pub loop-parts-smaller : goal.loop-parts-smaller
loop-parts-smaller c = omega (arith, c.in_ok-rest.ensures.shorter, (cut_parts c.loop-parts.rest.now c.in-Some.parts.0.now c.in-Some.parts.1.now c.in-Some.ensures).1)

pub loop-parts-preserved : goal.loop-parts-preserved
loop-parts-preserved c = (
  search rules,
  c.in_ok-rest.ensures.text
      ∙ rw (c.in_ok-push_str.ensures.bytes)
      (append_assoc (string_bytes c.loop-parts.out) c.in-Some.parts.0.now _
      ∙ ap (λ l. string_bytes c.loop-parts.out ++ l) (sym (cut_parts c.loop-parts.rest.now c.in-Some.parts.0.now c.in-Some.parts.1.now c.in-Some.ensures).0) ∙ c.loop-parts.invariant.1),
)

pub returns : goal.returns
returns c =
    c.in_ok-push_str-2.ensures.bytes ∙ ap (λ l. string_bytes c.loop-parts.out ++ l) (sym (cut_whole c.loop-parts.rest.now c.in_default.ensures)) ∙ c.loop-parts.invariant.1

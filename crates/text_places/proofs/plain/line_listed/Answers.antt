use Rattle.std.proofs.Common.{arith, subst, ◌≡◌, ◌+◌, ◌-◌}
use Rattle.text_places.specs.Plain.{IsPlainLine}
use Rattle.text_places.proofs.plain.line_listed.Goals as goal

pub returns-then-row-ends : goal.returns-then-row-ends
returns-then-row-ends c text utf8 tells =
    let rows = c.args.page.now.before.rows in
    let whole : rows + (c.args.line - rows) ≡ c.args.line = omega arith in
    subst (λ n. IsPlainLine text n c.line_within.result) whole (c.line_within.ensures text utf8 tells)

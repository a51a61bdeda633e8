use Rattle.std.proofs.Common.{string_bytes}
use Rattle.textwrap.proofs.FilledLemmas.{parts_none, parts_step}
use Rattle.textwrap.proofs.filling.push_parts.Goals as goal

pub returns-in_default : goal.returns-in_default
returns-in_default c =
    parts_none (string_bytes c.args.out.now) c.args.options.now.width c.args.options.now.initial_indent.now c.args.options.now.subsequent_indent.now c.args.parts.now c.in_default.ensures.cases

pub returns : goal.returns
returns c =
    let told =
    parts_step (string_bytes c.args.out.now) (string_bytes c.push_part.new.out) c.args.options.now.width c.args.options.now.initial_indent.now c.args.options.now.subsequent_indent.now c.args.parts.now c.in-Some.later.now c.in-Some.first.now
    c.in-Some.ensures.cases.0 c.in_ok-push_part.ensures in
    rw told at c.push_later_parts.ensures

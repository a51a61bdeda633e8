use Rattle.std.proofs.Common.{◌∙◌, string_bytes}
use Rattle.textwrap.proofs.FilledLemmas.{later_more}
use Rattle.textwrap.proofs.filling.push_later_parts.Goals as goal

pub loop-part-preserved : goal.loop-part-preserved
loop-part-preserved c =
    rw (c.in_ok-push_part.ensures, c.in_ok-push.ensures.bytes)
    (later_more (string_bytes c.loop-part.out) c.args.options.now.width c.args.options.now.subsequent_indent.now c.args.parts.now c.loop-part.part-index _ c.loop-part-test.true ∙ c.loop-part.invariant)

-- The first group that has a long row, or none; and what a group spans together.
use Rattle.std.proofs.Common.{◌∙◌, length, sym}
use Rattle.report_texts.proofs.LongLemmas.{end_at, here_at, joint_long, joint_ordered, joint_within}
use Rattle.report_texts.proofs.long_rows.long_among.Goals as goal

pub long_round-requires-clause-ordered : goal.long_round-requires-clause-ordered
long_round-requires-clause-ordered c =
    joint_ordered (length c.args.source.now) c.args.spans.now _ c.joint_span.result c.requires.within
    (c.requires.among c.loop-group.group-index _ c.loop-group-test.true) c.joint_span.ensures.start c.joint_span.ensures.end

pub long_round-requires-clause-within : goal.long_round-requires-clause-within
long_round-requires-clause-within c =
    joint_within (length c.args.source.now) c.args.spans.now _ c.joint_span.result c.requires.within
    (c.requires.among c.loop-group.group-index _ c.loop-group-test.true) c.joint_span.ensures.end

pub returns-in-Some-clause-row : goal.returns-in-Some-clause-row
returns-in-Some-clause-row c =
    here_at c.args.most c.args.source.now c.args.spans.now c.args.groups.now c.loop-group.group-index _ c.in-Some.row c.loop-group-test.true
    (sym c.in-Some.is ∙ c.in_ok-row.ensures.row ∙ joint_long c.args.most c.args.source.now c.args.spans.now _ c.joint_span.result c.joint_span.ensures.start c.joint_span.ensures.end)
    c.loop-group.invariant.left

pub returns-clause-row : goal.returns-clause-row
returns-clause-row c =
    end_at c.args.most c.args.source.now c.args.spans.now c.args.groups.now c.loop-group.group-index c.loop-group-test.false c.loop-group.invariant.left

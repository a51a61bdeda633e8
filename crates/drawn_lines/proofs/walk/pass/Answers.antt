use Rattle.std.proofs.Common.{string_bytes, ◌∙◌, ap, drop}
use Rattle.drawn_lines.proofs.WalkLemmas.{dropped_next, pass_counts, pass_is}
use Rattle.drawn_lines.proofs.walk.pass.Goals as goal

pub returns-clause-walked : goal.returns-clause-walked
returns-clause-walked c = λ asked given rest.
    pass_is asked given c.args.walk.most (string_bytes c.args.walk.text) c.args.walk.first.now c.args.more.now c.args.walk.len c.in-Some.len c.args.piece.now
    c.args.walk.from.now c.args.walk.left.now c.args.walk.shown.now c.behind-left.result.now c.behind-shown.result.now rest c.requires.kept c.requires.follows c.in-Some.ensures.1
    c.behind-left.ensures c.behind-shown.ensures

pub returns-clause-counted : goal.returns-clause-counted
returns-clause-counted c = λ asked given rest.
    pass_counts asked given c.args.walk.count c.args.walk.first.now c.args.more.now c.args.walk.len c.in-Some.len c.args.piece.now c.args.walk.from.now c.args.walk.left.now
    c.behind-left.result.now rest c.requires.kept c.requires.follows c.in-Some.ensures.1 c.behind-left.ensures

pub returns-clause-follows : goal.returns-clause-follows
returns-clause-follows c =
    ap (λ n. drop n c.args.walk.first.now) c.in-Some.ensures.1 ∙ dropped_next c.args.walk.first.now c.args.more.now c.args.walk.len c.args.piece.now c.requires.follows

use Rattle.std.proofs.Common.{◌≡◌, ◌++◌, map, subst, Some, ◌∙◌, option_map}
use Rattle.fed_lines.specs.Held.{held_lines, held_name, held_shapes}
use Rattle.fed_lines.specs.Feed.{Leaves, cut_of, known_piece}
use Rattle.fed_lines.proofs.FeedLemmas.{fed_shorter, fed_step}
use Rattle.fed_lines.proofs.whole.give_known.Goals as goal

pub loop-cut-preserved : goal.loop-cut-preserved
loop-cut-preserved c = (
  c.in-Some.ensures.shapes ∙ c.loop-cut.invariant.0,
  λ whole extra fed.
      fed_step (held_shapes c.args.held.now) whole c.loop-cut.cuts.items c.push.new.self.items (held_name c.loop-cut.held) (held_name c.pass_known.new.held) (held_lines c.loop-cut.held) (held_lines c.pass_known.new.held) extra c.in-Some.cut
      (subst (λ shapes. Some c.in-Some.cut ≡ option_map cut_of (known_piece shapes (held_name c.loop-cut.held) (held_lines c.loop-cut.held))) c.loop-cut.invariant.0 c.in-Some.ensures.cut)
      c.in-Some.ensures.within
      (subst (λ shapes. Leaves (held_name c.loop-cut.held) (held_lines c.loop-cut.held) (known_piece shapes (held_name c.loop-cut.held) (held_lines c.loop-cut.held)) (held_name c.pass_known.new.held) (held_lines c.pass_known.new.held)) c.loop-cut.invariant.0 c.in-Some.ensures.left)
      c.in_ok-push.ensures.items (c.loop-cut.invariant.1 whole extra fed),
)

pub loop-cut-smaller : goal.loop-cut-smaller
loop-cut-smaller c =
    fed_shorter (held_name c.loop-cut.held) (held_name c.pass_known.new.held) (held_lines c.loop-cut.held) (held_lines c.pass_known.new.held) (known_piece (held_shapes c.loop-cut.held) (held_name c.loop-cut.held) (held_lines c.loop-cut.held)) c.in-Some.cut c.in-Some.ensures.cut
    c.in-Some.ensures.some c.in-Some.ensures.within c.in-Some.ensures.left

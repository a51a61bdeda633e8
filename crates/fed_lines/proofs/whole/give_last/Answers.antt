use Rattle.std.proofs.Common.{◌≡◌, None, map, subst, Some, refl, ◌∙◌, option_map}
use Rattle.fed_lines.specs.Held.{held_lines, held_name, held_shapes}
use Rattle.fed_lines.specs.Feed.{Leaves, cut_of, last_piece}
use Rattle.fed_lines.proofs.FeedLemmas.{all_cut, ending_step, fed_ends, fed_shorter}
use Rattle.fed_lines.proofs.whole.give_last.Goals as goal

pub loop-cut-init : goal.loop-cut-init
loop-cut-init c = (refl, λ whole fed. fed_ends (held_shapes c.args.held.now) whole c.args.cuts.now.items (held_name c.args.held.now) (held_lines c.args.held.now) fed)

pub loop-cut-preserved : goal.loop-cut-preserved
loop-cut-preserved c = (
  c.in-Some.ensures.shapes ∙ c.loop-cut.invariant.0,
  λ whole fed.
      ending_step (held_shapes c.args.held.now) whole c.loop-cut.cuts.items c.push.new.self.items (held_name c.loop-cut.held) (held_name c.pass_last.new.held) (held_lines c.loop-cut.held) (held_lines c.pass_last.new.held) c.in-Some.cut
      (subst (λ shapes. Some c.in-Some.cut ≡ option_map cut_of (last_piece shapes (held_name c.loop-cut.held) (held_lines c.loop-cut.held))) c.loop-cut.invariant.0 c.in-Some.ensures.cut)
      (subst (λ shapes. Leaves (held_name c.loop-cut.held) (held_lines c.loop-cut.held) (last_piece shapes (held_name c.loop-cut.held) (held_lines c.loop-cut.held)) (held_name c.pass_last.new.held) (held_lines c.pass_last.new.held)) c.loop-cut.invariant.0 c.in-Some.ensures.left)
      c.in_ok-push.ensures.items (c.loop-cut.invariant.1 whole fed),
)

pub loop-cut-smaller : goal.loop-cut-smaller
loop-cut-smaller c =
    fed_shorter (held_name c.loop-cut.held) (held_name c.pass_last.new.held) (held_lines c.loop-cut.held) (held_lines c.pass_last.new.held) (last_piece (held_shapes c.loop-cut.held) (held_name c.loop-cut.held) (held_lines c.loop-cut.held)) c.in-Some.cut c.in-Some.ensures.cut
    c.in-Some.ensures.some c.in-Some.ensures.within c.in-Some.ensures.left

pub returns : goal.returns
returns c =
    λ whole fed.
    all_cut (held_shapes c.args.held.now) whole c.loop-cut.cuts.items (held_name c.loop-cut.held) (held_lines c.loop-cut.held)
    (subst (λ shapes. None ≡ option_map cut_of (last_piece shapes (held_name c.loop-cut.held) (held_lines c.loop-cut.held))) c.loop-cut.invariant.0
    (subst (λ r. r ≡ option_map cut_of (last_piece (held_shapes c.loop-cut.held) (held_name c.loop-cut.held) (held_lines c.loop-cut.held))) c.in_default.is c.pass_last.ensures.cut))
    (c.loop-cut.invariant.1 whole fed)

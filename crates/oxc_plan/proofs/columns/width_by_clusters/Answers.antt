use Rattle.std.proofs.Common.{◌≡◌, ap, arith, refl, fold, subst, true}
use Rattle.std.specs.List.{flat_map}
use Rattle.unicode_segmentation.specs.Grapheme.{graphemes, is_grapheme_break}
use Rattle.unicode_segmentation.specs.Iter.{graphemes_left}
use Rattle.unicode_segmentation.proofs.SegmentsLemmas.{concat-segments}
use Rattle.oxc_plan.specs.Width.{led, led_text, moved, at_margin, text_width}
use Rattle.oxc_plan.proofs.columns.width_by_clusters.Goals as goal

pub loop-cluster-init : goal.loop-cluster-init
loop-cluster-init c =
    let whole : graphemes_left c.into_iter-cluster-iterator.result ≡ graphemes true c.args.text.now = rw c.into_iter-cluster-iterator.ensures.into_iter_gives c.graphemes-cluster-items.ensures.left in
    record {
      can_next = tt;
      is_finite = tt;
      ahead = rw whole refl;
      room = rw (whole, concat-segments (is_grapheme_break true) c.args.text.now c.utf8.text) (omega arith);
    }

pub returns-clause-exact : goal.returns-clause-exact
unfolding text_width
returns-clause-exact c =
    let at_end = subst (λ rest. fold (moved c.args.tabs) c.loop-cluster.pen (flat_map led rest) ≡ fold (moved c.args.tabs) at_margin (led_text c.args.text.now)) c.in-None.ensures.steps.0 c.loop-cluster.invariant.ahead in
    ap (λ pen. pen.column) at_end

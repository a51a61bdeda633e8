use Rattle.std.proofs.Common.{◌≡◌, ◌++◌, ap, sym, ◌∙◌, arith, refl, true, string_bytes}
use Rattle.std.proofs.lemmas.Grind.{common_steps}
use Rattle.std.specs.List.{flat_map}
use Rattle.unicode_segmentation.specs.Grapheme.{graphemes, is_grapheme_break}
use Rattle.unicode_segmentation.specs.Iter.{graphemes_left}
use Rattle.unicode_segmentation.proofs.SegmentsLemmas.{concat-segments}
use Rattle.oxc_plan.specs.Width.{led}
use Rattle.oxc_handlers.specs.Texts.{shown_from, shown_text}
use Rattle.oxc_handlers.proofs.TextsLemmas.{shown_cluster}
use Rattle.oxc_handlers.proofs.line.write_clusters.Goals as goal

pub loop-cluster-init : goal.loop-cluster-init
unfolding shown_text
loop-cluster-init c =
    let whole : graphemes_left c.into_iter-cluster-iterator.result ≡ graphemes true c.args.text.now = rw c.into_iter-cluster-iterator.ensures.into_iter_gives c.graphemes-cluster-items.ensures.left in
    record {
      can_next = tt;
      is_finite = tt;
      drawn = rw whole refl;
      room = rw (whole, concat-segments (is_grapheme_break true) c.args.text.now c.utf8.text) (omega arith);
    }

pub loop-cluster-preserved : goal.loop-cluster-preserved
loop-cluster-preserved c =
    record {
      can_next = tt;
      is_finite = tt;
      drawn = rw (c.in_ok-pen.ensures.text, c.in_ok-pen.ensures.exact)
          (shown_cluster (string_bytes c.loop-cluster.out) c.args.tabs c.loop-cluster.pen c.in-Some.cluster.now (graphemes_left c.next.new.self)
          ∙ ap (λ gs. string_bytes c.loop-cluster.out ++ shown_from c.args.tabs c.loop-cluster.pen (flat_map led gs)) (sym c.in-Some.ensures.steps)
          ∙ c.loop-cluster.invariant.drawn);
      room = grind (arith, common_steps);
    }

use Rattle.std.proofs.Common.{◌≡◌, ◌++◌, ◌∷◌, [], map, ap, ◌∙◌, arith, length}
use Rattle.std.proofs.lemmas.Bool.Decides.{nat_tests}
use Rattle.std.proofs.lemmas.List.{map-append, length-drop}
use Rattle.textwrap.specs.Pieces.{extent, piece_view, word_pieces}
use Rattle.textwrap.proofs.PiecesLemmas.{push_more, push_last, range_front, extent_push}
use Rattle.textwrap.proofs.pieces.push_word.Goals as goal

pub loop-rest-preserved : goal.loop-rest-preserved
loop-rest-preserved c =
    let front = c.front_cut-front in
    let items : map piece_view c.push-in-loop-rest.new.self.items
    ≡ map piece_view c.loop-rest.list.items ++ piece_view (record { text = c.range.result; width = front.result.width; gap = 0 }) ∷ [] =
    ap (map piece_view) c.in_ok-push-2.ensures.items ∙ map-append piece_view c.loop-rest.list.items _ in
    record {
      text = c.range_from-rest.utf8;
      ahead =
          rw items
          (push_more (map piece_view c.loop-rest.list.items) _ c.args.room c.args.gap c.loop-rest.rest.now c.range.result.now c.range_from-rest.result.now front.result.len front.result.width
          (grind (arith, nat_tests)) front.ensures.cut front.ensures.width (c.range.ensures.value ∙ range_front c.loop-rest.rest.now front.result.len) c.range_from-rest.ensures.value c.loop-rest.invariant.ahead);
      room =
          omega (
            arith,
            c.loop-rest.invariant.room,
            front.ensures.bound,
            front.ensures.boundary.0,
            ap extent items,
            extent_push (map piece_view c.loop-rest.list.items) (piece_view (record { text = c.range.result; width = front.result.width; gap = 0 })),
            ap length c.range_from-rest.ensures.value,
            length-drop front.result.len c.loop-rest.rest.now,
          );
    }

pub returns-then-front-rest-clause-pieces : goal.returns-then-front-rest-clause-pieces
unfolding word_pieces
returns-then-front-rest-clause-pieces c =
    let front = c.front_cut-front in
    ap (map piece_view) c.in_ok-push.ensures.items
    ∙ map-append piece_view c.loop-rest.list.items _
    ∙ push_last (map piece_view c.loop-rest.list.items) _ c.args.room c.args.gap c.loop-rest.rest.now front.result.len front.result.width (grind (arith, nat_tests)) front.ensures.cut front.ensures.width c.loop-rest.invariant.ahead

pub returns-then-front-rest-clause-extent : goal.returns-then-front-rest-clause-extent
returns-then-front-rest-clause-extent c =
    let front = c.front_cut-front in
    let items : map piece_view c.push.new.self.items
    ≡ map piece_view c.loop-rest.list.items ++ piece_view (record { text = c.loop-rest.rest; width = front.result.width; gap = c.args.gap }) ∷ [] =
    ap (map piece_view) c.in_ok-push.ensures.items ∙ map-append piece_view c.loop-rest.list.items _ in
    omega (
      arith,
      c.loop-rest.invariant.room,
      front.ensures.bound,
      front.ensures.boundary.0,
      ap extent items,
      extent_push (map piece_view c.loop-rest.list.items) (piece_view (record { text = c.loop-rest.rest; width = front.result.width; gap = c.args.gap })),
    )

use Rattle.std.proofs.Common.{◌≡◌, ◌+◌, ◌++◌, ◌∷◌, map, take, drop, ap, ◌∙◌, arith, refl}
use Rattle.std.proofs.lemmas.Bool.Decides.{nat_tests}
use Rattle.textwrap.specs.Words.{words}
use Rattle.textwrap.specs.Pieces.{piece_view, pieces, word_pieces}
use Rattle.textwrap.proofs.PiecesLemmas.{words_more, words_done, range_front, extent_none}
use Rattle.textwrap.proofs.pieces.pieces_of.Goals as goal

pub loop-rest-init : goal.loop-rest-init
loop-rest-init c =
    record {
      text = c.utf8.part;
      ahead = rw c.new-list.ensures.items refl;
      room = rw c.new-list.ensures.items (omega (arith, extent_none));
    }

pub loop-rest-preserved : goal.loop-rest-preserved
loop-rest-preserved c =
    let rest = c.loop-rest.rest.now in
    let word = c.first_word-word.result in
    let front : c.range.result.now ≡ take word.len rest = c.range.ensures.value ∙ range_front rest word.len in
    let first : words rest ≡ record { text = take word.len rest; gap = word.gap } ∷ words (drop (word.len + word.gap) rest) =
    rw c.as_bytes.ensures.value at c.first_word-word.ensures.first in
    let pushed : map piece_view c.push_word.new.list.items ≡ map piece_view c.loop-rest.list.items ++ word_pieces c.args.room (record { text = take word.len rest; gap = word.gap }) =
    c.in_ok-push_word.ensures.pieces ∙ ap (λ t. map piece_view c.loop-rest.list.items ++ word_pieces c.args.room (record { text = t; gap = word.gap })) front in
    record {
      text = c.range_from-rest.utf8;
      ahead =
          rw pushed
          (words_more (map piece_view c.loop-rest.list.items) _ c.args.room rest c.range_from-rest.result.now (record { text = take word.len rest; gap = word.gap }) (word.len + word.gap) first c.range_from-rest.ensures.value c.loop-rest.invariant.ahead);
      room = omega (arith, c.loop-rest.invariant.room, c.in_ok-push_word.ensures.extent, c.range.ensures.len, c.range_from-rest.ensures.len);
    }

pub returns-clause-pieces : goal.returns-clause-pieces
unfolding pieces
returns-clause-pieces c = words_done _ _ c.args.room c.loop-rest.rest.now (grind (arith, nat_tests)) c.loop-rest.invariant.ahead

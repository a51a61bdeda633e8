use Rattle.std.proofs.Common.{ℕ, ◌+◌, [], List, get_or, count_by, sym, ap, ◌∙◌, arith}
use Rattle.std.proofs.lemmas.List.Sums.{sum_by_more}
use Rattle.bytecount.specs.Counts.{begins_char}
use Rattle.bytecount.specs.Words.{flags}
use Rattle.bytecount.proofs.SumLemmas.{Adds, adds, none_yet, sum_none}
use Rattle.bytecount.proofs.integer_simd.num_chars_in_block.Goals as goal

pub loop-word-init : goal.loop-word-init
loop-word-init c = record { small = none_yet; total = sum_none }

-- the flags of one word more
step : (c : goal.After-is_leading_utf8_byte-counts) → Adds begins_char c.loop-word.counts c.is_leading_utf8_byte-counts.result c.loop-word.word-index (get_or c.args.block.now c.loop-word.word-index [])
step c =
    adds begins_char c.loop-word.counts c.is_leading_utf8_byte-counts.result c.loop-word.word-index _
    c.loop-word.auto.counts-fits.fits c.is_leading_utf8_byte-counts.type_inv (omega arith) c.loop-word.invariant.small
    (c.is_leading_utf8_byte-counts.ensures ∙ ap (flags begins_char) c.word_of.ensures)

pub overflow_add-counts : goal.overflow_add-counts
overflow_add-counts c = record { fits = (step c).fits }

pub loop-word-preserved : goal.loop-word-preserved
loop-word-preserved c =
    let hits : List ℕ → ℕ = λ word. count_by begins_char word in
    record {
      small = (step c).small;
      total =
          (step c).total ∙ ap (λ n. n + hits (get_or c.args.block.now c.loop-word.word-index [])) c.loop-word.invariant.total
          ∙ sym (sum_by_more hits c.args.block.now c.loop-word.word-index [] c.loop-word-test.true);
    }

use Rattle.std.proofs.Common.{ℕ, ◌+◌, ◌==◌, [], List, get_or, count_by, sym, ap, ◌∙◌, arith}
use Rattle.std.proofs.lemmas.List.Sums.{sum_by_more}
use Rattle.bytecount.specs.Words.{flags}
use Rattle.bytecount.proofs.FlagLemmas.{against_splat}
use Rattle.bytecount.proofs.SumLemmas.{Adds, adds, none_yet, sum_none}
use Rattle.bytecount.proofs.integer_simd.count_in_block.Goals as goal

pub loop-word-init : goal.loop-word-init
loop-word-init c = record { small = none_yet; total = sum_none }

-- the flags of one word more
step : (c : goal.After-bytewise_equal-counts) → Adds (λ byte. byte == c.args.needle) c.loop-word.counts c.bytewise_equal-counts.result c.loop-word.word-index (get_or c.args.block.now c.loop-word.word-index [])
step c =
    adds (λ byte. byte == c.args.needle) c.loop-word.counts c.bytewise_equal-counts.result c.loop-word.word-index _
    c.loop-word.auto.counts-fits.fits c.bytewise_equal-counts.type_inv (omega arith) c.loop-word.invariant.small
    (c.bytewise_equal-counts.ensures ∙ against_splat c.word_of.result c.splat-needles.result c.args.needle c.splat-needles.ensures
    ∙ ap (flags (λ byte. byte == c.args.needle)) c.word_of.ensures)

pub overflow_add-counts : goal.overflow_add-counts
overflow_add-counts c = record { fits = (step c).fits }

pub loop-word-preserved : goal.loop-word-preserved
loop-word-preserved c =
    let hits : List ℕ → ℕ = λ word. count_by (λ byte. byte == c.args.needle) word in
    record {
      small = (step c).small;
      total =
          (step c).total ∙ ap (λ n. n + hits (get_or c.args.block.now c.loop-word.word-index [])) c.loop-word.invariant.total
          ∙ sym (sum_by_more hits c.args.block.now c.loop-word.word-index [] c.loop-word-test.true);
    }

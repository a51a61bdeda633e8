use Rattle.std.proofs.Common.{◌≡◌, ℕ, ◌+◌, ◌==◌, List, take, sum_by, count_by, ap, ◌∙◌, arith}
use Rattle.std.proofs.lemmas.List.Sums.{sum_by-take-le}
use Rattle.bytecount.proofs.integer_simd.count_in_words.Goals as goal

pub overflow_add-count : goal.overflow_add-count
overflow_add-count c =
    let hits : List ℕ → ℕ = λ word. count_by (λ byte. byte == c.args.needle) word in
    let kept : c.loop-rest.count + sum_by hits c.loop-rest.rest.now ≡ sum_by hits c.args.words.now = c.loop-rest.invariant in
    let block : c.count_in_block-count.result ≡ sum_by hits (take 255 c.loop-rest.rest.now) = c.count_in_block-count.ensures ∙ ap (sum_by hits) c.split_at.ensures.front in
    record { fits = omega (arith, kept, block, sum_by-take-le hits c.loop-rest.rest.now 255, c.requires) }

pub overflow_add-result : goal.overflow_add-result
overflow_add-result c =
    let hits : List ℕ → ℕ = λ word. count_by (λ byte. byte == c.args.needle) word in
    let kept : c.loop-rest.count + sum_by hits c.loop-rest.rest.now ≡ sum_by hits c.args.words.now = c.loop-rest.invariant in
    let block : c.count_in_block.result ≡ sum_by hits c.loop-rest.rest.now = c.count_in_block.ensures in
    record { fits = omega (arith, kept, block, c.requires) }

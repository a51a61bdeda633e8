use Rattle.std.proofs.Common.{ℕ, ◌==◌, ◌||◌, Bool, ◌∙◌, arith}
use Rattle.std.proofs.lemmas.List.Sums.{count_by-le-length}
use Rattle.oxc_windows.proofs.EndingsLemmas.{pairs_and_rest, whole_count, any_in_pairs}
use Rattle.oxc_windows.proofs.endings.endings.Goals as goal

pub endings_in_pairs-line_feeds-requires : goal.endings_in_pairs-line_feeds-requires
endings_in_pairs-line_feeds-requires c =
    let test : ℕ → Bool = λ byte. byte == 10 in
    omega (arith, pairs_and_rest test c.args.bytes.now _ _ c.as_chunks.ensures.front c.as_chunks.ensures.back, count_by-le-length test c.args.bytes.now)

pub overflow_add-result : goal.overflow_add-result
overflow_add-result c =
    let test : ℕ → Bool = λ byte. byte == 10 in
    let whole = whole_count test c.args.bytes.now _ _ c.as_chunks.ensures.front c.as_chunks.ensures.back _ _ c.endings_in_pairs-line_feeds.ensures.feeds c.count.ensures in
    record { fits = omega (arith, whole, count_by-le-length test c.args.bytes.now) }

pub returns-clause-feeds : goal.returns-clause-feeds
returns-clause-feeds c =
    whole_count (λ byte. byte == 10) c.args.bytes.now _ _ c.as_chunks.ensures.front c.as_chunks.ensures.back _ _ c.endings_in_pairs-line_feeds.ensures.feeds c.count.ensures

pub returns-clause-returns : goal.returns-clause-returns
returns-clause-returns c =
    (λ i. c.endings_in_pairs-line_feeds.ensures.returns i || c.contains.ensures.value i)
    ∙ any_in_pairs (λ byte. byte == 13) c.args.bytes.now _ _ c.as_chunks.ensures.front c.as_chunks.ensures.back

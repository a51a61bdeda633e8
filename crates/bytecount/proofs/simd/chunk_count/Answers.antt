use Rattle.std.proofs.Common.{◌≡◌, ℕ, ◌+◌, ◌==◌, Bool, count_by, ◌∙◌, arith}
use Rattle.std.proofs.lemmas.List.Sums.{count_by-le-length}
use Rattle.bytecount.proofs.LaneLemmas.{vectors_and_rest}
use Rattle.bytecount.proofs.simd.chunk_count.Goals as goal

pub count_in_vectors-requires : goal.count_in_vectors-requires
count_in_vectors-requires c =
    let test : ℕ → Bool = λ byte. byte == c.args.needle in
    omega (arith, vectors_and_rest test c.args.haystack.now _ _ c.as_chunks.ensures.front c.as_chunks.ensures.back, count_by-le-length test c.args.haystack.now)

whole : (c : goal.After-count_in_rest) → c.count_in_vectors.result + c.count_in_rest.result ≡ count_by (λ byte. byte == c.args.needle) c.args.haystack.now
whole c =
    (λ i. c.count_in_vectors.ensures i + c.count_in_rest.ensures i)
    ∙ vectors_and_rest (λ byte. byte == c.args.needle) c.args.haystack.now _ _ c.as_chunks.ensures.front c.as_chunks.ensures.back

pub overflow_add-result : goal.overflow_add-result
overflow_add-result c = record { fits = omega (arith, whole c, count_by-le-length (λ byte. byte == c.args.needle) c.args.haystack.now) }

pub returns : goal.returns
returns c = whole c

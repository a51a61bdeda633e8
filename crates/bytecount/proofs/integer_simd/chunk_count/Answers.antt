use Rattle.std.proofs.Common.{◌≡◌, ◌+◌, ◌-◌, ◌==◌, length, drop, count_by, ap, ◌∙◌, arith}
use Rattle.std.proofs.lemmas.List.Sums.{count_by-le-length}
use Rattle.bytecount.specs.Words.{flags}
use Rattle.bytecount.proofs.FlagLemmas.{against_splat}
use Rattle.bytecount.proofs.SumLemmas.{count_in_chunks-le, whole_count}
use Rattle.bytecount.proofs.integer_simd.chunk_count.Goals as goal

pub count_in_words-count-requires : goal.count_in_words-count-requires
count_in_words-count-requires c = omega (arith, count_in_chunks-le (λ byte. byte == c.args.needle) c.args.haystack.now c.as_chunks.result.0.now c.as_chunks.ensures.front)

last_eight : (c : goal.After-sum_of_last) → c.unwrap-last.result.now ≡ drop (length c.args.haystack.now - 8) c.args.haystack.now
last_eight c = grind (arith, c.last_chunk.ensures.cases, c.unwrap-last.ensures)

whole : (c : goal.After-sum_of_last) → c.count_in_words-count.result + c.sum_of_last.result ≡ count_by (λ byte. byte == c.args.needle) c.args.haystack.now
whole c =
    whole_count (λ byte. byte == c.args.needle) c.args.haystack.now c.as_chunks.result.0.now c.unwrap-last.result.now _ c.bytewise_equal.result _ _
    c.requires c.as_chunks.ensures.front c.count_in_words-count.ensures (last_eight c)
    (c.bytewise_equal.ensures ∙ against_splat c.word_of.result c.splat.result c.args.needle c.splat.ensures ∙ ap (flags (λ byte. byte == c.args.needle)) c.word_of.ensures)
    c.as_chunks.ensures.back_len c.sum_of_last.ensures.sum

pub overflow_add-result : goal.overflow_add-result
overflow_add-result c = record { fits = omega (arith, whole c, count_by-le-length (λ byte. byte == c.args.needle) c.args.haystack.now) }

pub returns : goal.returns
returns c = whole c

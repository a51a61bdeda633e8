use Rattle.std.proofs.Common.{◌≡◌, ◌+◌, ◌∙◌, arith}
use Rattle.std.proofs.lemmas.List.Sums.{count_by-le-length}
use Rattle.bytecount.specs.Counts.{begins_char, char_count}
use Rattle.bytecount.proofs.CharsLemmas.{char_count-chars, char_count-le-length}
use Rattle.bytecount.proofs.LaneLemmas.{vectors_and_rest}
use Rattle.bytecount.proofs.simd.chunk_num_chars.Goals as goal

pub num_chars_in_vectors-requires : goal.num_chars_in_vectors-requires
num_chars_in_vectors-requires c =
    omega (arith, vectors_and_rest begins_char c.args.utf8_chars.now _ _ c.as_chunks.ensures.front c.as_chunks.ensures.back, count_by-le-length begins_char c.args.utf8_chars.now)

counted : (c : goal.After-num_chars_in_rest) → c.num_chars_in_vectors.result + c.num_chars_in_rest.result ≡ char_count c.args.utf8_chars.now
unfolding char_count
counted c =
    (λ i. c.num_chars_in_vectors.ensures i + c.num_chars_in_rest.ensures i)
    ∙ vectors_and_rest begins_char c.args.utf8_chars.now _ _ c.as_chunks.ensures.front c.as_chunks.ensures.back

pub overflow_add-result : goal.overflow_add-result
overflow_add-result c = record { fits = omega (arith, counted c, char_count-le-length c.args.utf8_chars.now) }

pub returns : goal.returns
returns c = record {
  count = counted c;
  bound = omega (arith, counted c, char_count-le-length c.args.utf8_chars.now);
  chars = λ utf8. counted c ∙ char_count-chars c.args.utf8_chars.now utf8;
}

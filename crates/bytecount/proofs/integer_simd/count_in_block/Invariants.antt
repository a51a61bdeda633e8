use Rattle.std.proofs.Common.{◌≡◌, ℕ, ◌≤◌, ◌==◌, get_or, take, sum, sum_by, count_by}
use Rattle.bytecount.specs.Words.{bytes_of}
use Rattle.bytecount.proofs.integer_simd.count_in_block.Given as goal

abbrev pub invariant-loop-word : goal.invariant-loop-word
invariant-loop-word l = record {
  small : (k : ℕ) → get_or (bytes_of l.counts) k 0 ≤ l.word-index;
  total : sum (bytes_of l.counts) ≡ sum_by (λ word. count_by (λ byte. byte == l.needle) word) (take l.word-index l.block);
}

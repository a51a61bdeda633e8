use Rattle.std.proofs.Common.{◌≡◌, ◌==◌, count_by, take}
use Rattle.bytecount.proofs.naive.naive_count_32.Given as goal

abbrev pub invariant-loop-byte : goal.invariant-loop-byte
invariant-loop-byte l = l.count ≡ count_by (λ byte. byte == l.needle) (take l.byte-index l.haystack)

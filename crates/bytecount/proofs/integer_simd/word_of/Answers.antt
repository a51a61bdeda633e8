use Rattle.std.proofs.Common.{rules}
use Rattle.std.proofs.lemmas.Nat.{le_bytes_8}
use Rattle.bytecount.specs.Words.{bytes_of}
use Rattle.bytecount.proofs.integer_simd.word_of.Goals as goal

pub returns : goal.returns
unfolding bytes_of
returns c = le_bytes_8 c.args.bytes.now _ (search rules) (search rules) c.from_le_bytes.ensures

use Rattle.std.proofs.Common.{◌≡◌, ◌∙◌, rules, arith}
use Rattle.bytecount.specs.Counts.{char_count}
use Rattle.bytecount.proofs.CharsLemmas.{char_count-chars, char_count-le-length}
use Rattle.bytecount.proofs.naive.naive_num_chars.Goals as goal

counted : (c : goal.After-count) → c.count.result ≡ char_count c.args.utf8_chars.now
unfolding char_count
counted c = search rules

pub returns : goal.returns
returns c = record {
  count = counted c;
  bound = omega (arith, counted c, char_count-le-length c.args.utf8_chars.now);
  chars = λ utf8. counted c ∙ char_count-chars c.args.utf8_chars.now utf8;
}

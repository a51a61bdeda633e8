use Rattle.std.proofs.Common.{subst, take}
use Rattle.memchr.specs.Find.{is_byte2, IsLastByte}
use Rattle.oxc_protocol.proofs.PlaceLemmas.{column_found, column_none, counts_at}
use Rattle.oxc_protocol.proofs.place.column_of.Goals as goal

pub returns-in-Some-clause-exact : goal.returns-in-Some-clause-exact
returns-in-Some-clause-exact c =
    let s = c.settled-settled.result in
    let bytes = c.args.bytes.now in
    let last = subst (λ r. IsLastByte (is_byte2 10 13) (take s bytes) r) c.in-Some.is c.memrchr2.ensures in
    column_found bytes c.args.offset s c.in-Some.at c.requires c.settled-settled.ensures.bound (counts_at bytes c.args.offset s c.settled-settled.ensures.pair c.settled-settled.ensures.other) last

pub returns-in-None-clause-exact : goal.returns-in-None-clause-exact
returns-in-None-clause-exact c =
    let s = c.settled-settled.result in
    let bytes = c.args.bytes.now in
    let none = subst (λ r. IsLastByte (is_byte2 10 13) (take s bytes) r) c.in-None.is c.memrchr2.ensures in
    column_none bytes c.args.offset s c.requires c.settled-settled.ensures.bound (counts_at bytes c.args.offset s c.settled-settled.ensures.pair c.settled-settled.ensures.other) none

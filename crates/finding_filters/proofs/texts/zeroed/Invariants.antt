use Rattle.std.proofs.Common.{◌≡◌, ◌++◌, [], drop}
use Rattle.finding_filters.specs.Texts.{zeroed_from}
use Rattle.finding_filters.proofs.texts.zeroed.Given as goal

-- the bytes that are left come next
abbrev pub invariant-loop-byte : goal.invariant-loop-byte
invariant-loop-byte l = l.text.items ++ zeroed_from l.word.items (drop l.byte-index l.message) ≡ zeroed_from [] l.message

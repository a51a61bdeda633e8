use Rattle.std.proofs.Common.{◌≡◌, ◌++◌, not, filter, drop}
use Rattle.finding_filters.specs.Texts.{is_space as is_space_byte}
use Rattle.finding_filters.proofs.texts.push_dense.Given as goal

-- the bytes that are left come next
abbrev pub invariant-loop-byte : goal.invariant-loop-byte
invariant-loop-byte l =
    l.out.items ++ filter (λ byte. not (is_space_byte byte)) (drop l.byte-index l.text) ≡ l.initial.out.items ++ filter (λ byte. not (is_space_byte byte)) l.text

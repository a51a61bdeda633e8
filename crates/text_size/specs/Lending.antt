-- What is written through a part of the bytes that was lent.
use Rattle.std.specs.Prelude.{ℕ, List, ◌++◌, take, drop}
use Rattle.std.specs.Borrow.{Lends, MutBor, Fml, Array, u8}

-- the bytes with those from start to end replaced
abbrev pub with_replaced : List ℕ → ℕ → ℕ → List ℕ → List ℕ
with_replaced bytes start end written = take start bytes ++ (written ++ drop end bytes)

-- the bytes end with those from start to end replaced by the last ones behind the part, and no other byte changed
abbrev pub LendsPart : MutBor (List ℕ) → ℕ → ℕ → MutBor (List ℕ) → Fml
LendsPart bytes start end part = Lends (Array u8 0) (Array u8 0) bytes part (with_replaced bytes.now start end)

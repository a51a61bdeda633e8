-- A text read by parts.
use Rattle.std.proofs.Common.{ℕ, ◌+◌, ◌-◌, ◌≤◌, List, take, drop, sym, subst, arith, take-add}
use Rattle.std.proofs.lemmas.Str.{IsUtf8-append, IsUtf8-from_ascii, IsUtf8-between, IsCharBoundary-from_take}
use Rattle.std.specs.Str.{IsAscii, IsCharBoundary, IsUtf8}

more_utf8 : (n m : ℕ) (bytes : List ℕ) → IsUtf8 (take n bytes) → IsUtf8 (take m (drop n bytes)) → IsUtf8 (take (n + m) bytes)
more_utf8 n m bytes front next = subst IsUtf8 (sym (take-add n m bytes)) (IsUtf8-append _ _ front next)

-- ASCII is read behind what was read
pub over_ascii : (n m : ℕ) (bytes : List ℕ) → IsUtf8 (take n bytes) → IsAscii (take m (drop n bytes)) → IsUtf8 (take (n + m) bytes)
over_ascii n m bytes front next = more_utf8 n m bytes front (IsUtf8-from_ascii _ next)

-- a part is read behind what was read
pub over_part : (start end : ℕ) (bytes : List ℕ) → start ≤ end → IsUtf8 (take start bytes) → IsUtf8 (take (end - start) (drop start bytes)) → IsUtf8 (take end bytes)
over_part start end bytes le front part = subst (λ n. IsUtf8 (take n bytes)) (omega arith) (more_utf8 start (end - start) bytes front part)

-- each part of a text is UTF-8
pub part_of : (start end : ℕ) (bytes : List ℕ) → start ≤ end → IsUtf8 (take start bytes) → IsCharBoundary bytes end → IsUtf8 bytes → IsUtf8 (take (end - start) (drop start bytes))
part_of start end bytes le front boundary all =
    let within = boundary.0 in
    IsUtf8-between bytes start end all le (IsCharBoundary-from_take bytes start all (omega arith) front) boundary

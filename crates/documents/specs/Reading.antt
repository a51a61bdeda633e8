-- What a reading of a source says.
use Rattle.std.specs.Prelude.{◌≡◌, ℕ, ◌+◌, ◌≤◌, List, length, ⊤, Option}
use Rattle.std.specs.Io.KnownBytes.{Consumes, IsAtEnd}
use Rattle.oxc_protocol.specs.Faults.{Rose}
use Rattle.documents.specs.declared.source.Reading.{Reading}
use Rattle.documents.specs.declared.source.Reading.TheVariants.{Whole, TooLong, Fault, OutOfMemory}

-- what was taken, of the bytes that were left before, where they are told: all of them, or one more than the limit and no further
abbrev pub Says : Reading → Option (List ℕ) → Option (List ℕ) → ℕ → Type 0
Says (Whole bytes) before now limit = (length bytes.items ≤ limit) × Consumes before now bytes.items × IsAtEnd now
Says TooLong before now limit = (bytes : List ℕ) × (length bytes ≡ limit + 1) × Consumes before now bytes
Says Fault before now limit = ⊤
Says OutOfMemory before now limit = ⊤

-- a reading fails only where the source's faults rose
abbrev pub HasReadingCause : ℕ → ℕ → Reading → Type 0
HasReadingCause before now (Whole bytes) = ⊤
HasReadingCause before now TooLong = ⊤
HasReadingCause before now Fault = Rose before now
HasReadingCause before now OutOfMemory = ⊤

-- What a `MemorySink` is, and what one call does to it.
use Rattle.std.specs.Prelude.{◌⊎◌, ℕ, ◌-◌, ◌<◌, ◌≤◌, ◌++◌, min, take, List, length, Contains}
use Rattle.oxc_protocol.specs.Faults.{next_count}

-- the bytes taken, the room for all of them, the most of one call, the calls that fail, and the counts
pub record SinkState : Type 0 where
  pub received : List ℕ
  pub room : ℕ
  pub most : ℕ
  pub failing : List ℕ
  pub calls : ℕ
  pub faults : ℕ

-- the call of this number fails, or finds no room for its piece
abbrev pub Refuses : SinkState → List ℕ → Type 0
Refuses sink bytes = Contains sink.failing sink.calls ⊎ ((0 < length bytes) × (sink.room ≤ length sink.received))

-- how many bytes a call takes that isn't refused
abbrev pub taken : SinkState → List ℕ → ℕ
taken sink bytes = min (min (length bytes) sink.most) (sink.room - length sink.received)

-- the sink after a call that failed
abbrev pub after_fault : SinkState → SinkState
after_fault sink = record sink { calls = next_count sink.calls; faults = next_count sink.faults }

-- the sink after a call that took what it could of these bytes
abbrev pub after_write : SinkState → List ℕ → SinkState
after_write sink bytes =
    record sink {
      received = sink.received ++ take (taken sink bytes) bytes;
      calls = next_count sink.calls;
    }

-- What is held of a name.
use Rattle.std.specs.Prelude.{ℕ, List, [], Result, Ok, Err}
use Rattle.std.specs.Borrow.{Bor}
use Rattle.found_reports.specs.declared.sources.Lack.{Lack}

-- a text, or why there is none
pub data Held : Type 0 where
  holds : List ℕ → Held
  lacks : Lack → Held

-- what a text that is lent, or the reason why it lacks, says
abbrev pub held_of : Result (Bor (List ℕ)) Lack → Held
held_of (Ok text) = holds text.now
held_of (Err why) = lacks why

-- the text that is held, the empty one where it lacks
abbrev pub held_text : Held → List ℕ
held_text (holds text) = text
held_text (lacks why) = []

-- What a call says of the bytes that it was given.
use Rattle.std.specs.Prelude.{◌≡◌, ℕ, ◌+◌, false, List, [], ◌∷◌, take}
use Rattle.lsp_server.specs.declared.head.Why.{Why}
use Rattle.lsp_server.specs.declared.frames.State.TheVariants.{Dead}
use Rattle.lsp_server.specs.declared.frames.Frames.{Frames}
use Rattle.lsp_server.specs.declared.frames.End.{End}
use Rattle.lsp_server.specs.declared.frames.End.TheVariants.{More, Message, Refused, OutOfMemory}
use Rattle.lsp_server.specs.Run.{Machine, machine, after, bodies, is_dead}

-- what contracts see of a reader
abbrev pub shown : Frames → Machine
shown frames = machine frames.state frames.body.items

-- the first `used` bytes lead from `old` to `new`, and these are the bodies that they end
pub record Read (old : Machine) (bytes : List ℕ) (used : ℕ) (new : Machine) (said : List (List ℕ)) : Type 0 where
  pub leads : after old (take used bytes) ≡ new
  pub ends : bodies old (take used bytes) ≡ said
  pub alive : is_dead old.state ≡ false → is_dead new.state ≡ false

-- the byte behind the first `used` is the first that can be of no frame
pub record Refuses (old : Machine) (bytes : List ℕ) (used : ℕ) (new : Machine) (why : Why) : Type 0 where
  pub leads : after old (take (used + 1) bytes) ≡ new
  pub ends : bodies old (take (used + 1) bytes) ≡ []
  pub alive : is_dead old.state ≡ false → is_dead (after old (take used bytes)).state ≡ false
  pub dead : new.state ≡ Dead why

-- what a call of an end says, from one machine to another
abbrev pub Ends : End → Machine → List ℕ → ℕ → Machine → Type 0
Ends More old bytes used new = Read old bytes used new []
Ends (Message body) old bytes used new = Read old bytes used new (body.items ∷ [])
Ends (Refused why) old bytes used new = Refuses old bytes used new why
Ends OutOfMemory old bytes used new = Read old bytes used new []

-- no message and no fault: the bytes are used up
abbrev pub IsMore : End → Type 0
IsMore More = Unit {0}
IsMore (Message body) = ⊥
IsMore (Refused why) = ⊥
IsMore OutOfMemory = ⊥

-- a whole message
abbrev pub IsMessage : End → Type 0
IsMessage More = ⊥
IsMessage (Message body) = Unit {0}
IsMessage (Refused why) = ⊥
IsMessage OutOfMemory = ⊥

-- What a list of bytes means to one who reads frames: the bodies that it ends, and where it stops.
use Rattle.std.specs.Prelude.{ℕ, ◌-◌, ◌==◌, Bool, true, false, if◌then◌else◌, List, [], ◌∷◌, ◌++◌, None, codes, decimal, length}
use Rattle.lsp_server.specs.declared.head.Place.TheVariants.{Line}
use Rattle.lsp_server.specs.declared.head.Step.{Step}
use Rattle.lsp_server.specs.declared.head.Step.TheVariants.{On, Begins, Fault}
use Rattle.lsp_server.specs.declared.frames.State.{State}
use Rattle.lsp_server.specs.declared.frames.State.TheVariants.{InHead, InBody, Dead}
use Rattle.lsp_server.specs.Frame.{head_step}

-- where a reader is, and what it has of a body
pub record Machine : Type 0 where
  pub state : State
  pub body : List ℕ

abbrev pub machine : State → List ℕ → Machine
machine state body = record { state = state; body = body }

-- before a frame
abbrev pub start : Machine
start = machine (InHead (record { place = Line; length = None; count = 0 })) []

-- where the step of a head leads
abbrev pub entered : Step → List ℕ → Machine
entered (On h) body = machine (InHead h) body
entered (Begins n) body = if n == 0 then start else machine (InBody (n - 1)) []
entered (Fault why) body = machine (Dead why) body

-- the body that the last byte of a head ends: an empty one
abbrev pub empty_body : Step → List (List ℕ)
empty_body (On h) = []
empty_body (Begins n) = if n == 0 then [] ∷ [] else []
empty_body (Fault why) = []

-- where one byte leads
abbrev pub moved : State → List ℕ → ℕ → Machine
moved (InHead h) body b = entered (head_step h b) body
moved (InBody more) body b = if more == 0 then start else machine (InBody (more - 1)) (body ++ b ∷ [])
moved (Dead why) body b = machine (Dead why) body

-- the body that one byte ends, if it ends one
abbrev pub ended : State → List ℕ → ℕ → List (List ℕ)
ended (InHead h) body b = empty_body (head_step h b)
ended (InBody more) body b = if more == 0 then (body ++ b ∷ []) ∷ [] else []
ended (Dead why) body b = []

-- where a list of bytes leads
abbrev pub after : Machine → List ℕ → Machine
after m [] = m
after m (b ∷ bs) = after (moved m.state m.body b) bs

-- the bodies that a list of bytes ends
abbrev pub bodies : Machine → List ℕ → List (List ℕ)
bodies m [] = []
bodies m (b ∷ bs) = ended m.state m.body b ++ bodies (moved m.state m.body b) bs

-- a byte was refused
abbrev pub is_dead : State → Bool
is_dead (InHead h) = false
is_dead (InBody more) = false
is_dead (Dead why) = true

-- a frame as it is written
abbrev pub frame : List ℕ → List ℕ
frame body = codes "Content-Length: " ++ (decimal (length body) ++ (codes "\r\n\r\n" ++ body))

-- What is written is what is read.
use Rattle.std.specs.Prelude.{◌≡◌, ℕ, ◌≤◌, ◌+◌, true, false, List, [], ◌∷◌, ◌++◌, length}
use Rattle.std.specs.List.{AllByRecursion}
use Rattle.lsp_server.specs.declared.frames.State.{State}
use Rattle.lsp_server.specs.declared.frames.State.TheVariants.{InHead, InBody, Dead}
use Rattle.lsp_server.specs.Run.{Machine, start, after, bodies, frame, is_dead}

-- the bytes are one whole frame, and this is its body
pub record IsWhole (bytes body : List ℕ) : Type 0 where
  pub leads : after start bytes ≡ start
  pub ends : bodies start bytes ≡ body ∷ []

-- frames, one behind another
abbrev pub frames : List (List ℕ) → List ℕ
frames [] = []
frames (body ∷ rest) = frame body ++ frames rest

-- frames are read as their bodies, and lead back to the start
abbrev pub FramesAreRead : Type 0
FramesAreRead = (texts : List (List ℕ)) → AllByRecursion (λ text. length text ≤ 8388608) texts
    → (after start (frames texts) ≡ start) × (bodies start (frames texts) ≡ texts)

-- however the bytes are cut, they end the same bodies and lead to the same place
abbrev pub CutsAgree : Type 0
CutsAgree = (m : Machine) (xs ys : List ℕ)
    → (after m (xs ++ ys) ≡ after (after m xs) ys) × (bodies m (xs ++ ys) ≡ bodies m xs ++ bodies (after m xs) ys)

-- behind a refused byte no body ends, whatever follows
abbrev pub RefusedForGood : Type 0
RefusedForGood = (m : Machine) (more : List ℕ) → is_dead m.state ≡ true
    → (bodies m more ≡ []) × (is_dead (after m more).state ≡ true)

-- a head has forty bytes left
abbrev pub HasRoom : State → Type 0
HasRoom (InHead h) = h.count + 40 ≤ 4096
HasRoom (InBody more) = Unit {0}
HasRoom (Dead why) = Unit {0}

-- bytes of which none was refused are the beginning of whole frames
abbrev pub CanEnd : Type 0
CanEnd = (bytes : List ℕ) → is_dead (after start bytes).state ≡ false → HasRoom (after start bytes).state
    → (more : List ℕ) × (after start (bytes ++ more) ≡ start)

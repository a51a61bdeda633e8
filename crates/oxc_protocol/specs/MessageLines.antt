-- What the callers in the tests write of a list of diagnostics.
use Rattle.std.specs.Prelude.{ℕ, List, Option, Some, None, [], ◌∷◌, ◌++◌, codes, if◌then◌else◌}
use Rattle.std.specs.Str.{bytes_eq}
use Rattle.oxc_protocol.specs.Parts.{Parts}

-- the messages of a list of diagnostics, each with an LF behind it
abbrev pub message_lines : List Parts → List ℕ
message_lines [] = []
message_lines (p ∷ ps) = (p.message ++ (10 ∷ [])) ++ message_lines ps

-- the message, unless it is `skip`
abbrev pub unless_skip : Parts → Option (List ℕ)
unless_skip p = if bytes_eq p.message (codes "skip") then None else Some p.message

-- The marks of SARIF logs and of documents.
use Rattle.std.specs.Prelude.{ℕ, ◌+◌, ◌-◌, ◌==◌, ◌&&◌, ◌||◌, List, [], ◌∷◌, codes, nat_le, Bool, true, false, if◌then◌else◌}
use Rattle.std.specs.Str.{bytes_eq, is_utf8}
use Rattle.json.specs.Token.{Token}
use Rattle.json.specs.Lex.{tokens}

abbrev pub is_array : Token → Bool
is_array Token.begin_object = false
is_array Token.end_object = false
is_array Token.begin_array = true
is_array Token.end_array = false
is_array (Token.key s) = false
is_array (Token.string s) = false
is_array (Token.number s) = false
is_array (Token.boolean b) = false
is_array Token.null = false
is_array Token.bad = false

abbrev pub is_object : Token → Bool
is_object Token.begin_object = true
is_object Token.end_object = false
is_object Token.begin_array = false
is_object Token.end_array = false
is_object (Token.key s) = false
is_object (Token.string s) = false
is_object (Token.number s) = false
is_object (Token.boolean b) = false
is_object Token.null = false
is_object Token.bad = false

abbrev pub is_key : List ℕ → Token → Bool
is_key name Token.begin_object = false
is_key name Token.end_object = false
is_key name Token.begin_array = false
is_key name Token.end_array = false
is_key name (Token.key s) = bytes_eq s name
is_key name (Token.string s) = false
is_key name (Token.number s) = false
is_key name (Token.boolean b) = false
is_key name Token.null = false
is_key name Token.bad = false

-- an object ends where its brace closes, its text is wrong, or it is too deep
abbrev pub ends : ℕ → Token → Bool
ends depth Token.begin_object = nat_le 128 depth
ends depth Token.end_object = nat_le depth 1
ends depth Token.begin_array = nat_le 128 depth
ends depth Token.end_array = nat_le depth 1
ends depth (Token.key s) = false
ends depth (Token.string s) = false
ends depth (Token.number s) = false
ends depth (Token.boolean b) = false
ends depth Token.null = false
ends depth Token.bad = true

-- how many brackets are open
abbrev pub deep_after : ℕ → Token → ℕ
deep_after depth Token.begin_object = depth + 1
deep_after depth Token.end_object = depth - 1
deep_after depth Token.begin_array = depth + 1
deep_after depth Token.end_array = depth - 1
deep_after depth (Token.key s) = depth
deep_after depth (Token.string s) = depth
deep_after depth (Token.number s) = depth
deep_after depth (Token.boolean b) = depth
deep_after depth Token.null = depth
deep_after depth Token.bad = depth

-- of what follows in an object where so many brackets are open, and whether its key of this name comes just before:
-- whether the object has an array of this name
abbrev pub array_ahead : List ℕ → ℕ → Bool → List Token → Bool
array_ahead name depth named [] = false
array_ahead name depth named (token ∷ tokens) =
    if named && is_array token then true
    else if ends depth token then false
    else array_ahead name (deep_after depth token) (depth == 1 && is_key name token) tokens

abbrev pub top_array : List ℕ → List Token → Bool
top_array name [] = false
top_array name (token ∷ tokens) = if is_object token then array_ahead name 1 false tokens else false

-- a text begins with an object that has an array of this name
abbrev pub has_array : List ℕ → List ℕ → Bool
has_array name bytes = if is_utf8 bytes then top_array name (tokens bytes) else false

-- a log has `runs`, a document `files` and `reports`
unfoldable pub is_report_object : List ℕ → Bool
is_report_object bytes = has_array (codes "runs") bytes || (has_array (codes "reports") bytes && has_array (codes "files") bytes)

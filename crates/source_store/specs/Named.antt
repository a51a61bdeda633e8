-- The path that a name in a tool's output means.
use Rattle.std.specs.Prelude.{ℕ, nat_eq, List, ◌==◌, Option, Some, None, option_and_then, unwrap_or, drop, length, slice_index, codes, if◌then◌else◌}
use Rattle.std.specs.List.{starts_with}
use Rattle.std.specs.Str.{is_utf8}
use Rattle.percent_encoding.specs.Percent.{percent_decode}
use Rattle.source_store.specs.declared.named.Spelling.{Spelling}
use Rattle.source_store.specs.declared.named.Spelling.TheVariants.{Path, Uri}

-- what stands behind a front of a text, where the text begins with it
abbrev pub behind : List ℕ → List ℕ → Option (List ℕ)
behind front text = if starts_with nat_eq text front then Some (drop (length front) text) else None

-- a text that begins at the top
abbrev pub absolute : List ℕ → Option (List ℕ)
absolute text = if slice_index text 0 == 0x2F then Some text else None

-- a text without the name of this machine before it
abbrev pub without_host : List ℕ → List ℕ
without_host text = unwrap_or (behind (codes "localhost") text) text

abbrev pub behind_slashes : List ℕ → Option (List ℕ) → Option (List ℕ)
behind_slashes rest None = Some rest
behind_slashes rest (Some hosted) = absolute (without_host hosted)

-- the path of what stands behind `file:`: none where another machine is named
unfoldable pub file_path : List ℕ → Option (List ℕ)
file_path rest = behind_slashes rest (behind (codes "//") rest)

-- a text with its percent escapes read, if that is a text
unfoldable pub decoded : List ℕ → Option (List ℕ)
decoded text = if is_utf8 (percent_decode text) then Some (percent_decode text) else None

abbrev pub spelled : Spelling → List ℕ → Option (List ℕ)
spelled Path name = Some name
spelled Uri name = decoded name

abbrev pub path_behind : Spelling → List ℕ → Option (List ℕ) → Option (List ℕ)
path_behind spelling name None = spelled spelling name
path_behind spelling name (Some rest) = option_and_then decoded (file_path rest)

-- the path that a name means: what a `file:` URI says, and else the name, in which escapes are read where names are URIs
unfoldable pub path_in : Spelling → List ℕ → Option (List ℕ)
path_in spelling name = path_behind spelling name (behind (codes "file:") name)

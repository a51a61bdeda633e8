-- Whether a key of a text is `files`, at any depth.
use Rattle.std.specs.Prelude.{ℕ, List, Bool, false, codes, if◌then◌else◌}
use Rattle.std.specs.List.{list_any}
use Rattle.std.specs.Str.{bytes_eq, is_utf8}
use Rattle.json.specs.Token.{Token}
use Rattle.json.specs.Lex.{tokens}

abbrev pub is_files_key : Token → Bool
is_files_key Token.begin_object = false
is_files_key Token.end_object = false
is_files_key Token.begin_array = false
is_files_key Token.end_array = false
is_files_key (Token.key s) = bytes_eq s (codes "files")
is_files_key (Token.string s) = false
is_files_key (Token.number s) = false
is_files_key (Token.boolean b) = false
is_files_key Token.null = false
is_files_key Token.bad = false

-- one of the tokens of a text is such a key
unfoldable pub names_files : List ℕ → Bool
names_files text = if is_utf8 text then list_any is_files_key (tokens text) else false

-- Which files a name means.
use Rattle.std.specs.Prelude.{ℕ, ◌-◌, ◌==◌, ◌&&◌, ◌||◌, nat_eq, nat_le, nat_lt, Bool, false, List, length, drop, slice_index, Option, Some, None, if◌then◌else◌}
use Rattle.std.specs.List.{ends_with}
use Rattle.source_store.specs.Named.{path_in}
use Rattle.source_store.specs.declared.named.Spelling.{Spelling}

-- a name without the `./` before it
abbrev pub plain_name : List ℕ → List ℕ
plain_name name = if nat_le 2 (length name) && slice_index name 0 == 46 && slice_index name 1 == 47 then drop 2 name else name

-- the last bytes of a path, so many, are the whole or stand behind a slash, which is 47
abbrev pub stands_apart : List ℕ → ℕ → Bool
stands_apart path len = (length path == len) || (slice_index path (length path - len - 1) == 47)

-- the path is the name, or ends in it behind a slash
abbrev pub is_meant : List ℕ → List ℕ → Bool
is_meant path name =
    nat_lt 0 (length name) && (nat_le (length name) (length path) && (ends_with nat_eq path name && stands_apart path (length name)))

abbrev pub is_named : List ℕ → List ℕ → Bool
is_named path name = is_meant path (plain_name name)

abbrev pub is_named_if : List ℕ → Option (List ℕ) → Bool
is_named_if path None = false
is_named_if path (Some name) = is_named path name

-- a name in a log means the file of a path: what it says is the path, or what it ends in
unfoldable pub means_file : Spelling → List ℕ → List ℕ → Bool
means_file spelling path name = is_named_if path (path_in spelling name)

-- The form in which names of files are compared.
use Rattle.std.specs.Prelude.{ℕ, ◌-◌, ◌==◌, ◌||◌, not, nat_eq, Bool, true, false, List, [], ◌∷◌, ◌++◌, length, take, slice_index, unwrap_or, codes, if◌then◌else◌}
use Rattle.std.specs.List.{flat_map, slice_split, ends_with}
use Rattle.std.specs.Str.{bytes_eq}
use Rattle.escapes.specs.Cuts.{behind}

-- the texts between the slashes of a name
abbrev pub parts_of : List ℕ → List (List ℕ)
parts_of name = slice_split (λ b. b == 0x2F) name

-- a part that leads nowhere
abbrev pub stays : List ℕ → Bool
stays part = length part == 0 || bytes_eq part (codes ".")

-- a part that leads to the folder around
abbrev pub goes_up : List ℕ → Bool
goes_up part = bytes_eq part (codes "..")

abbrev pub is_absolute : List ℕ → Bool
is_absolute name = slice_index name 0 == 0x2F

-- all but the last part
abbrev pub left : List (List ℕ) → List (List ℕ)
left at = take (length at - 1) at

-- parts whose last one is a folder's name
abbrev pub ends_below : List (List ℕ) → Bool
ends_below [] = false
ends_below (part ∷ []) = not (goes_up part)
ends_below (part ∷ next ∷ rest) = ends_below (next ∷ rest)

-- `x/..` is nothing; the top is its own parent, and elsewhere a `..` that has no folder before it is kept
unfoldable pub risen : Bool → List (List ℕ) → List ℕ → List (List ℕ)
risen absolute at part = if ends_below at then left at else if absolute then at else at ++ part ∷ []

-- the parts of a name, and one more
unfoldable pub entered : Bool → List (List ℕ) → List ℕ → List (List ℕ)
entered absolute at part = if stays part then at else if goes_up part then risen absolute at part else at ++ part ∷ []

abbrev pub walked_by : Bool → List (List ℕ) → List (List ℕ) → List (List ℕ)
walked_by absolute at [] = at
walked_by absolute at (part ∷ rest) = walked_by absolute (entered absolute at part) rest

-- the parts of a name that lead somewhere
unfoldable pub walked : Bool → List ℕ → List (List ℕ)
walked absolute name = walked_by absolute [] (parts_of name)

abbrev pub top : Bool → List ℕ
top true = codes "/"
top false = []

-- parts, with a slash before each
abbrev pub parts_text : List (List ℕ) → List ℕ
parts_text parts = flat_map (λ part. 0x2F ∷ part) parts

abbrev pub path_text : Bool → List (List ℕ) → List ℕ
path_text absolute [] = top absolute
path_text absolute (first ∷ rest) = top absolute ++ first ++ parts_text rest

-- a name without `./`, `//` and `x/..`
unfoldable pub simple_name : List ℕ → List ℕ
simple_name name = path_text (is_absolute name) (walked (is_absolute name) name)

abbrev pub with_slash : List ℕ → List ℕ
with_slash text = if ends_with nat_eq text (codes "/") then text else text ++ codes "/"

-- what the names of files in a folder begin with
abbrev pub front_of : List ℕ → List ℕ
front_of folder = with_slash (simple_name folder)

-- a name as it is compared: without `./`, `//` and `x/..`, and from the folder on where it begins so
unfoldable pub plain_name : List ℕ → List ℕ → List ℕ
plain_name front name = unwrap_or (behind front (simple_name name)) (simple_name name)

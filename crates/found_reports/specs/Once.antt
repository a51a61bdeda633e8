-- Files that are kept once, and their numbers.
use Rattle.std.specs.Prelude.{◌≡◌, ℕ, ◌<◌, List, Option, Some, None, Result, Ok, Err, String, IfSome, false, length, slice_index_or, string_bytes}
use Rattle.std.specs.Borrow.{Bor}
use Rattle.std.specs.BTreeMap.{BTreeMap, get}
use Rattle.std.specs.Cmp.Lexicographic.{slice_cmp}
use Rattle.std.specs.List.{list_any}
use Rattle.std.specs.Ordering.{nat_cmp, ordering_then}
use Rattle.std.specs.Result.{result_cmp}
use Rattle.std.specs.String.{string_cmp}
use Rattle.std.specs.declared.alloc.Global.{Global}
use Rattle.std.specs.declared.cmp.Ordering.{Ordering}
use Rattle.found_reports.specs.Files.{same_file, why_number}
use Rattle.found_reports.specs.Found.{NamedHeld, file_at}
use Rattle.found_reports.specs.Held.{Held, holds, lacks}
use Rattle.found_reports.specs.declared.once.Once as code

-- ---- what tells files apart

-- the text, or the number of the reason why it lacks
abbrev pub HeldKey : Type 0
HeldKey = Result (Bor (List ℕ)) ℕ

abbrev pub FileKey : Type 0
FileKey = String Global × HeldKey

abbrev pub IsHeldKey : HeldKey → Held → Type 0
IsHeldKey (Ok text) held = held ≡ holds text.now
IsHeldKey (Err number) (holds text) = ⊥
IsHeldKey (Err number) (lacks why) = number ≡ why_number why

-- a key is that of a file
pub record IsKey (key : FileKey) (file : NamedHeld) : Type 0 where
  pub name : string_bytes key.0 ≡ file.name
  pub held : IsHeldKey key.1 file.held

abbrev pub rest_cmp : HeldKey → HeldKey → Ordering
rest_cmp key other = result_cmp (λ x y. slice_cmp nat_cmp x.now y.now) nat_cmp key other

-- the order of keys: by the name, then by the rest
abbrev pub key_cmp : FileKey → FileKey → Ordering
key_cmp key other = ordering_then (string_cmp key.0 other.0) (rest_cmp key.1 other.1)

-- ---- the files that are kept

-- a file stands under this number
pub record IsFileAt (files : List NamedHeld) (file : NamedHeld) (number : ℕ) : Type 0 where
  pub within : number < length files
  pub is : file_at files number ≡ file

-- the number of a file: none where it isn't there
abbrev pub IsNumber : List NamedHeld → NamedHeld → Option ℕ → Type 0
IsNumber files file None = list_any (same_file file) files ≡ false
IsNumber files file (Some number) = IsFileAt files file number

-- the map has of each file its number
abbrev pub AreNumbers : BTreeMap FileKey ℕ → List NamedHeld → Type 0
AreNumbers numbers files = (key : FileKey) (file : NamedHeld) → IsKey key file → IsNumber files file (get key_cmp numbers key)

-- each given file that has a seat stands under its number
abbrev pub AreSeats : List NamedHeld → List NamedHeld → List (Option ℕ) → Type 0
AreSeats given files seats = (k : ℕ) → IfSome (slice_index_or seats k None) (IsFileAt files (file_at given k))

pub record KeepsFiles (given : List NamedHeld) (it : code.Once) : Type 0 where
  pub numbers : AreNumbers it.numbers it.found.files
  pub seats : AreSeats given it.found.files it.seats.items
  pub count : length it.seats.items ≡ length given

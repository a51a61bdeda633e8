-- The names of findings between lines that say that a build enters or leaves a directory.
use Rattle.std.specs.Prelude.{◌≡◌, ℕ, ◌==◌, ◌&&◌, not, Bool, true, false, if◌then◌else◌, List, [], ◌∷◌, ◌++◌, length, take, drop, map, Option, Some, None, option_map, option_and_then, unwrap_or, String, string_bytes}
use Rattle.std.specs.List.{All, find}
use Rattle.std.specs.Str.Lossy.{utf8_lossy}
use Rattle.std.specs.declared.alloc.Global.{Global}
use Rattle.escapes.specs.Cuts.{behind}
use Rattle.found_reports.specs.Held.{Held, holds, lacks}
use Rattle.found_reports.specs.Listed.{held_in, listed}
use Rattle.found_reports.specs.declared.sources.Source.{Source}
use Rattle.source_store.specs.Place.{located}
use Rattle.build_dirs.specs.Changes.{change_of}
use Rattle.build_dirs.specs.Dirs.{DirsParts, in_order, is_absolute, joined, no_dirs, taken}
use Rattle.tool_lines.specs.Lines.{FindingParts, PieceParts}

-- of names with a source this is what it holds
abbrev pub Agrees : List Source → (List ℕ → Held) → Type 0
Agrees sources given = (name : List ℕ) → listed sources name ≡ true → given name ≡ held_in sources name

-- ---- where a name may be

abbrev pub has_text : Held → Bool
has_text (holds text) = true
has_text (lacks why) = false

-- what stands behind a folder in a path
abbrev pub below : List ℕ → List ℕ → List ℕ
below folder path = unwrap_or (option_and_then (behind (0x2F ∷ [])) (behind folder path)) path

-- a path as it is from an absolute root, without `.` and `..`
unfoldable pub from_root : List ℕ → List ℕ → List ℕ
from_root root path = if is_absolute root then below root (unwrap_or (located root path true) path) else path

-- the places of a name, in the order in which they are tried
abbrev pub places : List ℕ → DirsParts → List ℕ → List (List ℕ)
places root dirs name = map (λ dir. from_root root (joined dir name)) (in_order dirs)

-- the places that are tried: up to the first that has a text
unfoldable pub tried : (List ℕ → Held) → List (List ℕ) → List (List ℕ)
tried given [] = []
tried given (place ∷ rest) = if has_text (given place) then place ∷ [] else place ∷ tried given rest

-- the first that has one
unfoldable pub first_text : (List ℕ → Held) → List (List ℕ) → Option (List ℕ)
first_text given places = find (λ place. has_text (given place)) places

-- a name is sought once a directory was entered, unless it is absolute
abbrev pub is_sought : DirsParts → List ℕ → Bool
is_sought dirs name = not (length dirs.ever == 0) && not (is_absolute name)

unfoldable pub found_name : List ℕ → (List ℕ → Held) → DirsParts → List ℕ → Option (List ℕ)
found_name root given dirs name = if is_sought dirs name then first_text given (places root dirs name) else None

unfoldable pub tried_names : List ℕ → (List ℕ → Held) → DirsParts → List ℕ → List (List ℕ)
tried_names root given dirs name = if is_sought dirs name then tried given (places root dirs name) else []

-- ---- pieces

abbrev pub name_by : List ℕ → (List ℕ → Held) → DirsParts → Option FindingParts → Option (List ℕ)
name_by root given dirs None = None
name_by root given dirs (Some finding) = found_name root given dirs (utf8_lossy finding.place.name)

abbrev pub tried_by : List ℕ → (List ℕ → Held) → DirsParts → Option FindingParts → List (List ℕ)
tried_by root given dirs None = []
tried_by root given dirs (Some finding) = tried_names root given dirs (utf8_lossy finding.place.name)

abbrev pub turned_by : DirsParts → Option FindingParts → List (List ℕ) → DirsParts
turned_by dirs (Some finding) run = dirs
turned_by dirs None [] = dirs
turned_by dirs None (line ∷ run) = taken dirs (utf8_lossy line)

-- the directories behind a piece with these lines: its line may enter or leave one if it has no finding
abbrev pub turned : DirsParts → List (List ℕ) → PieceParts → DirsParts
turned dirs run piece = turned_by dirs piece.begun.finding run

-- those behind pieces with the lines that they begin with
unfoldable pub dirs_behind : DirsParts → List (List ℕ) → List PieceParts → DirsParts
dirs_behind dirs lines [] = dirs
dirs_behind dirs lines (piece ∷ pieces) = dirs_behind (turned dirs (take piece.lines lines) piece) (drop piece.lines lines) pieces

-- for each of these pieces, the name of its finding, where it is another than what was printed
unfoldable pub names_for : List ℕ → (List ℕ → Held) → DirsParts → List (List ℕ) → List PieceParts → List (Option (List ℕ))
names_for root given dirs lines [] = []
names_for root given dirs lines (piece ∷ pieces) =
    name_by root given dirs piece.begun.finding ∷ names_for root given (turned dirs (take piece.lines lines) piece) (drop piece.lines lines) pieces

-- the places that are tried for them
unfoldable pub tried_in : List ℕ → (List ℕ → Held) → DirsParts → List (List ℕ) → List PieceParts → List (List ℕ)
tried_in root given dirs lines [] = []
tried_in root given dirs lines (piece ∷ pieces) =
    tried_by root given dirs piece.begun.finding ++ tried_in root given (turned dirs (take piece.lines lines) piece) (drop piece.lines lines) pieces

abbrev pub called : List ℕ → FindingParts → FindingParts
called name finding = record finding { place = record finding.place { name = name } }

-- a piece with another name for its finding
abbrev pub renamed : Option (List ℕ) → PieceParts → PieceParts
renamed None piece = piece
renamed (Some name) piece = record piece { begun = record piece.begun { finding = option_map (called name) piece.begun.finding } }

abbrev pub renamed_by : List (Option (List ℕ)) → List PieceParts → List PieceParts
renamed_by [] pieces = []
renamed_by (name ∷ names) [] = []
renamed_by (name ∷ names) (piece ∷ pieces) = renamed name piece ∷ renamed_by names pieces

-- pieces with the names that their findings have from the root
unfoldable pub named_in : List ℕ → (List ℕ → Held) → DirsParts → List (List ℕ) → List PieceParts → List PieceParts
named_in root given dirs lines pieces = renamed_by (names_for root given dirs lines pieces) pieces

abbrev pub name_texts : List (Option (String Global)) → List (Option (List ℕ))
name_texts names = map (λ name. option_map string_bytes name) names

-- ---- without such lines

-- where no line enters or leaves a directory, each finding keeps its name, and nothing is tried
abbrev pub KeepsNames : Type 0
KeepsNames =
    (root : List ℕ) (given : List ℕ → Held) (lines : List (List ℕ)) (pieces : List PieceParts) → All (λ line. change_of (utf8_lossy line) ≡ None) lines
    → (named_in root given no_dirs lines pieces ≡ pieces) × (tried_in root given no_dirs lines pieces ≡ [])

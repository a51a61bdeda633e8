-- Drawings of rows of other files than the finding's.
use Rattle.std.specs.Prelude.{◌≡◌, ℕ, ◌||◌, if◌then◌else◌, Bool, false, List, [], ◌∷◌, ◌++◌, drop, map, slice_range, string_bytes, Option, Some, None, IfSome}
use Rattle.std.specs.List.{All, list_any}
use Rattle.std.specs.Option.{is_some}
use Rattle.std.specs.Str.{bytes_eq, encode_utf8_all}
use Rattle.excerpt_lines.specs.declared.places.Place.{Place as PlaceAt}
use Rattle.excerpt_texts.specs.Lines.{line_at}
use Rattle.excerpts.specs.declared.cuts.Part.{Part}
use Rattle.excerpts.specs.declared.cuts.PartKind.{PartKind}
use Rattle.excerpts.specs.declared.cuts.PartKind.TheVariants.{Empty, Place, Note, GoesOn, Frames, Source, Loose, Suggestion, Kept}
use Rattle.excerpts.specs.Body.{BlockRead}
use Rattle.found_reports.specs.Held.{Held, holds, lacks}
use Rattle.line_reports.specs.declared.asides.Aside.{Aside}
use Rattle.line_reports.specs.Drawings.{PlacedParts, PlacedStand, block_placed, placed_parts}
use Rattle.line_reports.specs.Pieces.{ExcerptParts}
use Rattle.line_reports.specs.Told.{ToldParts, body_lines, name_of}

-- the labels of a drawing, and the name of the file that it is of
pub record AsideParts : Type 0 where
  pub name : List ℕ
  pub labels : List PlacedParts

abbrev pub aside_parts : Aside → AsideParts
aside_parts aside = record { name = string_bytes aside.name; labels = map placed_parts aside.labels.items }

-- ---- the files that blocks are of

abbrev pub place_name : List ℕ → PlaceAt → List ℕ
place_name line place = encode_utf8_all (slice_range line place.name place.name_end)

abbrev pub name_by : List (List ℕ) → Part → PartKind → Option (List ℕ)
name_by lines part Empty = None
name_by lines part (Place p) = Some (place_name (line_at lines part.first) p)
name_by lines part (Note n) = None
name_by lines part (GoesOn below) = None
name_by lines part Frames = None
name_by lines part Source = None
name_by lines part Loose = None
name_by lines part Suggestion = None
name_by lines part Kept = None

-- the name in a location on a line of its own
abbrev pub part_name : List (List ℕ) → Part → Option (List ℕ)
part_name lines part = name_by lines part part.kind

abbrev pub unless_own : List ℕ → List ℕ → Option (List ℕ)
unless_own own name = if bytes_eq name own then None else Some name

-- the file that the lines after a part are of, if that is another than the finding's
abbrev pub there_after : List ℕ → Option (List ℕ) → Option (List ℕ) → Option (List ℕ)
there_after own there None = there
there_after own there (Some name) = unless_own own name

-- what a part adds to the files of blocks; suggestions are no drawings
abbrev pub block_name : Option (List ℕ) → PartKind → List (Option (List ℕ))
block_name there Empty = []
block_name there (Place p) = []
block_name there (Note n) = []
block_name there (GoesOn below) = []
block_name there Frames = []
block_name there Source = there ∷ []
block_name there Loose = there ∷ []
block_name there Suggestion = None ∷ []
block_name there Kept = []

abbrev pub elsewhere_from : List ℕ → List (List ℕ) → Option (List ℕ) → List Part → List (Option (List ℕ))
elsewhere_from own lines there [] = []
elsewhere_from own lines there (part ∷ parts) =
    block_name there part.kind ++ elsewhere_from own lines (there_after own there (part_name lines part)) parts

-- for each block the name of its file, if it is a drawing of another file than the finding's
unfoldable pub elsewhere : List ℕ → List (List ℕ) → List Part → List (Option (List ℕ))
elsewhere own lines parts = elsewhere_from own lines None parts

-- ---- the labels of blocks in these files

abbrev pub first_name : List (Option (List ℕ)) → Option (List ℕ)
first_name [] = None
first_name (name ∷ names) = name

abbrev pub placed_there : Held → List (List ℕ) → BlockRead → Option (List PlacedParts)
placed_there (holds text) lines block = block_placed text None lines block
placed_there (lacks why) lines block = None

abbrev pub aside_with : List ℕ → Option (List PlacedParts) → Option AsideParts
aside_with name None = None
aside_with name (Some []) = None
aside_with name (Some (label ∷ labels)) = Some (record { name = name; labels = label ∷ labels })

-- a block of this file, if each of its printed rows is a row of that, and it has labels
abbrev pub aside_at : (List ℕ → Held) → List (List ℕ) → Option (List ℕ) → BlockRead → Option AsideParts
aside_at told lines None block = None
aside_at told lines (Some name) block = aside_with name (placed_there (told name) lines block)

abbrev pub asides_from : (List ℕ → Held) → List (List ℕ) → List (Option (List ℕ)) → List BlockRead → List (Option AsideParts)
asides_from told lines names [] = []
asides_from told lines names (block ∷ blocks) = aside_at told lines (first_name names) block ∷ asides_from told lines (drop 1 names) blocks

abbrev pub asides_in : (List ℕ → Held) → List (List ℕ) → List BlockRead → List (Option (List ℕ)) → List (Option AsideParts)
asides_in told lines blocks names = if list_any is_some names then asides_from told lines names blocks else []

abbrev pub asides_by : (List ℕ → Held) → ToldParts → Option ExcerptParts → List (Option AsideParts)
asides_by told t None = []
asides_by told t (Some excerpt) = asides_in told (body_lines t) excerpt.blocks (elsewhere (name_of t) (body_lines t) excerpt.parts)

-- for each block its labels in another file, if it is shown by them; nothing where all are of the finding's
unfoldable pub asides_of : (List ℕ → Held) → ToldParts → List (Option AsideParts)
asides_of told t = asides_by told t t.excerpt

abbrev pub first_is_aside : List (Option AsideParts) → Bool
first_is_aside [] = false
first_is_aside (aside ∷ asides) = is_some aside

-- the blocks that are shown by labels, in the finding's file or in another
abbrev pub either : List Bool → List (Option AsideParts) → List Bool
either [] asides = map is_some asides
either (flag ∷ flags) asides = (flag || first_is_aside asides) ∷ either flags (drop 1 asides)

-- ---- in texts

-- labels of an excerpt stand in what is held
abbrev pub PlacedHeld : Held → List PlacedParts → Type 0
PlacedHeld (holds text) placed = PlacedStand text placed
PlacedHeld (lacks why) placed = placed ≡ []

-- the labels stand in what is told of their file
abbrev pub AsidesStand : (List ℕ → Held) → List (Option AsideParts) → Type 0
AsidesStand told asides = All (λ it. IfSome it (λ aside. PlacedHeld (told aside.name) aside.labels)) asides

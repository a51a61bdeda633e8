-- Shapes read from their texts.
use Rattle.std.specs.Prelude.{◌≡◌, ⊤, ℕ, ◌==◌, ◌&&◌, if◌then◌else◌, Bool, true, false, List, [], ◌∷◌, ◌++◌, map, Option, Some, None, option_map, Result, Ok, Err}
use Rattle.std.specs.Option.{is_some}
use Rattle.line_shapes.specs.declared.part.Part.{Part}
use Rattle.line_shapes.specs.declared.part.Part.TheVariants.{Byte, Blanks, Message}
use Rattle.line_shapes.specs.declared.name.NameKind.{NameKind}
use Rattle.line_shapes.specs.declared.parse.Item.{Item}
use Rattle.line_shapes.specs.declared.parse.Item.TheVariants.{One, Name}
use Rattle.line_shapes.specs.declared.parse.OwnShape.{OwnShape}
use Rattle.line_shapes.specs.declared.parse.Reader.{Reader}
use Rattle.line_shapes.specs.declared.parse.ShapeError.{ShapeError}
use Rattle.line_shapes.specs.declared.parse.ShapeError.TheVariants.{Unclosed, Unknown, TwoNames, NoName, BehindMessage, OutOfMemory}
use Rattle.line_shapes.specs.declared.parse.TheConstants.{ITEMS}
use Rattle.line_shapes.specs.Shape.{ShapeParts}

-- how far a text is read: the parts before and behind the name, whether the message or a run of blanks was read last, and what stands behind the brace that is open
pub record Reading : Type 0 where
  pub lead : List Part
  pub kind : Option NameKind
  pub after : List Part
  pub ended : Bool
  pub blank : Bool
  pub open_name : Option (List ℕ)

abbrev pub reading : Reader → Reading
reading reader = record { lead = reader.lead.items; kind = reader.kind; after = reader.after.items; ended = reader.ended; blank = reader.blank; open_name = option_map (λ name. name.items) reader.«open» }

abbrev pub start : Reading
start = record { lead = []; kind = None; after = []; ended = false; blank = false; open_name = None }

abbrev pub same : List ℕ → List ℕ → Bool
same [] [] = true
same [] (y ∷ ys) = false
same (x ∷ xs) [] = false
same (x ∷ xs) (y ∷ ys) = if y == x then same xs ys else false

abbrev pub item_among : List (List ℕ × Item) → List ℕ → Option Item
item_among [] name = None
item_among (item ∷ items) name = if same item.0 name then Some item.1 else item_among items name

unfoldable pub items : List (List ℕ × Item)
items = map (λ item. (item.0.now, item.1)) ITEMS

-- what stands in braces
abbrev pub item_named : List ℕ → Option Item
item_named name = item_among items name

abbrev pub is_message : Part → Bool
is_message Message = true
is_message _ = false

abbrev pub is_blanks : Part → Bool
is_blanks Blanks = true
is_blanks _ = false

abbrev pub with_part_for : Option NameKind → Part → Reading → Reading
with_part_for None part r = record r { lead = r.lead ++ part ∷ []; ended = is_message part; blank = is_blanks part }
with_part_for (Some kind) part r = record r { after = r.after ++ part ∷ []; ended = is_message part; blank = is_blanks part }

abbrev pub with_part : Part → Reading → Reading
with_part part r = with_part_for r.kind part r

abbrev pub put_one : Item → Reading → Result Reading ShapeError
put_one (One part) r = Ok (with_part part r)
put_one (Name kind) r = if is_some r.kind then Err TwoNames else Ok (record r { kind = Some kind })

abbrev pub put : Item → Reading → Result Reading ShapeError
put item r = if r.ended then Err BehindMessage else put_one item r

abbrev pub put_found : Option Item → Reading → Result Reading ShapeError
put_found None r = Err Unknown
put_found (Some item) r = put item r

abbrev pub out_of_braces : ℕ → Reading → Result Reading ShapeError
out_of_braces byte r =
    if byte == 0x7B then Ok (record r { open_name = Some []; blank = false }) else if (byte == 0x20) && r.blank then Ok r else put (One (if byte == 0x20 then Blanks else Byte byte)) r

abbrev pub inside : ℕ → List ℕ → Reading → Result Reading ShapeError
inside byte name r = if byte == 0x7D then put_found (item_named name) r else Ok (record r { open_name = Some (name ++ byte ∷ []) })

abbrev pub step_by : Option (List ℕ) → ℕ → Reading → Result Reading ShapeError
step_by None byte r = out_of_braces byte r
step_by (Some name) byte r = inside byte name (record r { open_name = None })

abbrev pub step : ℕ → Reading → Result Reading ShapeError
step byte r = step_by r.open_name byte r

abbrev pub and_then : {A B : Type 0} → (A → Result B ShapeError) → Result A ShapeError → Result B ShapeError
and_then f (Ok x) = f x
and_then f (Err e) = Err e

abbrev pub reads : List ℕ → Reading → Result Reading ShapeError
reads [] r = Ok r
reads (byte ∷ text) r = and_then (reads text) (step byte r)

abbrev pub finished_by : Option (List ℕ) → Option NameKind → Reading → Result ShapeParts ShapeError
finished_by (Some name) kind r = Err Unclosed
finished_by None None r = Err NoName
finished_by None (Some kind) r = Ok (record { lead = r.lead; kind = kind; after = r.after })

abbrev pub finished : Reading → Result ShapeParts ShapeError
finished r = finished_by r.open_name r.kind r

-- the shape that a text is, or what is wrong with it first
abbrev pub shape_of : List ℕ → Result ShapeParts ShapeError
shape_of text = and_then finished (reads text start)

-- want of memory may come at any time; every other error is that of the definition
abbrev pub IsCause : {A : Type 0} → ShapeError → Result A ShapeError → Type 0
IsCause OutOfMemory meant = ⊤
IsCause Unclosed meant = meant ≡ Err Unclosed
IsCause Unknown meant = meant ≡ Err Unknown
IsCause TwoNames meant = meant ≡ Err TwoNames
IsCause NoName meant = meant ≡ Err NoName
IsCause BehindMessage meant = meant ≡ Err BehindMessage

abbrev pub Gives : Result Reader ShapeError → Result Reading ShapeError → Type 0
Gives (Ok reader) meant = meant ≡ Ok (reading reader)
Gives (Err e) meant = IsCause e meant

abbrev pub GivesShape : Result OwnShape ShapeError → Result ShapeParts ShapeError → Type 0
GivesShape (Ok shape) meant = meant ≡ Ok (record { lead = shape.lead.items; kind = shape.kind; after = shape.after.items })
GivesShape (Err e) meant = IsCause e meant

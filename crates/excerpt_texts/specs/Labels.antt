-- The labels of a drawing, with their texts.
use Rattle.std.specs.Prelude.{ℕ, ◌+◌, ◌-◌, if◌then◌else◌, Bool, false, List, [], ◌∷◌, ◌++◌, length, take, drop, map, codes, slice_get, slice_range, string_bytes, Option, Some, None, option_map}
use Rattle.std.specs.List.{filter_map}
use Rattle.std.specs.Str.{encode_utf8_all}
use Rattle.excerpt_blocks.specs.declared.below.Row.{Row}
use Rattle.excerpt_blocks.specs.declared.below.Text.{Text}
use Rattle.excerpt_blocks.specs.declared.labels.Label.{Label}
use Rattle.excerpt_blocks.specs.Below.{State}
use Rattle.excerpt_blocks.specs.Labels.{says}
use Rattle.excerpts.specs.Body.{BlockRead}
use Rattle.excerpt_texts.specs.declared.labels.DrawnLabel.{DrawnLabel}
use Rattle.excerpt_texts.specs.Lines.{line_at}

-- a label over printed rows: from a character of one to a character of another, by the rows' places in the block
pub record DrawnParts : Type 0 where
  pub start_row : ℕ
  pub start : ℕ
  pub row : ℕ
  pub end : ℕ
  pub primary : Bool
  pub text : Option (List ℕ)

abbrev pub drawn_parts : DrawnLabel → DrawnParts
drawn_parts label = record { start_row = label.start_row; start = label.start; row = label.row; end = label.end; primary = label.primary; text = option_map string_bytes label.text }

abbrev pub text_at : List (List ℕ) → Text → List ℕ
text_at lines text = slice_range (line_at lines text.line) text.start text.end

abbrev pub texts_before : Option Row → ℕ → ℕ
texts_before None all = all
texts_before (Some row) all = row.texts

-- the texts below a row
unfoldable pub row_texts : State → ℕ → List Text
row_texts s row =
    let start = texts_before (slice_get s.rows row) (length s.texts) in
    take (texts_before (slice_get s.rows (row + 1)) (length s.texts) - start) (drop start s.texts)

-- a text after others, with LF between them
abbrev pub with_text : Option (List ℕ) → List ℕ → Option (List ℕ)
with_text None text = Some (encode_utf8_all text)
with_text (Some before) text = Some (before ++ 0x0A ∷ encode_utf8_all text)

abbrev pub texts_from : List (List ℕ) → Label → Option (List ℕ) → List Text → Option (List ℕ)
texts_from lines label before [] = before
texts_from lines label before (text ∷ texts) = texts_from lines label (if says label text then with_text before (text_at lines text) else before) texts

-- the texts of a label
abbrev pub label_text : List (List ℕ) → State → Label → Option (List ℕ)
label_text lines s label = texts_from lines label None (row_texts s label.row)

unfoldable pub drawn_label : List (List ℕ) → State → Label → DrawnParts
drawn_label lines s label = record { start_row = label.start_row; start = label.start; row = label.row; end = label.end; primary = label.primary; text = label_text lines s label }

abbrev pub insert_by : List (List ℕ) → Text → Option ℕ → Option DrawnParts
insert_by lines text None = Some (record { start_row = text.row; start = text.column; row = text.row; end = text.column; primary = false; text = Some (codes "help: " ++ encode_utf8_all (text_at lines text)) })
insert_by lines text (Some mark) = None

-- a text that is no mark's is what the tool would insert
unfoldable pub insert : List (List ℕ) → Text → Option DrawnParts
insert lines text = insert_by lines text text.mark

-- the labels of a block, and then what is inserted
unfoldable pub block_labels : List (List ℕ) → BlockRead → List DrawnParts
block_labels lines block = map (drawn_label lines block.below) block.labels ++ filter_map (insert lines) block.below.texts

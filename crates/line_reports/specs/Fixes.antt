-- The exact edits that the suggestions of an excerpt are.
use Rattle.std.specs.Prelude.{ℕ, ◌+◌, ◌-◌, ◌==◌, ◌&&◌, ◌||◌, not, nat_le, nat_lt, if◌then◌else◌, Bool, true, false, List, [], ◌∷◌, ◌++◌, drop, map, slice_get, slice_range, Option, Some, None, option_map, option_and_then}
use Rattle.std.specs.List.{list_all, list_any}
use Rattle.std.specs.Str.{bytes_eq, chars, encode_utf8_all}
use Rattle.excerpt_blocks.specs.Below.{is_same}
use Rattle.excerpt_blocks.specs.declared.below.Mark.{Mark}
use Rattle.excerpt_blocks.specs.declared.below.Row.{Row as PrintedRow}
use Rattle.excerpt_lines.specs.declared.gutter.Sign.{Sign as GutterSign}
use Rattle.excerpt_lines.specs.declared.gutter.Sign.TheVariants.{Unsigned as UnsignedThere, Added as AddedThere, Removed as RemovedThere, Changed as ChangedThere}
use Rattle.excerpt_lines.specs.declared.tables.CharClass.TheVariants.{Plus}
use Rattle.excerpt_rows.specs.Edits.{EditParts, HunkRowView, edit_in, takes_some}
use Rattle.excerpt_rows.specs.declared.hunk.Marked.{Marked}
use Rattle.excerpt_rows.specs.declared.hunk.Sign.{Sign}
use Rattle.excerpt_rows.specs.declared.hunk.Sign.TheVariants.{Unsigned, Added, Removed, Changed}
use Rattle.excerpt_texts.specs.Lines.{first_flag, flag_list}
use Rattle.excerpts.specs.Body.{BlockRead, is_block}
use Rattle.excerpts.specs.declared.cuts.Part.{Part}
use Rattle.excerpts.specs.declared.cuts.PartKind.{PartKind}
use Rattle.excerpts.specs.declared.cuts.PartKind.TheVariants.{Empty, Place, Note, GoesOn, Frames, Source, Loose, Suggestion, Kept}
use Rattle.found_reports.specs.Fixes.{ChangeParts}
use Rattle.sarif_spans.specs.declared.rows.Row.{Row}
use Rattle.sarif_spans.specs.Rows.{rows_in}
use Rattle.line_reports.specs.declared.fixes.Suggested.{Suggested}
use Rattle.line_reports.specs.Asides.{part_name}
use Rattle.line_reports.specs.Drawings.{is_near, printed_text}
use Rattle.line_reports.specs.Pieces.{ExcerptParts}
use Rattle.line_reports.specs.Span.{breaks, row_numbered}
use Rattle.line_reports.specs.Told.{ToldParts, body_lines, name_of}

-- ---- the suggestions of the finding's file

abbrev pub is_suggestion : PartKind → Bool
is_suggestion Empty = false
is_suggestion (Place p) = false
is_suggestion (Note n) = false
is_suggestion (GoesOn below) = false
is_suggestion Frames = false
is_suggestion Source = false
is_suggestion Loose = false
is_suggestion Suggestion = true
is_suggestion Kept = false

abbrev pub suggests : Part → Bool
suggests part = is_suggestion part.kind

-- whether the lines after a part are of the finding's file; the name is in the part's location
abbrev pub here_by : List ℕ → Bool → Option (List ℕ) → Bool
here_by own here None = here
here_by own here (Some name) = bytes_eq name own

-- for each block whether it is a suggestion of the finding's file
abbrev pub suggested_from : List ℕ → List (List ℕ) → Bool → List Part → List Bool
suggested_from own lines here [] = []
suggested_from own lines here (part ∷ parts) =
    flag_list (is_block part.kind) (here && is_suggestion part.kind) ++ suggested_from own lines (here_by own here (part_name lines part)) parts

-- ---- the rows of a suggestion

-- a row, the line of the last empty gutter before it, and whether the source's row of its number ends with LF alone
pub record SuggestedParts : Type 0 where
  pub gap : ℕ
  pub row : HunkRowView
  pub ended : Bool

abbrev pub suggested_parts : Suggested → SuggestedParts
suggested_parts it = record {
  gap = it.gap;
  row = record { sign = it.sign; number = it.number; text = it.text.now; marks = it.marks.items; source = option_map (λ row. row.items) it.source };
  ended = it.ended;
}

abbrev pub sign_of : GutterSign → Sign
sign_of UnsignedThere = Unsigned
sign_of AddedThere = Added
sign_of RemovedThere = Removed
sign_of ChangedThere = Changed

abbrev pub marked_of : Mark → Marked
marked_of mark = record { start = mark.start; end = mark.end; added = is_same mark.class Plus }

-- the first of these marks, as far as they are below this row of the block
abbrev pub marks_at : ℕ → List Mark → List Marked
marks_at k [] = []
marks_at k (mark ∷ marks) = if mark.row == k then marked_of mark ∷ marks_at k marks else []

-- the characters of a row of the source that isn't much longer than the printed one
abbrev pub source_row : List ℕ → List ℕ → Option Row → Option (List ℕ)
source_row text printed None = None
source_row text printed (Some row) = if is_near row printed then Some (chars (slice_range text row.start row.end)) else None

abbrev pub is_lf : Option ℕ → Bool
is_lf None = false
is_lf (Some c) = c == 0x0A

-- a row of the source ends with LF alone: what follows its characters is LF, not CR or the end of the text
abbrev pub ends_plain : List ℕ → Option Row → Bool
ends_plain text None = false
ends_plain text (Some row) = is_lf (slice_get text row.end)

abbrev pub there : List ℕ → Option ℕ → Option Row
there text number = row_numbered (rows_in breaks text) number

unfoldable pub suggested_at : List ℕ → List (List ℕ) → List Mark → ℕ → PrintedRow → SuggestedParts
suggested_at text lines marks k row =
    let printed = printed_text lines row in
    let source = there text row.number in
    record {
      gap = row.gap;
      row = record { sign = sign_of row.sign; number = row.number; text = printed; marks = marks_at k (drop row.marks marks); source = source_row text printed source };
      ended = ends_plain text source;
    }

-- the rows from a number on
abbrev pub suggested_rows : List ℕ → List (List ℕ) → List Mark → ℕ → List PrintedRow → List SuggestedParts
suggested_rows text lines marks k [] = []
suggested_rows text lines marks k (row ∷ rows) = suggested_at text lines marks k row ∷ suggested_rows text lines marks (k + 1) rows

-- ---- hunks: an empty gutter ends one

abbrev pub is_of : ℕ → SuggestedParts → Bool
is_of gap it = it.gap == gap

abbrev pub with_row : SuggestedParts → List (List SuggestedParts) → List (List SuggestedParts)
with_row it [] = (it ∷ []) ∷ []
with_row it ([] ∷ more) = (it ∷ []) ∷ more
with_row it ((next ∷ hunk) ∷ more) = if is_of it.gap next then (it ∷ next ∷ hunk) ∷ more else (it ∷ []) ∷ (next ∷ hunk) ∷ more

abbrev pub hunks : List SuggestedParts → List (List SuggestedParts)
hunks [] = []
hunks (it ∷ rows) = with_row it (hunks rows)

-- ---- changes

abbrev pub is_tab : ℕ → Bool
is_tab c = c == 0x09

abbrev pub has_tab : Option (List ℕ) → Bool
has_tab None = false
has_tab (Some row) = list_any is_tab row

-- printed tabs are blanks, and a row is replaced with its break, which is LF then: so no row of the source with a number of these has
-- a tab, and each that is printed ends with LF alone
abbrev pub is_plain : SuggestedParts → Bool
is_plain it = not (has_tab it.row.source) && (not (takes_some it.row) || it.ended)

-- the row before this one ends with LF alone, or there is none
abbrev pub begins_plain : List ℕ → ℕ → Bool
begins_plain text first = first == 1 || ends_plain text (there text (Some (first - 1)))

-- rows are counted in 32 bits
abbrev pub is_counted : ℕ → Bool
is_counted n = nat_le n 0xFFFF_FFFF

-- each row and LF
abbrev pub rows_text : List (List ℕ) → List ℕ
rows_text [] = []
rows_text (row ∷ rows) = (encode_utf8_all row ++ 0x0A ∷ []) ++ rows_text rows

abbrev pub is_change : List ℕ → EditParts → Bool
is_change text edit = is_counted edit.first && is_counted edit.count && (nat_lt 0 edit.count || begins_plain text edit.first)

abbrev pub change_by : List ℕ → EditParts → Option ChangeParts
change_by text edit = if is_change text edit then Some (record { first = edit.first; count = edit.count; text = rows_text edit.rows }) else None

-- a hunk as a change of rows, if it is an exact edit
unfoldable pub change_of : List ℕ → List SuggestedParts → Option ChangeParts
change_of text hunk = if list_all is_plain hunk then option_and_then (change_by text) (edit_in (map (λ it. it.row) hunk)) else None

-- all hunks are exact edits, or there is none
abbrev pub changes_of : List ℕ → List (List SuggestedParts) → Option (List ChangeParts)
changes_of text [] = Some []
changes_of text (hunk ∷ more) = option_and_then (λ change. option_map (λ changes. change ∷ changes) (changes_of text more)) (change_of text hunk)

-- ---- fixes

abbrev pub is_at : ℕ → ChangeParts → Bool
is_at first change = change.first == first

abbrev pub are_at_one : List ChangeParts → Bool
are_at_one [] = true
are_at_one (change ∷ changes) = list_all (is_at change.first) changes

-- hunks that begin at one row are alternatives; of others it isn't known whether they are alternatives or belong together
abbrev pub alternatives : List ChangeParts → List (List ChangeParts)
alternatives changes = if are_at_one changes then map (λ change. change ∷ []) changes else []

abbrev pub alternatives_if : Option (List ChangeParts) → List (List ChangeParts)
alternatives_if None = []
alternatives_if (Some changes) = alternatives changes

-- the fixes of a suggestion, if each of its hunks is an exact edit
unfoldable pub block_fixes : List ℕ → List (List ℕ) → BlockRead → List (List ChangeParts)
block_fixes text lines block = alternatives_if (changes_of text (hunks (suggested_rows text lines block.below.marks 0 block.below.rows)))

abbrev pub fixes_if : Bool → List ℕ → List (List ℕ) → BlockRead → List (List ChangeParts)
fixes_if true text lines block = block_fixes text lines block
fixes_if false text lines block = []

abbrev pub fixes_from : List ℕ → List (List ℕ) → List Bool → List BlockRead → List (List ChangeParts)
fixes_from text lines flags [] = []
fixes_from text lines flags (block ∷ blocks) = fixes_if (first_flag flags) text lines block ++ fixes_from text lines (drop 1 flags) blocks

abbrev pub fixes_in : List ℕ → List ℕ → List (List ℕ) → ExcerptParts → List (List ChangeParts)
fixes_in text own lines excerpt = if list_any suggests excerpt.parts then fixes_from text lines (suggested_from own lines true excerpt.parts) excerpt.blocks else []

abbrev pub fixes_by : List ℕ → ToldParts → Option ExcerptParts → List (List ChangeParts)
fixes_by text t None = []
fixes_by text t (Some excerpt) = fixes_in text (name_of t) (body_lines t) excerpt

-- the exact edits of its file, of this text, that a finding's excerpt suggests
unfoldable pub fixes_of : List ℕ → ToldParts → List (List ChangeParts)
fixes_of text t = fixes_by text t t.excerpt

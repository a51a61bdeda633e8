-- Where labels that were written come back.
use Rattle.std.specs.Prelude.{◌≡◌, ℕ, ◌-◌, ◌==◌, ◌&&◌, List, if◌then◌else◌, Some}
use Rattle.source_location.specs.Breaks.{breaks_of}
use Rattle.source_location.specs.Locations.{begins_with_mark, location_of}
use Rattle.oxc_windows.specs.Rows.{is_second_byte}
use Rattle.sarif_log.specs.declared.log.ColumnKind.TheVariants.{Characters}
use Rattle.sarif_spans.specs.Rows.{rows_in}
use Rattle.sarif_spans.specs.Span.{range_of, span_of}
use Rattle.finding_laws.specs.Logs.Meant.{breaks_meant, region_meant}

-- where an end of a label comes back: behind a mark that it stands before, and before a CRLF that it stands in
unfoldable pub settled_end : List ℕ → ℕ → ℕ
settled_end text o = if (o == 0) && begins_with_mark text then 3 else if is_second_byte (breaks_of text) o then o - 1 else o

-- the region from one place to another is read as the bytes between them
abbrev pub ReadsBack : List ℕ → ℕ → ℕ → Type 0
ReadsBack text start end =
    span_of Characters text (rows_in breaks_meant text) (region_meant (location_of text start) (location_of text end))
    ≡ Some (range_of (settled_end text start) (settled_end text end))

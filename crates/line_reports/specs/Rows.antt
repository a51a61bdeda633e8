-- Where rows end.
use Rattle.std.specs.Prelude.{ℕ, ◌-◌, ◌==◌, ◌&&◌, List, length, slice_index, slice_index_or, if◌then◌else◌}
use Rattle.oxc_windows.specs.Breaks.{breaks_of}
use Rattle.oxc_windows.specs.declared.breaks.LineBreak.{LineBreak}

-- where the break starts whose last byte is before a place: one byte before it, or two where these are CR and LF
abbrev pub break_start : List ℕ → ℕ → ℕ
break_start bytes end = if (slice_index bytes (end - 2) == 13) && (slice_index bytes (end - 1) == 10) then end - 2 else end - 1

-- the break that would end the last row
abbrev pub past_end : List ℕ → LineBreak
past_end text = record { start = length text; end = length text }

-- where a row ends before its break
abbrev pub row_end : List ℕ → ℕ → ℕ
row_end text row = (slice_index_or (breaks_of text) row (past_end text)).start

-- The line breaks of a text: LF, CR, and CRLF taken as one.
use Rattle.std.specs.Prelude.{ℕ, ◌+◌, ◌==◌, Option, Some, None, if◌then◌else◌}
pub use Rattle.oxc_windows.specs.declared.breaks.LineBreak.{LineBreak}
pub use Rattle.oxc_windows.specs.Breaks.{AreBreaks, IsBreakList, break_at, breaks_of}

-- the break that starts with a byte, if one does, from that byte, the one before, the one after and its place
abbrev pub break_with : ℕ → ℕ → ℕ → ℕ → Option LineBreak
break_with byte before after place =
    if byte == 10
    then (if before == 13 then None else Some (record { start = place; end = place }))
    else if byte == 13
    then (if after == 10 then Some (record { start = place; end = place + 1 }) else Some (record { start = place; end = place }))
    else None

-- a break, so many bytes further on
abbrev pub moved : ℕ → LineBreak → LineBreak
moved n b = record { start = b.start + n; end = b.end + n }

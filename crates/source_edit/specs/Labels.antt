-- Where labels lie after an edit.
use Rattle.std.specs.Prelude.{ℕ, ◌+◌, ◌-◌, ◌==◌, ◌&&◌, nat_lt, nat_le, max, length, if◌then◌else◌}
use Rattle.oxc_span.specs.Label.{Label, label_end}
use Rattle.source_edit.specs.Edits.{Change}
use Rattle.oxc_span.specs.declared.span.Span.{Span}

-- a place behind the range, by what the text grew or shrank
abbrev pub shifted : Change → ℕ → ℕ
shifted change place = place - (change.end - change.start) + length change.insert

-- where a label starts: behind what is inserted right at its start, before what takes the place of its first bytes
abbrev pub moved_start : Change → ℕ → ℕ
moved_start change start =
    if (change.start == start) && (change.end == start) then start + length change.insert
    else if nat_le start change.start then start
    else if nat_lt start change.end then change.start
    else shifted change start

-- where a label ends: before what is inserted right at its end, behind what takes the place of its last bytes
abbrev pub moved_end : Change → ℕ → ℕ
moved_end change end =
    if nat_le end change.start then end
    else if nat_lt end change.end then change.start + length change.insert
    else shifted change end

-- the label's place after the edit; one whose end would come before its start is empty
abbrev pub moved_label : Change → Label → Span
moved_label change label =
    let start = moved_start change label.offset in
    record { start = start; end = max start (moved_end change (label_end label)) }

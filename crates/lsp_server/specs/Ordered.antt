-- The order of a range's ends.
use Rattle.std.specs.Prelude.{ℕ, ◌≤◌}
use Rattle.std.specs.Str.{IsUtf8, IsCharBoundary}
use Rattle.text_places.specs.Places.{IsBefore}
use Rattle.lsp_server.specs.Seen.{Seen, client_place}

-- of two offsets between characters, the later isn't seen before the earlier
abbrev pub RangesAreOrdered : Type 0
RangesAreOrdered = (file : Seen) (start end : ℕ) → IsUtf8 file.text → IsCharBoundary file.text start → IsCharBoundary file.text end → start ≤ end
    → ¬ IsBefore (client_place file end) (client_place file start)

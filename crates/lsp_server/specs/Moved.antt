-- Findings that move with the text.
use Rattle.std.specs.Prelude.{◌-◌, ◌^◌, ◌<◌, ◌≤◌, Bool, false, List, Option, Some, None, option_map, is_none, All, if◌then◌else◌}
use Rattle.std.specs.List.{filter_map}
use Rattle.oxc_span.specs.Label.{Label, label_end}
use Rattle.oxc_protocol.specs.Parts.{OxcParts}
use Rattle.lsp_server.specs.Seen.{head_label}
use Rattle.lsp_server.specs.declared.marks.Change.{Change}
use Rattle.lsp_server.specs.declared.marks.Mark.{Mark}
use Rattle.lsp_server.specs.Marks.{moved_end, moved_mark}

abbrev pub mark_of : Label → Mark
mark_of label = record { start = label.offset; end = label_end label }

-- the label at another range
abbrev pub placed : Label → Mark → Label
placed label mark = record { text = label.text; offset = mark.start; len = mark.end - mark.start; primary = label.primary }

-- a label after a change, or none where it became empty
unfoldable pub moved_label : Change → Label → Option Label
moved_label change label = option_map (placed label) (moved_mark change (mark_of label))

-- a label, where there is one, becomes empty
abbrev pub goes : Change → Option Label → Bool
goes change None = false
goes change (Some label) = is_none (moved_label change label)

-- the head label becomes empty
abbrev pub head_goes : Change → List Label → Bool
head_goes change labels = goes change (head_label labels)

-- a finding after a change: its labels move, without those that became empty; it goes with its head label
unfoldable pub moved_diagnostic : Change → OxcParts → Option OxcParts
moved_diagnostic change it =
    if head_goes change it.labels then None
    else Some (record it { labels = filter_map (moved_label change) it.labels })

-- a label's ends stay in the range of 32 bits
pub record CanMove (change : Change) (label : Label) : Type 0 where
  pub ordered : change.start ≤ change.end
  pub inserted : change.inserted < 2 ^ 32
  pub fits : moved_end change (mark_of label) < 2 ^ 32

abbrev pub CanMoveAll : Change → OxcParts → Type 0
CanMoveAll change it = All (CanMove change) it.labels

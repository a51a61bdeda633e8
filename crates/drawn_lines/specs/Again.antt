-- Findings that are printed again.
use Rattle.std.specs.Prelude.{ℕ, ◌+◌, ◌&&◌, not, Bool, true, false, List, [], ◌∷◌, ◌++◌, length, take, drop, replicate, Option, Some, None, if◌then◌else◌}
use Rattle.std.specs.Option.{is_some}
use Rattle.build_dirs.specs.Again.{Seen, key_text, lossy_piece, with_seen}
use Rattle.tool_lines.specs.Lines.{FindingParts, PieceParts}
use Rattle.girzohal_options.specs.declared.Asked.{Asked}
use Rattle.drawn_lines.specs.Parting.{unparted}
use Rattle.drawn_lines.specs.Seam.{says_aside}
use Rattle.drawn_lines.specs.declared.again.Run.{Run}
use Rattle.std.specs.Prelude.{string_bytes, unwrap_or}

-- findings that are printed again are left out, unless that was turned off
abbrev pub is_unique : Asked → Bool
is_unique asked = unwrap_or asked.unique true

-- the name that a finding gives
abbrev pub name_by : Option FindingParts → List ℕ
name_by None = []
name_by (Some finding) = finding.place.name

-- what a piece adds to the text by which its finding is known, whether it has a finding, and whether it is a note of the finding before it
pub record Sign : Type 0 where
  pub text : List ℕ
  pub found : Bool
  pub joins : Bool

unfoldable pub sign_of : List (List ℕ) → PieceParts → Sign
sign_of run piece =
    record {
      text = key_text (lossy_piece (name_by piece.begun.finding) run ∷ []);
      found = is_some piece.begun.finding;
      joins = says_aside piece.begun.finding;
    }

-- those of pieces with the lines that they begin with
abbrev pub signs : List (List ℕ) → List PieceParts → List Sign
signs lines [] = []
signs lines (piece ∷ pieces) = sign_of (take piece.lines lines) piece ∷ signs (drop piece.lines lines) pieces

-- a finding and its notes so far: their text, how many pieces they are, and whether there is a finding
pub record RunParts : Type 0 where
  pub text : List ℕ
  pub count : ℕ
  pub found : Bool

abbrev pub run_parts : Run → RunParts
run_parts run = record { text = string_bytes run.text; count = run.count; found = run.found }

abbrev pub no_run : RunParts
no_run = record { text = []; count = 0; found = false }

-- a run without a finding is known by nothing
abbrev pub begun_by : Sign → RunParts
begun_by s = record { text = if s.found then s.text else []; count = 1; found = s.found }

abbrev pub with_sign : RunParts → Sign → RunParts
with_sign run s = record run { text = run.text ++ s.text; count = run.count + 1 }

-- a finding was printed before with the same notes
abbrev pub was_printed : Seen → RunParts → Bool
was_printed seen run = run.found && seen run.text

abbrev pub seen_with : Seen → RunParts → Seen
seen_with seen run = if run.found then with_seen seen run.text else seen

-- for each piece, whether its finding was printed before, with the same notes
unfoldable pub flags_from : Seen → RunParts → List Sign → List Bool
flags_from seen run [] = replicate run.count (was_printed seen run)
flags_from seen run (s ∷ ss) =
    if run.found && s.joins
    then flags_from seen (with_sign run s) ss
    else replicate run.count (was_printed seen run) ++ flags_from (seen_with seen run) (begun_by s) ss

-- what was printed then
unfoldable pub seen_from : Seen → RunParts → List Sign → Seen
seen_from seen run [] = seen_with seen run
seen_from seen run (s ∷ ss) = if run.found && s.joins then seen_from seen (with_sign run s) ss else seen_from (seen_with seen run) (begun_by s) ss

abbrev pub flags_in : Asked → Seen → List (List ℕ) → List PieceParts → List Bool
flags_in asked seen lines pieces = if is_unique asked then flags_from seen no_run (signs lines pieces) else replicate (length pieces) false

abbrev pub seen_behind : Asked → Seen → List (List ℕ) → List PieceParts → Seen
seen_behind asked seen lines pieces = if is_unique asked then seen_from seen no_run (signs lines pieces) else seen

-- a piece without its finding; a line that is kept stays
abbrev pub muted : PieceParts → PieceParts
muted piece = record piece { begun = record piece.begun { finding = None } }

abbrev pub muted_if : Bool → PieceParts → PieceParts
muted_if is piece = if is then muted piece else piece

-- pieces of which those are muted that have this flag
abbrev pub muted_at : Bool → List Bool → List PieceParts → List PieceParts
muted_at which [] pieces = []
muted_at which (flag ∷ flags) [] = []
muted_at which (flag ∷ flags) (piece ∷ pieces) = muted_if (if which then flag else not flag) piece ∷ muted_at which flags pieces

-- pieces without the findings that were printed before, and without the empty lines before findings; and those with no other findings
unfoldable pub fresh : Asked → Seen → List (List ℕ) → List PieceParts → List PieceParts
fresh asked seen lines pieces = unparted lines (muted_at true (flags_in asked seen lines pieces) pieces)

unfoldable pub repeated : Asked → Seen → List (List ℕ) → List PieceParts → List PieceParts
repeated asked seen lines pieces = muted_at false (flags_in asked seen lines pieces) pieces

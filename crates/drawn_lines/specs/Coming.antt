-- Lines that are drawn as they come.
use Rattle.std.specs.Prelude.{◌≡◌, ℕ, ◌+◌, List, [], ◌++◌, take, map, Option, None, Bool, true, false, All, string_bytes}
use Rattle.found_reports.specs.Held.{Held}
use Rattle.found_reports.specs.Found.{Found}
use Rattle.found_reports.specs.Listed.{held_in, listed}
use Rattle.found_reports.specs.declared.sources.Source.{Source}
use Rattle.source_store.specs.Given.{IsGiven, MeetsTold}
use Rattle.source_store.specs.declared.named.Spelling.TheVariants.{Path}
use Rattle.tool_lines.specs.Lines.{ArePieces, PieceParts}
use Rattle.line_reports.specs.Names.{names_in}
use Rattle.line_reports.specs.Pieces.{AreRead, ReadParts}
use Rattle.line_reports.specs.Reports.{reports_in}
use Rattle.finding_summaries.specs.Counted.{one_reaches}
use Rattle.build_dirs.specs.Again.{Seen, none_seen, seen_in}
use Rattle.build_dirs.specs.Dirs.{DirsParts, dirs_parts, no_dirs}
use Rattle.drawn_lines.specs.Named.{Agrees, dirs_behind, named_in, tried_in}
use Rattle.drawn_lines.specs.Again.{fresh, repeated, seen_behind}
use Rattle.drawn_lines.specs.Counts.{count_of, count_with, ending}
use Rattle.girzohal_options.specs.declared.Asked.{Asked}
use Rattle.drawn_lines.specs.Text.{AreRead as LinesAreRead, came_of, came_to_come, lines_of, to_come}
use Rattle.drawn_lines.specs.Parting.{waits}
use Rattle.drawn_lines.specs.Seam.{IsSeam, span}
use Rattle.drawn_lines.specs.Lines.{annotates, aside_text, columns_of, shapes_of, still, written}
use Rattle.drawn_lines.specs.declared.held.HeldLines.{HeldLines}
use Rattle.drawn_lines.specs.declared.tally.Tally.{Tally}
use Rattle.drawn_lines.specs.declared.coming.Look.{Look}
use Rattle.drawn_lines.specs.declared.coming.Look.TheVariants.{Nothing, Known}

-- what is told of paths, where something is
abbrev pub Told : Type 0
Told = List ℕ → Option Held

-- ---- what was drawn

abbrev pub sources_of : Tally → List Source
sources_of tally = tally.sources.entries.items

-- what was printed so far
abbrev pub seen_of : Tally → Seen
seen_of tally = seen_in tally.seen

-- the directories of the build so far
abbrev pub dirs_of : Tally → DirsParts
dirs_of tally = dirs_parts tally.dirs

-- the folder in which sources are read
abbrev pub root_of : Asked → List ℕ
root_of asked = string_bytes asked.root

-- so many are still drawn
abbrev pub most_of : Asked → Tally → Option ℕ
most_of asked tally = still asked.most tally.count.total

-- the bodies of these pieces of lines were read
pub record Reads (lines : List (List ℕ)) (pieces : List PieceParts) (reads : List ReadParts) : Type 0 where
  pub of_them : map (λ (it : ReadParts). it.piece) reads ≡ pieces
  pub read : AreRead lines reads

-- the names of the findings of these pieces were sought with what a store gave, and then the pieces are these
pub record Seeks (told : Told) (asked : Asked) (before now : Tally) (lines : List (List ℕ)) (pieces named : List PieceParts) : Type 0 where
  pub more : List Source
  pub sources : sources_of now ≡ sources_of before ++ more
  pub told_so : All (MeetsTold told Path) more
  pub there : All (λ name. listed (sources_of now) name ≡ true) (tried_in (root_of asked) (held_in (sources_of now)) (dirs_of before) lines pieces)
  pub named_is : named ≡ named_in (root_of asked) (held_in (sources_of now)) (dirs_of before) lines pieces
  pub dirs : dirs_of now ≡ dirs_behind (dirs_of before) lines pieces
  pub seen : seen_of now ≡ seen_of before
  pub count : now.count ≡ before.count
  pub again : now.again ≡ before.again

-- these pieces of lines, which came so, were written with what a store gave, and counted
pub record Draws (told : Told) (asked : Asked) (before now : Tally) (lines came : List (List ℕ)) (pieces : List PieceParts) (text aside : List ℕ) : Type 0 where
  pub more : List Source
  pub sources : sources_of now ≡ sources_of before ++ more
  pub told_so : All (MeetsTold told Path) more
  pub seen : seen_of now ≡ seen_behind asked (seen_of before) lines pieces
  pub reads : List ReadParts
  pub reads_are : Reads lines (fresh asked (seen_of before) lines pieces) reads
  pub others : List ReadParts
  pub others_are : Reads lines (repeated asked (seen_of before) lines pieces) others
  pub there : All (λ name. listed (sources_of now) name ≡ true) (names_in lines reads ++ names_in lines others)
  pub found : List Found
  pub found_is : found ≡ reports_in (columns_of asked) (held_in (sources_of now)) lines reads
  pub again : List Found
  pub again_is : again ≡ reports_in (columns_of asked) (held_in (sources_of now)) lines others
  pub text_is : text ≡ written asked (held_in (sources_of now)) (most_of asked before) lines came reads
  pub aside_is : aside ≡ aside_text asked lines pieces
  pub counted : now.count ≡ count_with before.count (count_of asked found)
  pub counted_again : now.again ≡ count_with before.again (count_of asked again)
  pub dirs : dirs_of now ≡ dirs_of before

-- the same with the names that were sought
pub record DrawsNamed (told : Told) (asked : Asked) (before now : Tally) (lines came : List (List ℕ)) (pieces : List PieceParts) (text aside : List ℕ) : Type 0 where
  pub middle : Tally
  pub named : List PieceParts
  pub seeks : Seeks told asked before middle lines pieces named
  pub draws : Draws told asked middle now lines came named text aside

-- the first pieces of these lines were written behind those before, and what comes behind them belongs to none of them
pub record Looks (told : Told) (asked : Asked) (before now : Tally) (lines came : List (List ℕ)) (text aside : List ℕ) (count : ℕ) : Type 0 where
  pub pieces : List PieceParts
  pub are : ArePieces (shapes_of asked) None lines pieces
  pub at : ℕ
  pub seam : IsSeam (shapes_of asked) lines pieces at
  pub full : waits false lines (take at pieces) ≡ false
  pub draws : DrawsNamed told asked before now lines came (take at pieces) text aside
  pub lines_are : count ≡ span (take at pieces)

abbrev pub IsLook : Told → Asked → Tally → List (List ℕ) → List (List ℕ) → Look → Type 0
IsLook told asked before lines came (Nothing now) = now ≡ before
IsLook told asked before lines came (Known drawn count) = Looks told asked before drawn.tally lines came (string_bytes drawn.text) (string_bytes drawn.aside) count

-- ---- what is still to come

-- pieces of lines with the names of their findings, behind what was drawn
abbrev pub named_of : Asked → (List ℕ → Held) → Tally → List (List ℕ) → List PieceParts → List PieceParts
named_of asked given tally lines pieces = named_in (root_of asked) given (dirs_of tally) lines pieces

abbrev pub tried_of : Asked → (List ℕ → Held) → Tally → List (List ℕ) → List PieceParts → List (List ℕ)
tried_of asked given tally lines pieces = tried_in (root_of asked) given (dirs_of tally) lines pieces

-- the same of a whole text
abbrev pub named_whole : Asked → (List ℕ → Held) → List (List ℕ) → List PieceParts → List PieceParts
named_whole asked given lines pieces = named_in (root_of asked) given no_dirs lines pieces

abbrev pub tried_whole : Asked → (List ℕ → Held) → List (List ℕ) → List PieceParts → List (List ℕ)
tried_whole asked given lines pieces = tried_in (root_of asked) given no_dirs lines pieces

-- what is given of the names that these ask for is what was told
abbrev pub BothGiven : Told → (List ℕ → Held) → List (List ℕ) → List ReadParts → List ReadParts → Type 0
BothGiven told given lines reads others = IsGiven told Path (names_in lines reads) given × IsGiven told Path (names_in lines others) given

-- what is written of the whole, what stands aside and the reports are those so far, and behind them what these pieces of the lines that are left add,
-- of which these are read that are new, and those others; for their names these are tried
pub record GoesOn (told : Told) (asked : Asked) (given : List ℕ → Held) (whole whole_came : List (List ℕ)) (text aside : List ℕ) (found again : List Found)
    (most : Option ℕ) (left came : List (List ℕ)) (pieces : List PieceParts) (places : List (List ℕ)) (reads others : List ReadParts) : Type 0 where
  pub bare : List PieceParts
  pub are : ArePieces (shapes_of asked) None whole bare
  pub all : List PieceParts
  pub all_are : all ≡ named_whole asked given whole bare
  pub all_reads : List ReadParts
  pub reads_are : Reads whole (fresh asked none_seen whole all) all_reads
  pub all_others : List ReadParts
  pub others_are : Reads whole (repeated asked none_seen whole all) all_others
  pub drawn : written asked given asked.most whole whole_came all_reads ≡ text ++ written asked given most left came reads
  pub stands : aside_text asked whole all ≡ aside ++ aside_text asked left pieces
  pub reports : reports_in (columns_of asked) given whole all_reads ≡ found ++ reports_in (columns_of asked) given left reads
  pub repeats : reports_in (columns_of asked) given whole all_others ≡ again ++ reports_in (columns_of asked) given left others
  pub said : BothGiven told given left reads others → BothGiven told given whole all_reads all_others
  pub tried : IsGiven told Path places given → IsGiven told Path (tried_whole asked given whole bare) given

-- of these bytes this was written and stands aside, whatever comes behind them
pub record IsComing (told : Told) (asked : Asked) (bytes text aside : List ℕ) (held : HeldLines) (tally : Tally) : Type 0 where
  pub found : List Found
  pub again : List Found
  pub told_so : All (MeetsTold told Path) (sources_of tally)
  pub counted : tally.count ≡ count_of asked found
  pub counted_again : tally.again ≡ count_of asked again
  pub read : LinesAreRead held
  pub bare : annotates asked.to ≡ false → aside ≡ []
  pub goes_on : (given : List ℕ → Held) → Agrees (sources_of tally) given → (more : List ℕ) (pieces : List PieceParts)
      → ArePieces (shapes_of asked) None (to_come held more) pieces → (reads others : List ReadParts)
      → Reads (to_come held more) (fresh asked (seen_of tally) (to_come held more) (named_of asked given tally (to_come held more) pieces)) reads
      → Reads (to_come held more) (repeated asked (seen_of tally) (to_come held more) (named_of asked given tally (to_come held more) pieces)) others
      → GoesOn told asked given (lines_of (bytes ++ more)) (came_of (bytes ++ more)) text aside found again (most_of asked tally)
      (to_come held more) (came_to_come held more) (named_of asked given tally (to_come held more) pieces) (tried_of asked given tally (to_come held more) pieces) reads others

-- this was written of these bytes and stands aside, whatever comes behind them
abbrev pub IsBegun : Told → Asked → List ℕ → List ℕ → List ℕ → Type 0
IsBegun told asked bytes text aside = (held : HeldLines) × (tally : Tally) × IsComing told asked bytes text aside held tally

-- ---- the whole

-- what is written of the whole text, and what stands aside; a finding has the name that it has from the root; findings that are printed again are
-- counted, and not written
pub record IsDrawn (told : Told) (asked : Asked) (bytes text aside : List ℕ) (reached : Bool) : Type 0 where
  pub pieces : List PieceParts
  pub are : ArePieces (shapes_of asked) None (lines_of bytes) pieces
  pub given : List ℕ → Held
  pub tried_so : IsGiven told Path (tried_whole asked given (lines_of bytes) pieces) given
  pub named : List PieceParts
  pub named_is : named ≡ named_whole asked given (lines_of bytes) pieces
  pub reads : List ReadParts
  pub reads_are : Reads (lines_of bytes) (fresh asked none_seen (lines_of bytes) named) reads
  pub others : List ReadParts
  pub others_are : Reads (lines_of bytes) (repeated asked none_seen (lines_of bytes) named) others
  pub told_so : BothGiven told given (lines_of bytes) reads others
  pub found : List Found
  pub reports : found ≡ reports_in (columns_of asked) given (lines_of bytes) reads
  pub again : List Found
  pub repeats : again ≡ reports_in (columns_of asked) given (lines_of bytes) others
  pub drawn : text ≡ written asked given asked.most (lines_of bytes) (came_of bytes) reads ++ ending asked found again
  pub aside_is : aside ≡ aside_text asked (lines_of bytes) named
  pub level : reached ≡ one_reaches asked.fail_on (found ++ again)

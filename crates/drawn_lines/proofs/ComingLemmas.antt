-- What was drawn of the bytes so far, whatever comes behind them.
use Rattle.std.proofs.Common.{◌≡◌, ℕ, ◌+◌, ◌≤◌, ◌||◌, true, false, List, [], ◌∷◌, ◌++◌, length, map, take, drop, Option, None, Result, Ok, Err, Vec, Global, All, refl, sym, ap, ap₂, ◌∙◌, subst, append_assoc, append-nil, arith}
use Rattle.std.specs.Prelude.{IfOk, string_bytes}
use Rattle.std.specs.List.{drop-map}
use Rattle.std.proofs.lemmas.List.{drop-append-le, length-map, map-append, take-append-drop}
use Rattle.std.proofs.lemmas.List.Elements.{All-nil, All-cons, All-head, All-tail, All-append, All-same}
use Rattle.found_reports.specs.Held.{Held}
use Rattle.found_reports.specs.Found.{Found}
use Rattle.found_reports.specs.Listed.{held_in, listed}
use Rattle.found_reports.specs.declared.sources.Source.{Source}
use Rattle.source_store.specs.Given.{IsGiven, IsSaid, MeetsTold, told_of}
use Rattle.source_store.specs.declared.named.Spelling.TheVariants.{Path}
use Rattle.source_store.proofs.GivenLemmas.{listed_said}
use Rattle.line_shapes.specs.Shape.{ShapeParts}
use Rattle.tool_lines.specs.Lines.{ArePieces, PieceParts}
use Rattle.std.proofs.lemmas.List.Folds.{list_any-append}
use Rattle.build_dirs.specs.Again.{Seen, none_seen}
use Rattle.finding_summaries.specs.Counted.{reaches, severity_of}
use Rattle.line_reports.specs.Names.{names_in}
use Rattle.line_reports.specs.Pieces.{AreRead, ReadParts}
use Rattle.line_reports.specs.Reports.{reports_in}
use Rattle.line_reports.proofs.NamesLemmas.{all_front, all_rest, names_behind}
use Rattle.line_reports.proofs.PieceLemmas.{are_read_append, are_read_more, lines_in}
use Rattle.girzohal_options.specs.declared.Asked.{Asked}
use Rattle.drawn_lines.specs.Text.{AreRead as LinesAreRead, came_of, came_to_come, lines_of, read_line, rest_to_come, to_come}
use Rattle.drawn_lines.specs.Again.{fresh, repeated, seen_behind}
use Rattle.drawn_lines.specs.Lines.{aside_text, columns_of, shapes_of, still, written}
use Rattle.build_dirs.specs.Dirs.{DirsParts, no_dirs}
use Rattle.drawn_lines.specs.Named.{Agrees, dirs_behind, named_in, tried_in}
use Rattle.drawn_lines.specs.Coming.{BothGiven, Draws, DrawsNamed, GoesOn, IsComing, IsDrawn, Looks, Reads, Seeks, Told, dirs_of, most_of, named_of, root_of, seen_of, sources_of, tried_of}
use Rattle.drawn_lines.specs.Counts.{count_of, count_with, ending, ending_by, no_count}
use Rattle.drawn_lines.specs.Parting.{waits}
use Rattle.drawn_lines.specs.Seam.{BarePieces, IsFull, IsPart, IsSeam, all_open, span}
use Rattle.drawn_lines.specs.declared.coming.Come.{Come}
use Rattle.drawn_lines.specs.declared.held.HeldLines.{HeldLines}
use Rattle.drawn_lines.specs.declared.seam.Part.{Part}
use Rattle.drawn_lines.specs.declared.count.Count.{Count}
use Rattle.drawn_lines.specs.declared.tally.Tally.{Tally}
use Rattle.drawn_lines.proofs.PlainLemmas.{lines_are}
use Rattle.drawn_lines.proofs.LineLemmas.{aside_parted}
use Rattle.drawn_lines.proofs.NamedLemmas.{agrees_before, named_bare, named_open, named_parted, named_same, named_span, named_waits, tried_in_same, tried_parted}
use Rattle.drawn_lines.proofs.NameLemmas.{agreed_reports, agreed_text}
use Rattle.drawn_lines.proofs.PartLemmas.{reports_parted, lines_span, still_none, still_parts, text_parted}
use Rattle.drawn_lines.proofs.AgainLemmas.{fresh_bare, fresh_open, fresh_parted, fresh_span, repeated_open, repeated_parted, repeated_span}
use Rattle.drawn_lines.proofs.CountLemmas.{counted_append, none_counted}
use Rattle.drawn_lines.proofs.SeamLemmas.{all_bare}

-- ---- names and what is held of them

said_here : (told : Told) (sources : List Source) (given : List ℕ → Held) (names : List (List ℕ)) → All (MeetsTold told Path) sources → Agrees sources given
    → All (λ name. listed sources name ≡ true) names → IsGiven told Path names given
said_here told sources given [] meet agrees all = All-nil (λ name. IsSaid (told_of told Path name) (given name))
said_here told sources given (name ∷ names) meet agrees all =
    let here : listed sources name ≡ true = All-head (λ name. listed sources name ≡ true) name names all in
    All-cons (λ name. IsSaid (told_of told Path name) (given name)) name names
    (subst (IsSaid (told_of told Path name)) (sym (agrees name here)) (listed_said told Path sources name meet here))
    (said_here told sources given names meet agrees (All-tail (λ name. listed sources name ≡ true) name names all))

same_here : (sources : List Source) (given : List ℕ → Held) (names : List (List ℕ)) → Agrees sources given → All (λ name. listed sources name ≡ true) names
    → All (λ name. held_in sources name ≡ given name) names
same_here sources given [] agrees all = All-nil (λ name. held_in sources name ≡ given name)
same_here sources given (name ∷ names) agrees all =
    All-cons (λ name. held_in sources name ≡ given name) name names (sym (agrees name (All-head (λ name. listed sources name ≡ true) name names all)))
    (same_here sources given names agrees (All-tail (λ name. listed sources name ≡ true) name names all))

given_more : (told : Told) (given : List ℕ → Held) (lines more : List (List ℕ)) (here rest : List ReadParts) (count : ℕ) → lines_in here ≡ count → count ≤ length lines
    → IsGiven told Path (names_in lines here) given → IsGiven told Path (names_in (drop count lines ++ more) rest) given → IsGiven told Path (names_in (lines ++ more) (here ++ rest)) given
given_more told given lines more here rest count is within a b =
    let P : List ℕ → Type 0 = λ name. IsSaid (told_of told Path name) (given name) in
    names_behind P lines more here rest (omega (arith, is, within)) a (subst (λ n. All P (names_in (drop n lines ++ more) rest)) (sym is) b)

-- ---- nothing came

-- pieces of lines that are the same are read the same
reads_of : (lines left : List (List ℕ)) (pieces ps : List PieceParts) (reads : List ReadParts) → left ≡ lines → pieces ≡ ps → Reads left pieces reads → Reads lines ps reads
reads_of lines left pieces ps reads lines_are are is =
    record { of_them = is.of_them ∙ are; read = subst (λ ls. AreRead ls reads) lines_are is.read }

whole_goes : (told : Told) (asked : Asked) (given : List ℕ → Held) (lines came left still_came : List (List ℕ)) (most : Option ℕ) (seen : Seen) (dirs : DirsParts) (ps : List PieceParts)
    (reads others : List ReadParts) → left ≡ lines → still_came ≡ came → most ≡ asked.most → seen ≡ none_seen → dirs ≡ no_dirs → ArePieces (shapes_of asked) None left ps
    → Reads left (fresh asked seen left (named_in (root_of asked) given dirs left ps)) reads → Reads left (repeated asked seen left (named_in (root_of asked) given dirs left ps)) others
    → GoesOn told asked given lines came [] [] [] [] most left still_came (named_in (root_of asked) given dirs left ps) (tried_in (root_of asked) given dirs left ps) reads others
whole_goes told asked given lines came left still_came most seen dirs ps reads others lines_are came_are most_is seen_is dirs_is are reads_are others_are =
    let named : List PieceParts = named_in (root_of asked) given dirs left ps in
    record {
      bare = ps;
      are = subst (λ ls. ArePieces (shapes_of asked) None ls ps) lines_are are;
      all = named;
      all_are = ap₂ (λ (d : DirsParts) ls. named_in (root_of asked) given d ls ps) dirs_is lines_are;
      all_reads = reads;
      reads_are = reads_of lines left (fresh asked seen left named) (fresh asked none_seen lines named) reads lines_are (ap₂ (λ (s : Seen) ls. fresh asked s ls named) seen_is lines_are) reads_are;
      all_others = others;
      others_are = reads_of lines left (repeated asked seen left named) (repeated asked none_seen lines named) others lines_are (ap₂ (λ (s : Seen) ls. repeated asked s ls named) seen_is lines_are) others_are;
      drawn =
          ap₂ (λ ls n. written asked given n ls came reads) (sym lines_are) (sym most_is)
          ∙ ap (λ ls. written asked given most left ls reads) (sym came_are);
      stands = ap (λ ls. aside_text asked ls named) (sym lines_are);
      reports = ap (λ ls. reports_in (columns_of asked) given ls reads) (sym lines_are);
      repeats = ap (λ ls. reports_in (columns_of asked) given ls others) (sym lines_are);
      said = λ is. subst (λ ls. BothGiven told given ls reads others) lines_are is;
      tried = λ is. subst (λ names. IsGiven told Path names given) (ap₂ (λ (d : DirsParts) ls. tried_in (root_of asked) given d ls ps) dirs_is lines_are) is;
    }

pub nothing_came : (told : Told) (asked : Asked) (held : HeldLines) (tally : Tally) → ((more : List ℕ) → came_to_come held more ≡ came_of more) → LinesAreRead held
    → tally.count ≡ no_count → tally.again ≡ no_count → seen_of tally ≡ none_seen → sources_of tally ≡ [] → dirs_of tally ≡ no_dirs → IsComing told asked [] [] [] held tally
nothing_came told asked held tally comes read count again seen none dirs =
    record {
      found = [];
      again = [];
      counted_again = again ∙ sym (none_counted asked);
      told_so = All-same (MeetsTold told Path) _ _ none (All-nil (MeetsTold told Path));
      counted = count ∙ sym (none_counted asked);
      read = read;
      bare = λ is. refl;
      goes_on = λ given agrees more ps are reads others reads_are others_are.
          whole_goes told asked given (lines_of more) (came_of more) (to_come held more) (came_to_come held more) (most_of asked tally) (seen_of tally) (dirs_of tally) ps reads others
          (ap (map read_line) (comes more) ∙ lines_are more) (comes more) (ap (λ (c : Count). still asked.most c.total) count ∙ still_none asked.most) seen dirs are reads_are others_are;
    }

pub nothing_drawn : (told : Told) (asked : Asked) (taken text aside none no_line : List ℕ) (held : HeldLines) (tally : Tally) → none ≡ [] → no_line ≡ []
    → IsComing told asked taken text aside held tally → IsComing told asked taken (text ++ none) (aside ++ no_line) held tally
nothing_drawn told asked taken text aside none no_line held tally is aside_is coming =
    subst (λ t. IsComing told asked taken t (aside ++ no_line) held tally) (sym (ap (λ t. text ++ t) is ∙ append-nil text))
    (subst (λ t. IsComing told asked taken text t held tally) (sym (ap (λ t. aside ++ t) aside_is ∙ append-nil aside)) coming)

-- ---- bytes came

pub bytes_came : (told : Told) (asked : Asked) (taken bytes text aside : List ℕ) (held next : HeldLines) (tally : Tally)
    → ((more : List ℕ) → came_to_come next more ≡ came_to_come held (bytes ++ more)) → (LinesAreRead held → LinesAreRead next)
    → IsComing told asked taken text aside held tally → IsComing told asked (taken ++ bytes) text aside next tally
bytes_came told asked taken bytes text aside held next tally comes read coming =
    record {
      found = coming.found;
      again = coming.again;
      told_so = coming.told_so;
      counted = coming.counted;
      counted_again = coming.counted_again;
      read = read coming.read;
      bare = coming.bare;
      goes_on = λ given agrees more ps are reads others reads_are others_are.
          subst (λ whole. GoesOn told asked given (lines_of whole) (came_of whole) text aside coming.found coming.again (most_of asked tally) (to_come next more) (came_to_come next more) (named_of asked given tally (to_come next more) ps) (tried_of asked given tally (to_come next more) ps) reads others)
          (sym (append_assoc taken bytes more))
          (subst (λ ls. GoesOn told asked given (lines_of (taken ++ (bytes ++ more))) (came_of (taken ++ (bytes ++ more))) text aside coming.found coming.again (most_of asked tally) (map read_line ls) ls (named_of asked given tally (map read_line ls) ps) (tried_of asked given tally (map read_line ls) ps) reads others)
          (sym (comes more))
          (coming.goes_on given agrees (bytes ++ more) ps (subst (λ ls. ArePieces (shapes_of asked) None (map read_line ls) ps) (comes more) are) reads others
          (subst (λ ls. Reads (map read_line ls) (fresh asked (seen_of tally) (map read_line ls) (named_of asked given tally (map read_line ls) ps)) reads) (comes more) reads_are)
          (subst (λ ls. Reads (map read_line ls) (repeated asked (seen_of tally) (map read_line ls) (named_of asked given tally (map read_line ls) ps)) others) (comes more) others_are)));
    }

pub come_of : {E : Type 0} (result : Result Come E) (told : Told) (asked : Asked) (bytes : List ℕ) (held next : HeldLines) (tally : Tally)
    → ((more : List ℕ) → came_to_come next more ≡ came_to_come held (bytes ++ more)) → (LinesAreRead held → LinesAreRead next)
    → IfOk result (λ come. (taken text aside : List ℕ) → IsComing told asked taken text aside next tally
    → IsComing told asked taken (text ++ string_bytes come.text) (aside ++ string_bytes come.aside) come.coming.held come.coming.tally)
    → IfOk result (λ come. (taken text aside : List ℕ) → IsComing told asked taken text aside held tally
    → IsComing told asked (taken ++ bytes) (text ++ string_bytes come.text) (aside ++ string_bytes come.aside) come.coming.held come.coming.tally)
come_of (Ok come) told asked bytes held next tally comes read is =
    λ taken text aside coming. is (taken ++ bytes) text aside (bytes_came told asked taken bytes text aside held next tally comes read coming)
come_of (Err why) told asked bytes held next tally comes read is = tt

-- ---- the first pieces are drawn

-- what was read of the first pieces, and then of the others
reads_on : (lines more : List (List ℕ)) (front rest all : List PieceParts) (here there : List ReadParts) → span front ≤ length lines → all ≡ front ++ rest
    → Reads lines front here → Reads (drop (span front) lines ++ more) rest there → Reads (lines ++ more) all (here ++ there)
reads_on lines more front rest all here there within all_are is later =
    let same : lines_in here ≡ span front = lines_span here ∙ ap span is.of_them in
    record {
      of_them = map-append (λ (it : ReadParts). it.piece) here there ∙ ap₂ (λ a b. a ++ b) is.of_them later.of_them ∙ sym all_are;
      read =
          are_read_append (lines ++ more) here there (are_read_more lines more here (omega (arith, within, same)) is.read)
          (subst (λ ls. AreRead ls there) (sym (ap (λ n. drop n (lines ++ more)) same ∙ drop-append-le (span front) lines more within)) later.read);
    }

-- what is written of the first and the others is parted there
reads_text : (asked : Asked) (given : List ℕ → Held) (most : Option ℕ) (lines came more rest : List (List ℕ)) (front ps : List PieceParts) (here there : List ReadParts)
    → span front ≤ length lines → span front ≤ length came → BarePieces front → all_open ps ≡ true → map (λ (it : ReadParts). it.piece) here ≡ front → map (λ (it : ReadParts). it.piece) there ≡ ps
    → written asked given most (lines ++ more) (came ++ rest) (here ++ there)
    ≡ written asked given most lines came here
    ++ written asked given (still most (length (reports_in (columns_of asked) given lines here))) (drop (span front) lines ++ more) (drop (span front) came ++ rest) there
reads_text asked given most lines came more rest front ps here there within room bare is here_is there_is =
    let same : lines_in here ≡ span front = lines_span here ∙ ap span here_is in
    text_parted asked given most lines came more rest here there (omega (arith, within, same)) (omega (arith, room, same)) (subst BarePieces (sym here_is) bare)
    (ap all_open there_is ∙ is)
    ∙ ap (λ n. written asked given most lines came here ++ written asked given (still most (length (reports_in (columns_of asked) given lines here))) (drop n lines ++ more) (drop n came ++ rest) there) same

reads_reports : (asked : Asked) (given : List ℕ → Held) (lines more : List (List ℕ)) (front ps : List PieceParts) (here there : List ReadParts)
    → span front ≤ length lines → all_open ps ≡ true → map (λ (it : ReadParts). it.piece) here ≡ front → map (λ (it : ReadParts). it.piece) there ≡ ps
    → reports_in (columns_of asked) given (lines ++ more) (here ++ there)
    ≡ reports_in (columns_of asked) given lines here ++ reports_in (columns_of asked) given (drop (span front) lines ++ more) there
reads_reports asked given lines more front ps here there within is here_is there_is =
    let same : lines_in here ≡ span front = lines_span here ∙ ap span here_is in
    reports_parted asked given lines more here there (omega (arith, within, same)) (ap all_open there_is ∙ is)
    ∙ ap (λ n. reports_in (columns_of asked) given lines here ++ reports_in (columns_of asked) given (drop n lines ++ more) there) same

front_goes : (told : Told) (asked : Asked) (given : List ℕ → Held) (whole whole_came : List (List ℕ)) (text aside drawn stands : List ℕ) (found again here there : List Found) (most next : Option ℕ)
    (fresh_front fresh_ps rep_front rep_ps : List PieceParts) (now_reads now_others reads others : List ReadParts) (lines came more rest : List (List ℕ)) (front ps : List PieceParts) (tried_here places : List (List ℕ))
    → span front ≤ length lines → span front ≤ length came → BarePieces fresh_front → all_open fresh_ps ≡ true → all_open rep_ps ≡ true → span fresh_front ≡ span front → span rep_front ≡ span front
    → Reads lines fresh_front now_reads → Reads lines rep_front now_others
    → Reads (drop (span front) lines ++ more) fresh_ps reads → Reads (drop (span front) lines ++ more) rep_ps others
    → drawn ≡ written asked given most lines came now_reads → stands ≡ aside_text asked lines front
    → here ≡ reports_in (columns_of asked) given lines now_reads → there ≡ reports_in (columns_of asked) given lines now_others
    → next ≡ still most (length here) → BothGiven told given lines now_reads now_others → IsGiven told Path tried_here given
    → GoesOn told asked given whole whole_came text aside found again most (lines ++ more) (came ++ rest) (front ++ ps) (tried_here ++ places) (now_reads ++ reads) (now_others ++ others)
    → GoesOn told asked given whole whole_came (text ++ drawn) (aside ++ stands) (found ++ here) (again ++ there) next (drop (span front) lines ++ more) (drop (span front) came ++ rest) ps places reads others
front_goes told asked given whole whole_came text aside drawn stands found again here there most next fresh_front fresh_ps rep_front rep_ps now_reads now_others reads others lines came more rest front ps tried_here places within room bare open_fresh open_rep fresh_span_is rep_span_is now_are others_now reads_are others_are drawn_is stands_is here_is there_is next_is said tried_so on =
    let left : List (List ℕ) = drop (span front) lines ++ more in
    let later : List (List ℕ) = drop (span front) came ++ rest in
    let text_left : List ℕ = written asked given next left later reads in
    let found_left : List Found = reports_in (columns_of asked) given left reads in
    let again_left : List Found = reports_in (columns_of asked) given left others in
    let parted : written asked given most (lines ++ more) (came ++ rest) (now_reads ++ reads) ≡ drawn ++ text_left =
    reads_text asked given most lines came more rest fresh_front fresh_ps now_reads reads (omega (arith, within, fresh_span_is)) (omega (arith, room, fresh_span_is)) bare open_fresh now_are.of_them reads_are.of_them
    ∙ ap (λ n. written asked given most lines came now_reads ++ written asked given (still most (length (reports_in (columns_of asked) given lines now_reads))) (drop n lines ++ more) (drop n came ++ rest) reads) fresh_span_is
    ∙ ap₂ (λ d n. d ++ written asked given n left later reads) (sym drawn_is) (ap (λ fs. still most (length fs)) (sym here_is) ∙ sym next_is) in
    let aside_there : aside_text asked (lines ++ more) (front ++ ps) ≡ stands ++ aside_text asked left ps =
    aside_parted asked lines more front ps within ∙ ap (λ t. t ++ aside_text asked left ps) (sym stands_is) in
    let reported : reports_in (columns_of asked) given (lines ++ more) (now_reads ++ reads) ≡ here ++ found_left =
    reads_reports asked given lines more fresh_front fresh_ps now_reads reads (omega (arith, within, fresh_span_is)) open_fresh now_are.of_them reads_are.of_them
    ∙ ap₂ (λ fs n. fs ++ reports_in (columns_of asked) given (drop n lines ++ more) reads) (sym here_is) fresh_span_is in
    let repeats_are : reports_in (columns_of asked) given (lines ++ more) (now_others ++ others) ≡ there ++ again_left =
    reads_reports asked given lines more rep_front rep_ps now_others others (omega (arith, within, rep_span_is)) open_rep others_now.of_them others_are.of_them
    ∙ ap₂ (λ fs n. fs ++ reports_in (columns_of asked) given (drop n lines ++ more) others) (sym there_is) rep_span_is in
    record {
      bare = on.bare;
      are = on.are;
      all = on.all;
      all_are = on.all_are;
      all_reads = on.all_reads;
      reads_are = on.reads_are;
      all_others = on.all_others;
      others_are = on.others_are;
      drawn = on.drawn ∙ (ap (λ t. text ++ t) parted ∙ sym (append_assoc text drawn text_left));
      stands = on.stands ∙ (ap (λ t. aside ++ t) aside_there ∙ sym (append_assoc aside stands (aside_text asked left ps)));
      reports = on.reports ∙ (ap (λ fs. found ++ fs) reported ∙ sym (append_assoc found here found_left));
      repeats = on.repeats ∙ (ap (λ fs. again ++ fs) repeats_are ∙ sym (append_assoc again there again_left));
      said = λ rest.
          on.said (
            given_more told given lines more now_reads reads (span front) (lines_span now_reads ∙ (ap span now_are.of_them ∙ fresh_span_is)) within said.0 rest.0,
            given_more told given lines more now_others others (span front) (lines_span now_others ∙ (ap span others_now.of_them ∙ rep_span_is)) within said.1 rest.1,
          );
      tried = λ rest. on.tried (All-append (λ name. IsSaid (told_of told Path name) (given name)) tried_here places tried_so rest);
    }

-- what is given of these names is what was told
both_here : (told : Told) (sources : List Source) (given : List ℕ → Held) (lines : List (List ℕ)) (reads others : List ReadParts) → All (MeetsTold told Path) sources → Agrees sources given
    → All (λ name. listed sources name ≡ true) (names_in lines reads ++ names_in lines others) → BothGiven told given lines reads others
both_here told sources given lines reads others meet agrees all =
    let L : List ℕ → Type 0 = λ name. listed sources name ≡ true in (
      said_here told sources given (names_in lines reads) meet agrees (all_front L (names_in lines reads) (names_in lines others) all),
      said_here told sources given (names_in lines others) meet agrees (all_rest L (names_in lines reads) (names_in lines others) all),
    )

-- the first lines that came are let go with those that are read
dropped_read : (held next : HeldLines) (count : ℕ) → map (λ line. line.items) next.lines.items ≡ drop count (map (λ line. line.items) held.lines.items)
    → map (λ line. line.items) next.came.items ≡ drop count (map (λ line. line.items) held.came.items) → LinesAreRead held → LinesAreRead next
dropped_read held next count lines came read =
    lines ∙ (ap (drop count) read ∙ (drop-map read_line count (map (λ line. line.items) held.came.items) ∙ ap (map read_line) (sym came)))

-- what is held and then comes, read
read_behind : (held : HeldLines) (rest : List (List ℕ)) → LinesAreRead held
    → map read_line (map (λ line. line.items) held.came.items ++ rest) ≡ map (λ line. line.items) held.lines.items ++ map read_line rest
read_behind held rest read = map-append read_line (map (λ line. line.items) held.came.items) rest ∙ ap (λ ls. ls ++ map read_line rest) (sym read)

as_many : (held : HeldLines) → LinesAreRead held → length (map (λ line. line.items) held.lines.items) ≡ length (map (λ line. line.items) held.came.items)
as_many held read = ap length read ∙ length-map (map (λ line. line.items) held.came.items) read_line

front_drawn : (told : Told) (asked : Asked) (taken text aside drawn stands : List ℕ) (held next : HeldLines) (before now : Tally) (pieces : List PieceParts) (at : ℕ)
    → (let lines : List (List ℕ) = map (λ line. line.items) held.lines.items in let came : List (List ℕ) = map (λ line. line.items) held.came.items in
    ArePieces (shapes_of asked) None lines pieces → IsSeam (shapes_of asked) lines pieces at → waits false lines (take at pieces) ≡ false → DrawsNamed told asked before now lines came (take at pieces) drawn stands
    → map (λ line. line.items) next.lines.items ≡ drop (span (take at pieces)) lines → map (λ line. line.items) next.came.items ≡ drop (span (take at pieces)) came
    → next.tail.items ≡ held.tail.items → next.begun ≡ held.begun → IsComing told asked taken text aside held before → IsComing told asked taken (text ++ drawn) (aside ++ stands) next now)
front_drawn told asked taken text aside drawn stands held next before now pieces at are seam full named_draws lines_left came_left tail_is begun_is coming =
    let lines : List (List ℕ) = map (λ line. line.items) held.lines.items in
    let came : List (List ℕ) = map (λ line. line.items) held.came.items in
    let root : List ℕ = root_of asked in
    let dirs : DirsParts = dirs_of before in
    let seen : Seen = seen_of before in
    let middle : Tally = named_draws.middle in
    let seeks : Seeks told asked before middle lines (take at pieces) named_draws.named = named_draws.seeks in
    let draws : Draws told asked middle now lines came named_draws.named drawn stands = named_draws.draws in
    let first : List PieceParts = take at pieces in
    let front : List PieceParts = named_draws.named in
    let held_middle : List ℕ → Held = held_in (sources_of middle) in
    let span_is : span front ≡ span first = ap span seeks.named_is ∙ named_span root held_middle dirs lines first in
    let lines_are : map (λ line. line.items) next.lines.items ≡ drop (span front) lines = lines_left ∙ ap (λ n. drop n lines) (sym span_is) in
    let came_are : map (λ line. line.items) next.came.items ≡ drop (span front) came = came_left ∙ ap (λ n. drop n came) (sym span_is) in
    let left : List (List ℕ) = drop (span front) lines in
    let later : List (List ℕ) = drop (span front) came in
    let within : span front ≤ length lines = omega (arith, seam.within, span_is) in
    let bare : BarePieces front =
    subst BarePieces (sym seeks.named_is)
    (named_bare root held_middle dirs lines first
    (all_bare (shapes_of asked) None lines first (drop at pieces) (subst (ArePieces (shapes_of asked) None lines) (sym (take-append-drop at pieces)) are))) in
    let told_middle : All (MeetsTold told Path) (sources_of middle) =
    All-same (MeetsTold told Path) _ _ seeks.sources (All-append (MeetsTold told Path) (sources_of before) seeks.more coming.told_so seeks.told_so) in
    let told_all : All (MeetsTold told Path) (sources_of now) =
    All-same (MeetsTold told Path) _ _ draws.sources (All-append (MeetsTold told Path) (sources_of middle) draws.more told_middle draws.told_so) in
    let next_read : LinesAreRead next = dropped_read held next (span front) lines_are came_are coming.read in
    let full_front : waits false lines front ≡ false = ap (waits false lines) seeks.named_is ∙ (named_waits false root held_middle dirs lines first ∙ full) in
    let later_dirs : DirsParts = dirs_behind dirs lines first in
    let dirs_now : dirs_of now ≡ later_dirs = draws.dirs ∙ seeks.dirs in
    let later_seen : Seen = seen_behind asked seen lines front in
    let seen_now : seen_of now ≡ later_seen = draws.seen ∙ ap (λ (s : Seen). seen_behind asked s lines front) seeks.seen in
    let now_reads : Reads lines (fresh asked seen lines front) draws.reads = subst (λ (s : Seen). Reads lines (fresh asked s lines front) draws.reads) seeks.seen draws.reads_are in
    let now_others : Reads lines (repeated asked seen lines front) draws.others = subst (λ (s : Seen). Reads lines (repeated asked s lines front) draws.others) seeks.seen draws.others_are in
    let counted : now.count ≡ count_with before.count (count_of asked draws.found) = draws.counted ∙ ap (λ c. count_with c (count_of asked draws.found)) seeks.count in
    let counted_again : now.again ≡ count_with before.again (count_of asked draws.again) = draws.counted_again ∙ ap (λ c. count_with c (count_of asked draws.again)) seeks.again in
    let text_is : drawn ≡ written asked (held_in (sources_of now)) (most_of asked before) lines came draws.reads =
    draws.text_is ∙ ap (λ (c : Count). written asked (held_in (sources_of now)) (still asked.most c.total) lines came draws.reads) seeks.count in
    record {
      found = coming.found ++ draws.found;
      again = coming.again ++ draws.again;
      counted_again = counted_again ∙ (ap (λ c. count_with c (count_of asked draws.again)) coming.counted_again ∙ sym (counted_append asked coming.again draws.again));
      told_so = told_all;
      counted = counted ∙ (ap (λ c. count_with c (count_of asked draws.found)) coming.counted ∙ sym (counted_append asked coming.found draws.found));
      read = next_read;
      bare = λ is. ap (λ t. t ++ stands) (coming.bare is) ∙ (rw is at draws.aside_is);
      goes_on = λ given agrees more rest_ps comes reads others reads_are others_are.
          let rest : List (List ℕ) = rest_to_come held.begun held.tail.items more in
          let rest_is : rest_to_come next.begun next.tail.items more ≡ rest = ap₂ (λ b t. rest_to_come b t more) begun_is tail_is in
          let these : List (List ℕ) = map read_line rest in
          let whole : List (List ℕ) = lines_of (taken ++ more) in
          let whole_came : List (List ℕ) = came_of (taken ++ more) in
          let next_came : came_to_come next more ≡ later ++ rest = ap₂ (λ ls r. ls ++ r) came_are rest_is in
          let next_is : to_come next more ≡ left ++ these =
          read_behind next (rest_to_come next.begun next.tail.items more) next_read ∙ ap₂ (λ ls r. ls ++ map read_line r) lines_are rest_is in
          let agrees_middle : Agrees (sources_of middle) given = agrees_before (sources_of middle) draws.more (sources_of now) given draws.sources agrees in
          let agrees_first : Agrees (sources_of before) given = agrees_before (sources_of before) seeks.more (sources_of middle) given seeks.sources agrees_middle in
          let same_tried : All (λ name. held_middle name ≡ given name) (tried_in root held_middle dirs lines first) =
          same_here (sources_of middle) given (tried_in root held_middle dirs lines first) agrees_middle seeks.there in
          let front_is : front ≡ named_in root given dirs lines first = seeks.named_is ∙ named_same root held_middle given dirs lines first same_tried in
          let tried_front : List (List ℕ) = tried_in root given dirs lines first in
          let tried_is : tried_in root held_middle dirs lines first ≡ tried_front = tried_in_same root held_middle given dirs lines first same_tried in
          let tried_so : IsGiven told Path tried_front given =
          said_here told (sources_of middle) given tried_front told_middle agrees_middle (subst (All (λ name. listed (sources_of middle) name ≡ true)) tried_is seeks.there) in
          let ps : List PieceParts = named_in root given later_dirs (left ++ these) rest_ps in
          let places : List (List ℕ) = tried_in root given later_dirs (left ++ these) rest_ps in
          let here : ArePieces (shapes_of asked) None (left ++ these) rest_ps = subst (λ ls. ArePieces (shapes_of asked) None ls rest_ps) next_is comes in
          let behind_first : ArePieces (shapes_of asked) None (drop (span first) lines ++ these) rest_ps =
          subst (λ n. ArePieces (shapes_of asked) None (drop n lines ++ these) rest_ps) span_is here in
          let opens_here : all_open ps ≡ true = named_open root given later_dirs (left ++ these) rest_ps (seam.open_behind these rest_ps behind_first) in
          let all_named : named_in root given dirs (lines ++ these) (first ++ rest_ps) ≡ front ++ ps =
          named_parted root given dirs lines these first rest_ps seam.within
          ∙ ap₂ (λ fs n. fs ++ named_in root given later_dirs (drop n lines ++ these) rest_ps) (sym front_is) (sym span_is) in
          let all_tried : tried_in root given dirs (lines ++ these) (first ++ rest_ps) ≡ tried_front ++ places =
          tried_parted root given dirs lines these first rest_ps seam.within
          ∙ ap (λ n. tried_front ++ tried_in root given later_dirs (drop n lines ++ these) rest_ps) (sym span_is) in
          let L : List ℕ → Type 0 = λ name. listed (sources_of now) name ≡ true in
          let new_names : List (List ℕ) = names_in lines draws.reads in
          let old_names : List (List ℕ) = names_in lines draws.others in
          let same : All (λ name. held_in (sources_of now) name ≡ given name) new_names = same_here (sources_of now) given new_names agrees (all_front L new_names old_names draws.there) in
          let same_again : All (λ name. held_in (sources_of now) name ≡ given name) old_names = same_here (sources_of now) given old_names agrees (all_rest L new_names old_names draws.there) in
          let split : to_come held more ≡ lines ++ these = read_behind held rest coming.read in
          let fresh_ps : List PieceParts = fresh asked later_seen (left ++ these) ps in
          let rep_ps : List PieceParts = repeated asked later_seen (left ++ these) ps in
          let reads_left : Reads (left ++ these) fresh_ps reads =
          subst (λ (s : Seen). Reads (left ++ these) (fresh asked s (left ++ these) ps) reads) seen_now
          (subst (λ (d : DirsParts). Reads (left ++ these) (fresh asked (seen_of now) (left ++ these) (named_in root given d (left ++ these) rest_ps)) reads) dirs_now
          (subst (λ ls. Reads ls (fresh asked (seen_of now) ls (named_in root given (dirs_of now) ls rest_ps)) reads) next_is reads_are)) in
          let others_left : Reads (left ++ these) rep_ps others =
          subst (λ (s : Seen). Reads (left ++ these) (repeated asked s (left ++ these) ps) others) seen_now
          (subst (λ (d : DirsParts). Reads (left ++ these) (repeated asked (seen_of now) (left ++ these) (named_in root given d (left ++ these) rest_ps)) others) dirs_now
          (subst (λ ls. Reads ls (repeated asked (seen_of now) ls (named_in root given (dirs_of now) ls rest_ps)) others) next_is others_are)) in
          let fresh_front : List PieceParts = fresh asked seen lines front in
          let rep_front : List PieceParts = repeated asked seen lines front in
          let fresh_same_span : span fresh_front ≡ span front = fresh_span asked seen lines front in
          let rep_same_span : span rep_front ≡ span front = repeated_span asked seen lines front in
          let all_reads : Reads (lines ++ these) (fresh asked seen (lines ++ these) (front ++ ps)) (draws.reads ++ reads) =
          reads_on lines these fresh_front fresh_ps (fresh asked seen (lines ++ these) (front ++ ps)) draws.reads reads (omega (arith, within, fresh_same_span))
          (fresh_parted asked seen lines these front ps within opens_here full_front) now_reads
          (subst (λ n. Reads (drop n lines ++ these) fresh_ps reads) (sym fresh_same_span) reads_left) in
          let all_others : Reads (lines ++ these) (repeated asked seen (lines ++ these) (front ++ ps)) (draws.others ++ others) =
          reads_on lines these rep_front rep_ps (repeated asked seen (lines ++ these) (front ++ ps)) draws.others others (omega (arith, within, rep_same_span))
          (repeated_parted asked seen lines these front ps within opens_here) now_others
          (subst (λ n. Reads (drop n lines ++ these) rep_ps others) (sym rep_same_span) others_left) in
          let on : GoesOn told asked given whole whole_came text aside coming.found coming.again (most_of asked before) (lines ++ these) (came ++ rest) (front ++ ps) (tried_front ++ places) (draws.reads ++ reads) (draws.others ++ others) =
          subst (λ ts. GoesOn told asked given whole whole_came text aside coming.found coming.again (most_of asked before) (lines ++ these) (came ++ rest) (front ++ ps) ts (draws.reads ++ reads) (draws.others ++ others)) all_tried
          (subst (λ fs. GoesOn told asked given whole whole_came text aside coming.found coming.again (most_of asked before) (lines ++ these) (came ++ rest) fs
          (tried_in root given dirs (lines ++ these) (first ++ rest_ps)) (draws.reads ++ reads) (draws.others ++ others)) all_named
          (subst (λ ls. GoesOn told asked given whole whole_came text aside coming.found coming.again (most_of asked before) ls (came ++ rest) (named_in root given dirs ls (first ++ rest_ps))
          (tried_in root given dirs ls (first ++ rest_ps)) (draws.reads ++ reads) (draws.others ++ others)) split
          (coming.goes_on given agrees_first more (first ++ rest_ps)
          (subst (λ ls. ArePieces (shapes_of asked) None ls (first ++ rest_ps)) (sym split) (seam.stays these rest_ps behind_first)) (draws.reads ++ reads) (draws.others ++ others)
          (subst (λ ls. Reads ls (fresh asked seen ls (named_in root given dirs ls (first ++ rest_ps))) (draws.reads ++ reads)) (sym split)
          (subst (λ fs. Reads (lines ++ these) (fresh asked seen (lines ++ these) fs) (draws.reads ++ reads)) (sym all_named) all_reads))
          (subst (λ ls. Reads ls (repeated asked seen ls (named_in root given dirs ls (first ++ rest_ps))) (draws.others ++ others)) (sym split)
          (subst (λ fs. Reads (lines ++ these) (repeated asked seen (lines ++ these) fs) (draws.others ++ others)) (sym all_named) all_others))))) in
          subst (λ ls. GoesOn told asked given whole whole_came (text ++ drawn) (aside ++ stands) (coming.found ++ draws.found) (coming.again ++ draws.again) (most_of asked now) ls (came_to_come next more)
          (named_in root given (dirs_of now) ls rest_ps) (tried_in root given (dirs_of now) ls rest_ps) reads others) (sym next_is)
          (subst (λ ls. GoesOn told asked given whole whole_came (text ++ drawn) (aside ++ stands) (coming.found ++ draws.found) (coming.again ++ draws.again) (most_of asked now) (left ++ these) ls
          (named_in root given (dirs_of now) (left ++ these) rest_ps) (tried_in root given (dirs_of now) (left ++ these) rest_ps) reads others) (sym next_came)
          (subst (λ (d : DirsParts). GoesOn told asked given whole whole_came (text ++ drawn) (aside ++ stands) (coming.found ++ draws.found) (coming.again ++ draws.again) (most_of asked now) (left ++ these) (later ++ rest)
          (named_in root given d (left ++ these) rest_ps) (tried_in root given d (left ++ these) rest_ps) reads others) (sym dirs_now)
          (front_goes told asked given whole whole_came text aside drawn stands coming.found coming.again draws.found draws.again (most_of asked before) (most_of asked now)
          fresh_front fresh_ps rep_front rep_ps draws.reads draws.others reads others lines came these rest front ps tried_front places
          within (omega (arith, within, as_many held coming.read)) (fresh_bare asked seen lines front bare) (fresh_open asked later_seen (left ++ these) ps opens_here)
          (repeated_open asked later_seen (left ++ these) ps opens_here) fresh_same_span rep_same_span now_reads now_others reads_left others_left
          (text_is ∙ agreed_text asked (held_in (sources_of now)) given (most_of asked before) lines came draws.reads same)
          draws.aside_is
          (draws.found_is ∙ agreed_reports asked (held_in (sources_of now)) given lines draws.reads same)
          (draws.again_is ∙ agreed_reports asked (held_in (sources_of now)) given lines draws.others same_again)
          (ap (λ (c : Count). still asked.most c.total) counted ∙ sym (still_parts asked.most before.count.total (length draws.found)))
          (both_here told (sources_of now) given lines draws.reads draws.others told_all agrees draws.there) tried_so on)));
    }

-- ---- what was looked at

looks_are : (told : Told) (asked : Asked) (before now : Tally) (lines came : List (List ℕ)) (pieces front : List PieceParts) (part : Part) (text aside : List ℕ)
    → ArePieces (shapes_of asked) None lines pieces → IsPart (shapes_of asked) lines pieces part → IsFull lines pieces part → front ≡ take part.pieces pieces
    → DrawsNamed told asked before now lines came front text aside → Looks told asked before now lines came text aside part.lines
looks_are told asked before now lines came pieces front part text aside are is full front_is draws =
    record {
      pieces = pieces;
      are = are;
      at = part.pieces;
      seam = is.seam;
      full = full;
      draws = subst (λ ps. DrawsNamed told asked before now lines came ps text aside) front_is draws;
      lines_are = is.lines_are;
    }

pub looks_from : (told : Told) (asked : Asked) (before now : Tally) (shapes : List ShapeParts) (lent lines came : List (List ℕ)) (pieces front : List PieceParts) (part : Part)
    (text aside : List ℕ) → shapes ≡ shapes_of asked → lent ≡ lines → ArePieces shapes None lent pieces → IsPart shapes lent pieces part → IsFull lent pieces part → front ≡ take part.pieces pieces
    → DrawsNamed told asked before now lent came front text aside → Looks told asked before now lines came text aside part.lines
looks_from told asked before now shapes lent lines came pieces front part text aside shapes_is lent_is are is full front_is draws =
    subst (λ ls. Looks told asked before now ls came text aside part.lines) lent_is
    (looks_are told asked before now lent came pieces front part text aside (subst (λ s. ArePieces s None lent pieces) shapes_is are)
    (subst (λ s. IsPart s lent pieces part) shapes_is is) full front_is draws)

pub look_drawn : (told : Told) (asked : Asked) (taken text aside drawn stands : List ℕ) (held next : HeldLines) (before now : Tally) (count : ℕ)
    → Looks told asked before now (map (λ line. line.items) held.lines.items) (map (λ line. line.items) held.came.items) drawn stands count
    → map (λ line. line.items) next.lines.items ≡ drop count (map (λ line. line.items) held.lines.items)
    → map (λ line. line.items) next.came.items ≡ drop count (map (λ line. line.items) held.came.items) → next.tail.items ≡ held.tail.items → next.begun ≡ held.begun
    → IsComing told asked taken text aside held before → IsComing told asked taken (text ++ drawn) (aside ++ stands) next now
look_drawn told asked taken text aside drawn stands held next before now count looks left later tail begun coming =
    front_drawn told asked taken text aside drawn stands held next before now looks.pieces looks.at looks.are looks.seam looks.full looks.draws
    (left ∙ ap (λ n. drop n (map (λ (line : Vec ℕ Global). line.items) held.lines.items)) looks.lines_are)
    (later ∙ ap (λ n. drop n (map (λ (line : Vec ℕ Global). line.items) held.came.items)) looks.lines_are) tail begun coming

-- ---- the end

ending_is : (asked : Asked) (found again : List Found) (count others : Count) → count ≡ count_of asked found → others ≡ count_of asked again
    → ending_by asked count others ≡ ending asked found again
unfolding ending
ending_is asked found again count others is are = ap₂ (ending_by asked) is are

pub all_drawn : (told : Told) (asked : Asked) (taken text aside drawn stands end : List ℕ) (held all : HeldLines) (before now : Tally) (lines : List (List ℕ)) (pieces : List PieceParts)
    → lines ≡ map (λ line. line.items) all.lines.items → map (λ line. line.items) all.came.items ≡ came_to_come held [] → (LinesAreRead held → LinesAreRead all)
    → ArePieces (shapes_of asked) None lines pieces → DrawsNamed told asked before now lines (map (λ line. line.items) all.came.items) pieces drawn stands → end ≡ ending_by asked now.count now.again
    → IsComing told asked taken text aside held before → IsDrawn told asked taken (text ++ (drawn ++ end)) (aside ++ stands) (now.count.reached || now.again.reached)
all_drawn told asked taken text aside drawn stands end held all before now lines pieces lines_are came_are read are named_draws end_is coming =
    let came : List (List ℕ) = map (λ line. line.items) all.came.items in
    let root : List ℕ = root_of asked in
    let dirs : DirsParts = dirs_of before in
    let seen : Seen = seen_of before in
    let middle : Tally = named_draws.middle in
    let seeks : Seeks told asked before middle lines pieces named_draws.named = named_draws.seeks in
    let draws : Draws told asked middle now lines came named_draws.named drawn stands = named_draws.draws in
    let front : List PieceParts = named_draws.named in
    let held_middle : List ℕ → Held = held_in (sources_of middle) in
    let given : List ℕ → Held = held_in (sources_of now) in
    let agrees : Agrees (sources_of now) given = λ name here. refl in
    let agrees_middle : Agrees (sources_of middle) given = agrees_before (sources_of middle) draws.more (sources_of now) given draws.sources agrees in
    let agrees_first : Agrees (sources_of before) given = agrees_before (sources_of before) seeks.more (sources_of middle) given seeks.sources agrees_middle in
    let told_middle : All (MeetsTold told Path) (sources_of middle) =
    All-same (MeetsTold told Path) _ _ seeks.sources (All-append (MeetsTold told Path) (sources_of before) seeks.more coming.told_so seeks.told_so) in
    let told_all : All (MeetsTold told Path) (sources_of now) =
    All-same (MeetsTold told Path) _ _ draws.sources (All-append (MeetsTold told Path) (sources_of middle) draws.more told_middle draws.told_so) in
    let same_tried : All (λ name. held_middle name ≡ given name) (tried_in root held_middle dirs lines pieces) =
    same_here (sources_of middle) given (tried_in root held_middle dirs lines pieces) agrees_middle seeks.there in
    let front_is : front ≡ named_in root given dirs lines pieces = seeks.named_is ∙ named_same root held_middle given dirs lines pieces same_tried in
    let tried_front : List (List ℕ) = tried_in root given dirs lines pieces in
    let tried_is : tried_in root held_middle dirs lines pieces ≡ tried_front = tried_in_same root held_middle given dirs lines pieces same_tried in
    let tried_so : IsGiven told Path tried_front given =
    said_here told (sources_of middle) given tried_front told_middle agrees_middle (subst (All (λ name. listed (sources_of middle) name ≡ true)) tried_is seeks.there) in
    let left : lines ≡ to_come held [] = lines_are ∙ (read coming.read ∙ ap (map read_line) came_are) in
    let now_reads : Reads lines (fresh asked seen lines (named_in root given dirs lines pieces)) draws.reads =
    subst (λ fs. Reads lines (fresh asked seen lines fs) draws.reads) front_is (subst (λ (s : Seen). Reads lines (fresh asked s lines front) draws.reads) seeks.seen draws.reads_are) in
    let now_others : Reads lines (repeated asked seen lines (named_in root given dirs lines pieces)) draws.others =
    subst (λ fs. Reads lines (repeated asked seen lines fs) draws.others) front_is (subst (λ (s : Seen). Reads lines (repeated asked s lines front) draws.others) seeks.seen draws.others_are) in
    let on : GoesOn told asked given (lines_of taken) (came_of taken) text aside coming.found coming.again (most_of asked before) lines came front tried_front draws.reads draws.others =
    subst (λ fs. GoesOn told asked given (lines_of taken) (came_of taken) text aside coming.found coming.again (most_of asked before) lines came fs tried_front draws.reads draws.others) (sym front_is)
    (subst (λ bytes. GoesOn told asked given (lines_of bytes) (came_of bytes) text aside coming.found coming.again (most_of asked before) lines came (named_in root given dirs lines pieces) tried_front draws.reads draws.others) (append-nil taken)
    (subst (λ ls. GoesOn told asked given (lines_of (taken ++ [])) (came_of (taken ++ [])) text aside coming.found coming.again (most_of asked before) lines ls (named_in root given dirs lines pieces) tried_front draws.reads draws.others) (sym came_are)
    (subst (λ ls. GoesOn told asked given (lines_of (taken ++ [])) (came_of (taken ++ [])) text aside coming.found coming.again (most_of asked before) ls (came_to_come held []) (named_in root given dirs ls pieces)
    (tried_in root given dirs ls pieces) draws.reads draws.others) (sym left)
    (coming.goes_on given agrees_first [] pieces
    (subst (λ ls. ArePieces (shapes_of asked) None ls pieces) left are) draws.reads draws.others
    (subst (λ ls. Reads ls (fresh asked seen ls (named_in root given dirs ls pieces)) draws.reads) left now_reads)
    (subst (λ ls. Reads ls (repeated asked seen ls (named_in root given dirs ls pieces)) draws.others) left now_others))))) in
    let found : List Found = coming.found ++ draws.found in
    let again : List Found = coming.again ++ draws.again in
    let counted : now.count ≡ count_of asked found =
    draws.counted ∙ (ap (λ c. count_with c (count_of asked draws.found)) (seeks.count ∙ coming.counted) ∙ sym (counted_append asked coming.found draws.found)) in
    let counted_again : now.again ≡ count_of asked again =
    draws.counted_again ∙ (ap (λ c. count_with c (count_of asked draws.again)) (seeks.again ∙ coming.counted_again) ∙ sym (counted_append asked coming.again draws.again)) in
    let text_is : drawn ≡ written asked given (most_of asked before) lines came draws.reads =
    draws.text_is ∙ ap (λ (c : Count). written asked given (still asked.most c.total) lines came draws.reads) seeks.count in
    record {
      again = again;
      repeats = sym (on.repeats ∙ ap (λ fs. coming.again ++ fs) (sym draws.again_is));
      reads = on.all_reads;
      reads_are = on.reads_are;
      others = on.all_others;
      others_are = on.others_are;
      pieces = on.bare;
      are = on.are;
      named = on.all;
      named_is = on.all_are;
      given = given;
      tried_so = on.tried tried_so;
      told_so = on.said (both_here told (sources_of now) given lines draws.reads draws.others told_all agrees draws.there);
      found = found;
      reports = sym (on.reports ∙ ap (λ fs. coming.found ++ fs) (sym draws.found_is));
      drawn =
          ap₂ (λ d e. text ++ (d ++ e)) text_is (end_is ∙ ending_is asked found again now.count now.again counted counted_again)
          ∙ (sym (append_assoc text (written asked given (most_of asked before) lines came draws.reads) (ending asked found again)) ∙ ap (λ t. t ++ ending asked found again) (sym on.drawn));
      aside_is = ap (λ t. aside ++ t) draws.aside_is ∙ sym on.stands;
      level = ap₂ (λ (a b : Count). a.reached || b.reached) counted counted_again ∙ sym (list_any-append (λ it. reaches asked.fail_on (severity_of it)) found again);
    }

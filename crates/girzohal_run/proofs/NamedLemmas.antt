-- The names of findings in lines that are read whole.
use Rattle.std.proofs.Common.{◌≡◌, ℕ, Bool, true, ◌∷◌, List, [], ◌++◌, length, Option, None, All, refl, sym, ap, ◌∙◌, subst}
use Rattle.std.specs.List.{list_all}
use Rattle.std.specs.Option.{is_none}
use Rattle.std.proofs.lemmas.List.Elements.{All-nil, All-cons, All-head, All-tail}
use Rattle.found_reports.specs.Found.{Found}
use Rattle.found_reports.specs.Held.{Held}
use Rattle.found_reports.specs.Listed.{held_in, listed}
use Rattle.found_reports.specs.declared.sources.Source.{Source}
use Rattle.source_store.specs.Given.{AddsAll, IsGiven, IsSaid, told_of}
use Rattle.source_store.specs.declared.named.Spelling.TheVariants.{Path}
use Rattle.source_store.proofs.GivenLemmas.{given_all}
use Rattle.build_dirs.specs.Dirs.{DirsParts, no_dirs}
use Rattle.tool_lines.specs.Lines.{ArePieces, PieceParts}
use Rattle.line_reports.specs.Names.{names_in}
use Rattle.line_reports.specs.Pieces.{ReadParts}
use Rattle.girzohal_options.specs.declared.Asked.{Asked}
use Rattle.drawn_lines.specs.Coming.{Reads, named_whole, root_of, tried_whole}
use Rattle.drawn_lines.specs.Lines.{shapes_of}
use Rattle.drawn_lines.specs.Named.{Agrees, named_in, names_for, renamed_by, tried_in}
use Rattle.drawn_lines.specs.Text.{lines_of}
use Rattle.line_reports.proofs.NamesLemmas.{all_front as all_left, all_rest as all_right}
use Rattle.drawn_lines.proofs.NamedLemmas.{adds_both, agrees_added, named_same, renamed_none, tried_in_same}
use Rattle.girzohal_run.specs.Finds.{FindsLines, FindsNamed, FindsOld, FindsPieces}
use Rattle.girzohal_run.specs.Lines.{AreNamed, AreSought, ListsLines, ListsNamed, NamesLines, ReadsNamed, WritesPieces}
use Rattle.girzohal_run.specs.Told.{Told}

pub sought_all : (told : Told) (asked : Asked) (before now : List Source) (lines : List (List ℕ)) (pieces : List PieceParts) (names : List (Option (List ℕ))) (dirs : DirsParts)
    → dirs ≡ no_dirs → ((given : List ℕ → Held) → Agrees now given → names ≡ names_for (root_of asked) given dirs lines pieces)
    → ((given : List ℕ → Held) → Agrees now given → AddsAll told Path before now (tried_in (root_of asked) given dirs lines pieces))
    → AreSought told asked before now lines pieces (renamed_by names pieces)
unfolding named_in
sought_all told asked before now lines pieces names dirs none names_are adds =
    let given : List ℕ → Held = held_in now in
    let agrees : Agrees now given = λ name here. refl in
    record {
      tried = subst (λ (d : DirsParts). AddsAll told Path before now (tried_in (root_of asked) given d lines pieces)) none (adds given agrees);
      named_is = ap (λ ns. renamed_by ns pieces) (names_are given agrees ∙ ap (λ (d : DirsParts). names_for (root_of asked) given d lines pieces) none);
    }

same_after : (before : List Source) (given : List ℕ → Held) → Agrees before given → (names : List (List ℕ)) → All (λ name. listed before name ≡ true) names
    → All (λ name. held_in before name ≡ given name) names
same_after before given agrees [] all = All-nil (λ name. held_in before name ≡ given name)
same_after before given agrees (name ∷ rest) all =
    All-cons (λ name. held_in before name ≡ given name) name rest (sym (agrees name (All-head (λ name. listed before name ≡ true) name rest all)))
    (same_after before given agrees rest (All-tail (λ name. listed before name ≡ true) name rest all))

-- the names were sought, and then the sources of all were added
names_lines : (told : Told) (asked : Asked) (bytes : List ℕ) (first middle now : List Source) (lines : List (List ℕ)) (pieces named : List PieceParts) (reads : List ReadParts)
    → first ≡ [] → lines ≡ lines_of bytes → ArePieces (shapes_of asked) None lines pieces → AreSought told asked first middle lines pieces named
    → ReadsNamed told middle now lines named reads → NamesLines told asked bytes (held_in now) named reads
names_lines told asked bytes first middle now lines pieces named reads none lines_are are sought read =
    let asked_for : List (List ℕ) = names_in lines reads in
    let adds : AddsAll told Path middle now asked_for = read.adds in
    let given : List ℕ → Held = held_in now in
    let agrees : Agrees now given = λ name here. refl in
    let agrees_middle : Agrees middle given = agrees_added told middle now asked_for given adds agrees in
    let tried_before : List (List ℕ) = tried_whole asked (held_in middle) lines pieces in
    let same : All (λ name. held_in middle name ≡ given name) tried_before = same_after middle given agrees_middle tried_before sought.tried.there in
    let tried_is : tried_before ≡ tried_whole asked given lines pieces = tried_in_same (root_of asked) (held_in middle) given no_dirs lines pieces same in
    let named_is : named ≡ named_whole asked given lines pieces = sought.named_is ∙ named_same (root_of asked) (held_in middle) given no_dirs lines pieces same in
    let all : AddsAll told Path first now (tried_before ++ asked_for) = adds_both told first middle now tried_before asked_for sought.tried adds in
    let said : IsGiven told Path (tried_before ++ asked_for) given = given_all told Path first now (tried_before ++ asked_for) none all in
    let tried_so : IsGiven told Path tried_before given = all_left (λ name. IsSaid (told_of told Path name) (given name)) tried_before asked_for said in
    let told_so : IsGiven told Path asked_for given = all_right (λ name. IsSaid (told_of told Path name) (given name)) tried_before asked_for said in
    record {
      are = record {
        pieces = pieces;
        are = subst (λ ls. ArePieces (shapes_of asked) None ls pieces) lines_are are;
        tried_so = subst (λ ls. IsGiven told Path (tried_whole asked given ls pieces) given) lines_are (subst (λ names. IsGiven told Path names given) tried_is tried_so);
        named_is = subst (λ ls. named ≡ named_whole asked given ls pieces) lines_are named_is;
      };
      reads_are = subst (λ ls. Reads ls named reads) lines_are read.reads_are;
      told_so = subst (λ ls. IsGiven told Path (names_in ls reads) given) lines_are told_so;
    }

pub lists_lines : (told : Told) (asked : Asked) (bytes text aside : List ℕ) (reached : Bool) (first middle : List Source) (lines : List (List ℕ)) (pieces named : List PieceParts)
    → first ≡ [] → lines ≡ lines_of bytes → ArePieces (shapes_of asked) None lines pieces → AreSought told asked first middle lines pieces named
    → ListsNamed told asked middle lines named text aside reached → ListsLines told asked bytes text aside reached
lists_lines told asked bytes text aside reached first middle lines pieces named none lines_are are sought lists =
    record {
      given = held_in lists.now;
      named = named;
      reads = lists.reads;
      names = names_lines told asked bytes first middle lists.now lines pieces named lists.reads none lines_are are sought lists.named;
      writes = subst (λ ls. WritesPieces asked (held_in lists.now) ls named lists.reads text aside reached) lines_are lists.writes;
    }

-- the names were sought with one store, and the sources of all were added by another
pub finds_old : (places told : Told) (asked : Asked) (bytes : List ℕ) (found : List Found) (aside : List ℕ) (first middle none : List Source) (lines : List (List ℕ)) (pieces named : List PieceParts)
    → first ≡ [] → none ≡ [] → lines ≡ lines_of bytes → ArePieces (shapes_of asked) None lines pieces → AreSought places asked first middle lines pieces named
    → FindsNamed told asked none lines named found aside → FindsOld places told asked bytes found aside
finds_old places told asked bytes found aside first middle none lines pieces named no_first no_source lines_are are sought finds =
    let given : List ℕ → Held = held_in middle in
    let tried : List (List ℕ) = tried_whole asked given lines pieces in
    let said : IsGiven places Path tried given = given_all places Path first middle tried no_first sought.tried in
    record {
      given = given;
      named = named;
      are = record {
        pieces = pieces;
        are = subst (λ ls. ArePieces (shapes_of asked) None ls pieces) lines_are are;
        tried_so = subst (λ ls. IsGiven places Path (tried_whole asked given ls pieces) given) lines_are said;
        named_is = subst (λ ls. named ≡ named_whole asked given ls pieces) lines_are sought.named_is;
      };
      finds = subst (λ ls. FindsNamed told asked [] ls named found aside) lines_are (subst (λ sources. FindsNamed told asked sources lines named found aside) no_source finds);
    }

pub finds_lines : (told : Told) (asked : Asked) (bytes : List ℕ) (found : List Found) (aside : List ℕ) (first middle : List Source) (lines : List (List ℕ)) (pieces named : List PieceParts)
    → first ≡ [] → lines ≡ lines_of bytes → ArePieces (shapes_of asked) None lines pieces → AreSought told asked first middle lines pieces named
    → FindsNamed told asked middle lines named found aside → FindsLines told asked bytes found aside
finds_lines told asked bytes found aside first middle lines pieces named none lines_are are sought finds =
    record {
      given = held_in finds.now;
      named = named;
      reads = finds.reads;
      names = names_lines told asked bytes first middle finds.now lines pieces named finds.reads none lines_are are sought finds.named;
      finds = subst (λ ls. FindsPieces asked (held_in finds.now) ls named finds.reads found aside) lines_are finds.finds;
    }

pub sought_kept : (told : Told) (asked : Asked) (first middle : List Source) (lines : List (List ℕ)) (pieces : List PieceParts) (names : List (Option (List ℕ)))
    → AreSought told asked first middle lines pieces (renamed_by names pieces) → length names ≡ length pieces → true ≡ list_all is_none names → AreSought told asked first middle lines pieces pieces
sought_kept told asked first middle lines pieces names sought each none = subst (AreSought told asked first middle lines pieces) (renamed_none names pieces each (sym none)) sought

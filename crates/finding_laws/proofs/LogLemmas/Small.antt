-- Reports that stand in their files have numbers of 64 bits.
use Rattle.std.proofs.Common.{◌≡◌, ℕ, ◌+◌, ◌<◌, ◌≤◌, List, [], ◌∷◌, length, get_or, take, ◌++◌, subst, sym, arith}
use Rattle.std.specs.List.{All}
use Rattle.std.proofs.lemmas.List.Elements.{All-cons, All-get_or, All-head, All-nil, All-tail}
use Rattle.std.proofs.lemmas.List.{take_all, take_more}
use Rattle.codespan.specs.Texts.{Fits, NamedText, file_at, text_of}
use Rattle.oxc_span.specs.Label.{Label, label_end}
use Rattle.oxc_windows.specs.Rows.{row_of}
use Rattle.source_location.specs.Breaks.{breaks_of}
use Rattle.source_location.specs.Locations.{counted_from, location_of}
use Rattle.source_location.proofs.CharactersLemmas.{char_count-le-offset}
use Rattle.oxc_protocol.proofs.PlaceLemmas.{row_small}
use Rattle.render_files.specs.Given.{GivenReport}
use Rattle.render_files.specs.Shown.{placed_labels}
use Rattle.sarif_writing.specs.Written.{Stands, StandsInFile}
use Rattle.finding_laws.specs.Logs.Meant.{IsSource}
use Rattle.finding_laws.proofs.LogLemmas.Part.{AreSmall, IsSmall}
use Rattle.finding_laws.proofs.LogLemmas.Report.{IsSmallReport}

location_small : (text : List ℕ) (o : ℕ) → Fits text → o ≤ length text → AreSmall (location_of text o)
unfolding location_of
location_small text o short within =
    record {
      row = omega (arith, row_small text o, short);
      column = omega (arith, char_count-le-offset text (counted_from text (row_of (breaks_of text) o)) o, short, within);
    }

label_small : (text : List ℕ) (it : Label) → Fits text → Stands text it → IsSmall text it
label_small text it short stands =
    record { start = location_small text it.offset short stands.start.0; end = location_small text (label_end it) short stands.end.0 }

labels_small : (text : List ℕ) (labels : List Label) → Fits text → All (Stands text) labels → All (IsSmall text) labels
labels_small text [] short all = All-nil (IsSmall text)
labels_small text (it ∷ rest) short all =
    All-cons (IsSmall text) it rest (label_small text it short (All-head (Stands text) it rest all)) (labels_small text rest short (All-tail (Stands text) it rest all))

report_small : (files : List NamedText) (it : GivenReport) → length files ≤ 4294967295 → All IsSource files → StandsInFile files it → IsSmallReport files it
report_small files it few texts stands =
    let nothing : NamedText = record { name = []; text = [] } in
    record {
      file = omega (arith, few, stands.held);
      labels = labels_small (text_of files it.file) (placed_labels files it) (All-get_or IsSource files it.file nothing stands.held texts).short stands.labels;
    }

pub reports_small : (files : List NamedText) (its : List GivenReport) → length files ≤ 4294967295 → All IsSource files → All (StandsInFile files) its → All (IsSmallReport files) its
reports_small files [] few texts all = All-nil (IsSmallReport files)
reports_small files (it ∷ its) few texts all =
    All-cons (IsSmallReport files) it its (report_small files it few texts (All-head (StandsInFile files) it its all))
    (reports_small files its few texts (All-tail (StandsInFile files) it its all))

-- ---- each file's text is a source, as it is looked at

pub no_sources : (files : List NamedText) → All IsSource (take 0 files)
no_sources files = All-nil IsSource

sources_behind : (its : List NamedText) (it : NamedText) → All IsSource its → IsSource it → All IsSource (its ++ it ∷ [])
sources_behind [] it all is = All-cons IsSource it [] is (All-nil IsSource)
sources_behind (first ∷ rest) it all is = All-cons IsSource first (rest ++ it ∷ []) (All-head IsSource first rest all) (sources_behind rest it (All-tail IsSource first rest all) is)

pub more_sources : (files : List NamedText) (i file : ℕ) → i < length files → file ≡ i → All IsSource (take i files) → IsSource (file_at files file) → All IsSource (take (i + 1) files)
more_sources files i file within same all is =
    let nothing : NamedText = record { name = []; text = [] } in
    subst (All IsSource) (sym (take_more files i nothing within)) (sources_behind (take i files) (get_or files i nothing) all (subst (λ n. IsSource (get_or files n nothing)) same is))

pub all_sources : (files : List NamedText) (i : ℕ) → length files ≤ i → All IsSource (take i files) → All IsSource files
all_sources files i past all = subst (All IsSource) (take_all i files past) all

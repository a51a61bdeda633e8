-- Reports that were found, as a document shows them.
use Rattle.std.proofs.Common.{◌≡◌, ℕ, ◌+◌, ◌<◌, Bool, true, false, cond, nat_lt, List, [], ◌∷◌, ◌++◌, length, map, take, get_or, Option, Some, None, All, refl, sym, ap, ap₂, ◌∙◌, subst, arith}
use Rattle.std.specs.List.{AllZip}
use Rattle.std.specs.Option.{option_or}
use Rattle.std.proofs.lemmas.Bool.{lt-ltb}
use Rattle.std.proofs.lemmas.List.{length-map, get_or-map, map-append, take_more}
use Rattle.std.proofs.lemmas.List.Elements.{All-head, All-tail, All-push}
use Rattle.codespan.specs.Texts.{NamedText, file_at as text_at, text_of, name_of}
use Rattle.oxc_protocol.specs.Parts.{Parts, parts_with}
use Rattle.found_reports.specs.declared.reports.FoundFile.{FoundFile}
use Rattle.found_reports.specs.declared.reports.FoundReport.{FoundReport}
use Rattle.found_reports.specs.Held.{lacks, held_text}
use Rattle.found_reports.specs.declared.sources.Lack.TheVariants.{Missing}
use Rattle.found_reports.specs.Found.{Found, NamedHeld, file_at, found_on}
use Rattle.found_reports.specs.Kept.{FoundParts, Stands, file_view, report_view}
use Rattle.render_files.specs.declared.places.ReportError.{ReportError}
use Rattle.render_files.specs.declared.places.ReportError.TheVariants.{UnknownFile}
use Rattle.render_files.specs.Given.{GivenReport}
use Rattle.render_files.specs.Refusal.{first_at, outside, reversed, refusal_in, refusal_of}
use Rattle.render_files.specs.Shown.{placed, placed_labels, view_of}
use Rattle.documents.specs.Document.{Document}
use Rattle.shown_reports.specs.Shown.{breaks_held, breaks_shown, shown_file, shown_source, shown_text, shown_view, shown_label, label_by_bytes, shown_parts, IsShownAs, IsShown}
use Rattle.shown_reports.specs.Standing.{KeepsFile, shown_as}
use Rattle.shown_reports.proofs.StandingLemmas as standing

-- the file with a number, as contracts see it
pub file_viewed : (held : List FoundFile) (at : ℕ) (file : FoundFile) → file ≡ get_or held at file → at < length held
    → file_at (map file_view held) at ≡ file_view file
file_viewed held at file is within =
    get_or-map file_view held at file (record { name = []; held = lacks Missing }) within ∙ ap file_view (sym is)

-- the file with a number, as it is shown
file_shown : (raw : Bool) (held : List NamedHeld) (at : ℕ) → at < length held → text_at (map (shown_file raw) held) at ≡ shown_file raw (file_at held at)
file_shown raw held at within = get_or-map (shown_file raw) held at (record { name = []; held = lacks Missing }) (record { name = []; text = [] }) within

text_shown : (raw : Bool) (held : List NamedHeld) (at : ℕ) → at < length held
    → text_of (map (shown_file raw) held) at ≡ shown_source raw (held_text (file_at held at).held)
unfolding shown_file
text_shown raw held at within = ap (λ (file : NamedText). file.text) (file_shown raw held at within)

-- ---- one report

-- its labels stand in the text that is shown of its file
labels_stand : (raw : Bool) (held : List NamedHeld) (report : FoundReport) → Stands held report → All (KeepsFile raw) held
    → All (standing.Stands (text_of (map (shown_file raw) held) report.file)) report.diagnostic.labels
labels_stand raw held report stands keeps =
    rw (text_shown raw held report.file stands.held)
    (standing.all_stand raw (file_at held report.file).held report.diagnostic.labels stands.labels (keeps report.file (record { name = []; held = lacks Missing }) stands.held))

is_shown_as : (raw : Bool) (held : List NamedHeld) (report : FoundReport) → Stands held report
    → IsShownAs raw held (report_view held report) (shown_as raw held report)
unfolding shown_as
is_shown_as raw held report stands = record { held = stands.held; on = refl; said = refl; labels = refl }

accepted : (raw : Bool) (held : List NamedHeld) (at : ℕ) (report : FoundReport) → Stands held report → All (KeepsFile raw) held
    → refusal_in (map (shown_file raw) held) at (shown_as raw held report) ≡ None
unfolding refusal_in shown_as
accepted raw held at report stands keeps =
    let files = map (shown_file raw) held in
    let text = text_of files report.file in
    let stand = labels_stand raw held report stands keeps in
    let there : nat_lt report.file (length files) ≡ true = lt-ltb report.file (length files) (omega (arith, length-map held (shown_file raw), stands.held)) in
    rw (there, standing.none_outside text raw at 0 report.diagnostic.labels stand) (standing.none_reversed text raw at 0 report.diagnostic.labels stand)

view_shown : (raw : Bool) (held : List NamedHeld) (report : FoundReport) → Stands held report → All (KeepsFile raw) held
    → view_of (map (shown_file raw) held) (shown_as raw held report) ≡ shown_view raw (report_view held report)
unfolding shown_as shown_view placed_labels shown_file
view_shown raw held report stands keeps =
    let files = map (shown_file raw) held in
    let it = report_view held report in
    let file : text_at files report.file ≡ shown_file raw (file_at held report.file) = file_shown raw held report.file stands.held in
    let labels = standing.all_placed (text_of files report.file) raw report.diagnostic.labels (labels_stand raw held report stands keeps) in
    ap₂ (λ (f : NamedText) ls. record (parts_with (shown_parts raw it) (Some (record { bytes = f.text; name = Some f.name }))) { labels = ls }) file labels

-- ---- all of them

all_shown_as : (raw : Bool) (held : List NamedHeld) (reports : List FoundReport) → All (Stands held) reports
    → AllZip (IsShownAs raw held) (map (report_view held) reports) (map (shown_as raw held) reports)
all_shown_as raw held [] stand = tt
all_shown_as raw held (report ∷ rest) stand =
    (is_shown_as raw held report (All-head (Stands held) report rest stand), all_shown_as raw held rest (All-tail (Stands held) report rest stand))

all_accepted : (raw : Bool) (held : List NamedHeld) (at : ℕ) (reports : List FoundReport) → All (Stands held) reports → All (KeepsFile raw) held
    → first_at (refusal_in (map (shown_file raw) held)) at (map (shown_as raw held) reports) ≡ None
all_accepted raw held at [] stand keeps = refl
all_accepted raw held at (report ∷ rest) stand keeps =
    rw (accepted raw held at report (All-head (Stands held) report rest stand) keeps)
    (all_accepted raw held (at + 1) rest (All-tail (Stands held) report rest stand) keeps)

all_views : (raw : Bool) (held : List NamedHeld) (reports : List FoundReport) → All (Stands held) reports → All (KeepsFile raw) held
    → map (view_of (map (shown_file raw) held)) (map (shown_as raw held) reports) ≡ map (shown_view raw) (map (report_view held) reports)
all_views raw held [] stand keeps = refl
all_views raw held (report ∷ rest) stand keeps =
    ap₂ (λ x xs. x ∷ xs) (view_shown raw held report (All-head (Stands held) report rest stand) keeps)
    (all_views raw held rest (All-tail (Stands held) report rest stand) keeps)

shown_from : (raw : Bool) (held : List NamedHeld) (reports : List FoundReport) → All (Stands held) reports → All (KeepsFile raw) held
    → IsShown raw (record { files = held; found = map (report_view held) reports })
    (record { files = map (shown_file raw) held; reports = map (shown_as raw held) reports })
unfolding refusal_of
shown_from raw held reports stand keeps =
    record {
      files = refl;
      reports = all_shown_as raw held reports stand;
      accepted = all_accepted raw held 0 reports stand keeps;
      views = all_views raw held reports stand keeps;
    }

pub shown_is : (raw : Bool) (found : FoundParts) (held : List NamedHeld) (reports : List FoundReport) (document : Document)
    → held ≡ found.files → map (report_view found.files) reports ≡ found.found → All (Stands found.files) reports
    → All (KeepsFile raw) held → document.files ≡ map (shown_file raw) held → document.reports ≡ map (shown_as raw held) reports
    → IsShown raw found document
shown_is raw found held reports document files is stand keeps shown placed =
    let same : (record { files = held; found = map (report_view held) reports }) ≡ found =
    ap₂ (λ fs rs. record { files = fs; found = rs }) files (ap (λ fs. map (report_view fs) reports) files ∙ is) in
    subst (λ it. IsShown raw found it) (ap₂ (λ fs rs. record { files = fs; reports = rs }) (sym shown) (sym placed))
    (subst (λ it. IsShown raw it (record { files = map (shown_file raw) held; reports = map (shown_as raw held) reports })) same
    (shown_from raw held reports (subst (λ fs. All (Stands fs) reports) (sym files) stand) keeps))

-- the rows of the files
pub rows_shown : (raw : Bool) (held : List NamedHeld) → All (KeepsFile raw) held → map breaks_shown (map (shown_file raw) held) ≡ map breaks_held held
unfolding shown_file
rows_shown raw [] keeps = refl
rows_shown raw (file ∷ rest) keeps =
    ap₂ (λ x xs. x ∷ xs) (All-head (KeepsFile raw) file rest keeps).rows (rows_shown raw rest (All-tail (KeepsFile raw) file rest keeps))

-- one file more keeps its places
pub places_more : (raw : Bool) (held : List FoundFile) (at : ℕ) (file : FoundFile) → at < length held → file ≡ get_or held at file
    → All (KeepsFile raw) (map file_view (take at held)) → KeepsFile raw (file_view file) → All (KeepsFile raw) (map file_view (take (at + 1) held))
places_more raw held at file within is all keeps =
    let next : take (at + 1) held ≡ take at held ++ file ∷ [] = take_more held at file within ∙ ap (λ x. take at held ++ x ∷ []) (sym is) in
    subst (All (KeepsFile raw)) (sym (ap (map file_view) next ∙ map-append file_view (take at held) (file ∷ [])))
    (All-push (KeepsFile raw) (map file_view (take at held)) (file_view file) all keeps)

-- What is written is read back as the same files and reports.
use Rattle.std.proofs.Common.{◌≡◌, ◌≢◌, ℕ, suc, ◌<◌, ◌≤◌, ◌^◌, ◌-◌, ◌+◌, List, [], ◌∷◌, ◌++◌, append_assoc, append-nil, length, map, get_or, take, drop, Vec, Global, All, Bool, true, false, true≢false, ◌&&◌, if◌then◌else◌, nat_le, nat_lt, bytes_eq, codes, is_some, Option, Some, None, option_map, option_and_then, unwrap_or, Ordering, Less, Equal, Greater, nat_cmp, refl, sym, ap, ap₂, subst, ◌∙◌, arith}
use Rattle.std.proofs.lemmas.Bool.{lt-ltb, le-leb}
use Rattle.std.proofs.Math.Seq.{drop-cons}
use Rattle.std.proofs.lemmas.List.{drop_all, map_push, take_all}
use Rattle.std.proofs.lemmas.List.Folds.{list_all-map}
use Rattle.std.proofs.lemmas.List.Elements.{All-head, All-map, All-more, All-tail}
use Rattle.std.proofs.lemmas.Slice.Eq.{bytes_eq-Decides}
use Rattle.std.specs.Cmp.Lexicographic.{slice_cmp}
use Rattle.std.specs.List.{list_all, list_any}
use Rattle.std.specs.Option.{option_or}
use Rattle.std.specs.Ordering.{match_ordering}
use Rattle.std.specs.Str.{IsUtf8}
use Rattle.serde_json.specs.Data.{Data, string, array, object, Members, no_members, member, put, depth}
use Rattle.serde_json.specs.Find.{get_member}
use Rattle.serde_json.specs.Read.{read}
use Rattle.serde_json.specs.View.{items_of, view}
use Rattle.serde_json.specs.declared.value.Value.{Value, Array}
use Rattle.serde_json.proofs.OnLiterals.{serde_json_on_literals}
use Rattle.serde_json.proofs.Views.{get_member-put, get_member-put_other, view-Array}
use Rattle.source_location.specs.declared.SourceLocation.{SourceLocation}
use Rattle.codespan.specs.Texts.{NamedText, Fits}
use Rattle.oxc_protocol.specs.declared.protocol.Severity.{Severity}
use Rattle.oxc_protocol.specs.declared.protocol.Severity.TheVariants.{Advice, Warning, Error}
use Rattle.render_files.specs.declared.places.LabelPlace.{LabelPlace}
use Rattle.render_files.specs.declared.places.LabelPlace.TheVariants.{Rows, Bytes}
use Rattle.render_files.specs.declared.places.FileReport.{FileReport}
use Rattle.render_files.specs.declared.places.PlaceLabel.{PlaceLabel}
use Rattle.render_files.specs.Given.{GivenLabel, GivenReport, given_label, given_report}
use Rattle.documents.specs.declared.document.Version.{Version}
use Rattle.documents.specs.declared.document.Version.TheVariants.{One, Two}
use Rattle.documents.specs.Kinds.{Key, all_of, bytes_pair, is_allowed, only_keys, pair_of, place, severity, some_text, text, truth, whole}
use Rattle.documents.specs.Document.{Document, byte_keys, document_keys, document_of, file, files_in, form_of, label, label_by_bytes, label_by_rows, labels, report, report_keys, reports_in, row_keys, version_in}
use Rattle.documents.specs.Written.{FitsDocument, HavePlaces, IsLocation, IsPlace, allows, allows_labels, document_value, file_value, label_value, labels_value, location_value, place_members, primary_value, put_some, report_value, said_members, severity_value, text_value, two_numbers, version_value, whole_number}
use Rattle.documents.proofs.KindLemmas.{document_read, either_kind, rows_refused}
use Rattle.documents.proofs.PlainLemmas.{shallow}
use Rattle.std.proofs.lemmas.Bool.{and_parts as both_true}
use Rattle.base_lemmas.proofs.Choices.{if_same}

-- ---- members with one more

put_at : (b : Bool) (q k : List ℕ) (d : Data) (ms : Members) → bytes_eq q k ≡ b
    → get_member q (put k d ms) ≡ (if b then Some d else get_member q ms)
put_at true q k d ms is = let same : q ≡ k = (bytes_eq-Decides q k).0 is in rw same (get_member-put k d ms)
put_at false q k d ms is =
    get_member-put_other q k d ms (λ same. true≢false (sym ((bytes_eq-Decides q k).1 same) ∙ is))

get_put : (q k : List ℕ) (d : Data) (ms : Members)
    → get_member q (put k d ms) ≡ (if bytes_eq q k then Some d else get_member q ms)
get_put q k d ms = put_at (bytes_eq q k) q k d ms refl

get_put_some : (q k : List ℕ) (o : Option Data) (ms : Members)
    → get_member q (put_some k o ms) ≡ (if bytes_eq q k then option_or o (get_member q ms) else get_member q ms)
get_put_some q k None ms = sym (if_same (bytes_eq q k) (get_member q ms))
get_put_some q k (Some d) ms = get_put q k d ms

only_put_at : (o : Ordering) (keys : List Key) (k l : List ℕ) (d e : Data) (ms : Members)
    → list_any (λ key. bytes_eq key.name k) keys ≡ true
    → only_keys keys (put k d ms) ≡ only_keys keys ms
    → only_keys keys (match_ordering o (member k d (member l e ms)) (member l d ms) (member l e (put k d ms)))
    ≡ only_keys keys (member l e ms)
only_put_at Less keys k l d e ms known more = rw known refl
only_put_at Equal keys k l d e ms known more = refl
only_put_at Greater keys k l d e ms known more = ap (λ rest. list_any (λ key. bytes_eq key.name l) keys && rest) more

-- a key of the table more
only_put : (keys : List Key) (k : List ℕ) (d : Data) (ms : Members) → list_any (λ key. bytes_eq key.name k) keys ≡ true
    → only_keys keys (put k d ms) ≡ only_keys keys ms
only_put keys k d no_members known = rw known refl
only_put keys k d (member l e ms) known =
    only_put_at (slice_cmp nat_cmp k l) keys k l d e ms known (only_put keys k d ms known)

only_put_some : (keys : List Key) (k : List ℕ) (o : Option Data) (ms : Members) → list_any (λ key. bytes_eq key.name k) keys ≡ true
    → only_keys keys (put_some k o ms) ≡ only_keys keys ms
only_put_some keys k None ms known = refl
only_put_some keys k (Some d) ms known = only_put keys k d ms known

-- ---- values

whole_back : (least most n : ℕ) → least ≤ n → n ≤ most → whole least most (whole_number n) ≡ Some n
whole_back least most n low high = rw (le-leb least n low, le-leb n most high) refl

place_back : (it : SourceLocation) → IsLocation it → place (location_value it) ≡ Some it
place_back it within =
    rw (whole_back 1 (2 ^ 32 - 1) it.row within.0.0 (omega (arith, within.0.1)), whole_back 1 (2 ^ 32 - 1) it.column within.1.0 (omega (arith, within.1.1))) refl

bytes_back : (start end : ℕ) → start < 2 ^ 32 → end < 2 ^ 32 → bytes_pair (two_numbers start end) ≡ Some (start, end)
bytes_back start end low high = rw (whole_back 0 (2 ^ 32 - 1) start (omega arith) (omega arith), whole_back 0 (2 ^ 32 - 1) end (omega arith) (omega arith)) refl

text_allowed : (it : Option (List ℕ)) → is_allowed text (text_value it) ≡ true
text_allowed None = refl
text_allowed (Some bytes) = refl

text_back : (it : Option (List ℕ)) → option_and_then text (text_value it) ≡ it
text_back None = refl
text_back (Some bytes) = refl

some_text_allowed : (it : Option (List ℕ)) → it ≢ Some [] → is_allowed some_text (text_value it) ≡ true
some_text_allowed None filled = refl
some_text_allowed (Some []) filled = absurd (filled refl)
some_text_allowed (Some (byte ∷ bytes)) filled = rw (lt-ltb 0 (length (byte ∷ bytes)) (omega arith)) refl

some_text_back : (it : Option (List ℕ)) → it ≢ Some [] → option_and_then some_text (text_value it) ≡ it
some_text_back None filled = refl
some_text_back (Some []) filled = absurd (filled refl)
some_text_back (Some (byte ∷ bytes)) filled = rw (lt-ltb 0 (length (byte ∷ bytes)) (omega arith)) refl

truth_allowed : (it : Bool) → is_allowed truth (primary_value it) ≡ true
truth_allowed true = refl
truth_allowed false = refl

truth_back : (it : Bool) → unwrap_or (option_and_then truth (primary_value it)) false ≡ it
truth_back true = refl
truth_back false = refl

severity_allowed : (it : Severity) → is_allowed severity (severity_value it) ≡ true
severity_allowed Advice = refl
severity_allowed Warning = refl
severity_allowed Error = refl

severity_back : (it : Severity) → unwrap_or (option_and_then severity (severity_value it)) Error ≡ it
severity_back Advice = refl
severity_back Warning = refl
severity_back Error = refl

-- ---- files

file_back : (it : NamedText) → Fits it.text → file (file_value it) ≡ Some it
unfolding file file_value
file_back it fits = rw (lt-ltb (length it.text) (2 ^ 32 - 1) fits) refl

files_back : (its : List NamedText) → All (λ it. Fits it.text) its → all_of file (items_of (map file_value its)) ≡ Some its
files_back [] fits = refl
files_back (it ∷ its) fits =
    ap₂ (λ first others. option_and_then (λ a. option_map (λ rest. a ∷ rest) others) first)
    (file_back it (All-head (λ it. Fits it.text) it its fits)) (files_back its (All-tail (λ it. Fits it.text) it its fits))

-- ---- labels

rows_back : (start end : SourceLocation) (said : Option (List ℕ)) (primary : Bool) → IsLocation start → IsLocation end
    → label_by_rows (label_value (record { place = Rows start end; text = said; primary = primary }))
    ≡ Some (record { place = Rows start end; text = said; primary = primary })
unfolding label_by_rows label_value
rows_back start end said primary first last =
    let placed = place_members (Rows start end) in
    let texted = put_some (codes "text") (text_value said) placed in
    let ms = put_some (codes "primary") (primary_value primary) texted in
    let starts : get_member (codes "start") ms ≡ Some (location_value start) = simp (get_put_some) in
    let ends : get_member (codes "end") ms ≡ Some (location_value end) = simp (get_put_some) in
    let texts : get_member (codes "text") ms ≡ text_value said = simp (get_put_some, either_kind) in
    let primaries : get_member (codes "primary") ms ≡ primary_value primary = simp (get_put_some, either_kind) in
    let only : only_keys row_keys ms ≡ true =
    only_put_some row_keys (codes "primary") (primary_value primary) texted refl ∙ only_put_some row_keys (codes "text") (text_value said) placed refl in
    rw (starts, ends, texts, primaries, only) (rw (place_back start first, place_back end last, text_allowed said, text_back said, truth_allowed primary, truth_back primary) refl)

bytes_label_back : (start end : ℕ) (said : Option (List ℕ)) (primary : Bool) → start < 2 ^ 32 → end < 2 ^ 32
    → label_by_bytes (label_value (record { place = Bytes start end; text = said; primary = primary }))
    ≡ Some (record { place = Bytes start end; text = said; primary = primary })
unfolding label_by_bytes label_value
bytes_label_back start end said primary low high =
    let placed = place_members (Bytes start end) in
    let texted = put_some (codes "text") (text_value said) placed in
    let ms = put_some (codes "primary") (primary_value primary) texted in
    let both : get_member (codes "bytes") ms ≡ Some (two_numbers start end) = simp (get_put_some) in
    let texts : get_member (codes "text") ms ≡ text_value said = simp (get_put_some, either_kind) in
    let primaries : get_member (codes "primary") ms ≡ primary_value primary = simp (get_put_some, either_kind) in
    let only : only_keys byte_keys ms ≡ true =
    only_put_some byte_keys (codes "primary") (primary_value primary) texted refl ∙ only_put_some byte_keys (codes "text") (text_value said) placed refl in
    rw (both, texts, primaries, only) (rw (bytes_back start end low high, text_allowed said, text_back said, truth_allowed primary, truth_back primary) refl)

bytes_no_rows : (start end : ℕ) (said : Option (List ℕ)) (primary : Bool)
    → label_by_rows (label_value (record { place = Bytes start end; text = said; primary = primary })) ≡ None
unfolding label_value
bytes_no_rows start end said primary =
    let ms = put_some (codes "primary") (primary_value primary) (put_some (codes "text") (text_value said) (place_members (Bytes start end))) in
    let both : get_member (codes "bytes") ms ≡ Some (two_numbers start end) = simp (get_put_some) in
    rows_refused ms (ap is_some both)

label_back_at : (at : LabelPlace) (said : Option (List ℕ)) (primary : Bool) (version : Version) → allows version at ≡ true → IsPlace at
    → label version (label_value (record { place = at; text = said; primary = primary })) ≡ Some (record { place = at; text = said; primary = primary })
label_back_at (Rows start end) said primary One ok within = rows_back start end said primary within.0 within.1
label_back_at (Rows start end) said primary Two ok within = rw (rows_back start end said primary within.0 within.1) refl
label_back_at (Bytes start end) said primary One ok within = absurd (true≢false (sym ok))
label_back_at (Bytes start end) said primary Two ok within =
    rw (bytes_no_rows start end said primary, bytes_label_back start end said primary within.0 within.1) refl

label_back : (version : Version) (it : GivenLabel) → allows version it.place ≡ true → IsPlace it.place → label version (label_value it) ≡ Some it
label_back version it ok within = label_back_at it.place it.text it.primary version ok within

abbrev IsAllowed : Version → GivenLabel → Bool
IsAllowed version label = allows version label.place

abbrev HasPlace : GivenLabel → Type 0
HasPlace label = IsPlace label.place

labels_back : (version : Version) (its : List GivenLabel) → list_all (IsAllowed version) its ≡ true → All HasPlace its
    → all_of (label version) (items_of (map label_value its)) ≡ Some its
labels_back version [] ok within = refl
labels_back version (it ∷ its) ok within =
    ap₂ (λ first others. option_and_then (λ a. option_map (λ rest. a ∷ rest) others) first)
    (label_back version it (both_true (IsAllowed version it) (list_all (IsAllowed version) its) ok).0 (All-head HasPlace it its within))
    (labels_back version its (both_true (IsAllowed version it) (list_all (IsAllowed version) its) ok).1 (All-tail HasPlace it its within))

labels_allowed : (version : Version) (its : List GivenLabel) → all_of (label version) (items_of (map label_value its)) ≡ Some its
    → is_allowed (labels version) (labels_value its) ≡ true
labels_allowed version [] are = refl
labels_allowed version (it ∷ its) are = ap (λ found. is_some found) are

labels_found : (version : Version) (its : List GivenLabel) → all_of (label version) (items_of (map label_value its)) ≡ Some its
    → unwrap_or (option_and_then (labels version) (labels_value its)) [] ≡ its
labels_found version [] are = refl
labels_found version (it ∷ its) are = ap (λ found. unwrap_or found []) are

-- ---- reports

-- what stands under the keys of a report
record HasReport (it : GivenReport) (ms : Members) : Type 0 where
  file : get_member (codes "file") ms ≡ Some (whole_number it.file)
  labels : get_member (codes "labels") ms ≡ labels_value it.labels
  message : get_member (codes "message") ms ≡ Some (string it.diagnostic.message)
  severity : get_member (codes "severity") ms ≡ severity_value it.diagnostic.severity
  scope : get_member (codes "scope") ms ≡ text_value it.diagnostic.code.scope
  number : get_member (codes "number") ms ≡ text_value it.diagnostic.code.number
  help : get_member (codes "help") ms ≡ text_value it.diagnostic.help
  note : get_member (codes "note") ms ≡ text_value it.diagnostic.note
  url : get_member (codes "url") ms ≡ text_value it.diagnostic.url
  only : (version : Version) → only_keys (report_keys version) ms ≡ true

abbrev report_members : GivenReport → Members
report_members it = said_members it.diagnostic (put_some (codes "labels") (labels_value it.labels) (put (codes "file") (whole_number it.file) no_members))

only_report : (version : Version) (it : GivenReport) → only_keys (report_keys version) (report_members it) ≡ true
unfolding said_members
only_report version it =
    let keys = report_keys version in
    let said = it.diagnostic in
    let m0 = put (codes "file") (whole_number it.file) no_members in
    let m1 = put_some (codes "labels") (labels_value it.labels) m0 in
    let m2 = put (codes "message") (string said.message) m1 in
    let m3 = put_some (codes "severity") (severity_value said.severity) m2 in
    let m4 = put_some (codes "scope") (text_value said.code.scope) m3 in
    let m5 = put_some (codes "number") (text_value said.code.number) m4 in
    let m6 = put_some (codes "help") (text_value said.help) m5 in
    let m7 = put_some (codes "note") (text_value said.note) m6 in
    only_put_some keys (codes "url") (text_value said.url) m7 refl
    ∙ only_put_some keys (codes "note") (text_value said.note) m6 refl
    ∙ only_put_some keys (codes "help") (text_value said.help) m5 refl
    ∙ only_put_some keys (codes "number") (text_value said.code.number) m4 refl
    ∙ only_put_some keys (codes "scope") (text_value said.code.scope) m3 refl
    ∙ only_put_some keys (codes "severity") (severity_value said.severity) m2 refl
    ∙ only_put keys (codes "message") (string said.message) m1 refl
    ∙ only_put_some keys (codes "labels") (labels_value it.labels) m0 refl

has_report : (it : GivenReport) → HasReport it (report_members it)
unfolding said_members
has_report it = record {
  file = simp (get_put, get_put_some);
  labels = simp (get_put, get_put_some, either_kind);
  message = simp (get_put, get_put_some);
  severity = simp (get_put, get_put_some, either_kind);
  scope = simp (get_put, get_put_some, either_kind);
  number = simp (get_put, get_put_some, either_kind);
  help = simp (get_put, get_put_some, either_kind);
  note = simp (get_put, get_put_some, either_kind);
  url = simp (get_put, get_put_some, either_kind);
  only = λ version. only_report version it;
}

bare_is : (it : GivenReport) → it.diagnostic.labels ≡ [] → record it { diagnostic = record it.diagnostic { labels = [] } } ≡ it
bare_is it bare = ap (λ l. record it { diagnostic = record it.diagnostic { labels = l } }) (sym bare)

report_found : (version : Version) (files : List NamedText) (it : GivenReport) (ms : Members) → HasReport it ms → FitsDocument files it → length files < 2 ^ 32
    → all_of (label version) (items_of (map label_value it.labels)) ≡ Some it.labels
    → report version (object ms) ≡ Some (record it { diagnostic = record it.diagnostic { labels = [] } })
unfolding report
report_found version files it ms has fits few are =
    rw (has.file, has.labels, has.message, has.severity, has.scope, has.number, has.help, has.note, has.url, has.only version)
    (rw (
      whole_back 0 (2 ^ 32 - 2) it.file (omega arith) (omega (arith, fits.held, few)),
      labels_allowed version it.labels are,
      labels_found version it.labels are,
      severity_allowed it.diagnostic.severity,
      severity_back it.diagnostic.severity,
      some_text_allowed it.diagnostic.code.scope fits.scope,
      some_text_back it.diagnostic.code.scope fits.scope,
      some_text_allowed it.diagnostic.code.number fits.number,
      some_text_back it.diagnostic.code.number fits.number,
      text_allowed it.diagnostic.help,
      text_back it.diagnostic.help,
      text_allowed it.diagnostic.note,
      text_back it.diagnostic.note,
      text_allowed it.diagnostic.url,
      text_back it.diagnostic.url,
    ) refl)

report_back : (version : Version) (files : List NamedText) (it : GivenReport) → allows_labels version it ≡ true → FitsDocument files it
    → length files < 2 ^ 32 → HavePlaces it → report version (report_value it) ≡ Some it
unfolding report_value
report_back version files it ok fits few within =
    report_found version files it (report_members it) (has_report it) fits few (labels_back version it.labels ok within)
    ∙ ap (λ r. Some r) (bare_is it fits.bare)

reports_back : (version : Version) (files : List NamedText) (its : List GivenReport) → list_all (allows_labels version) its ≡ true → All (FitsDocument files) its
    → length files < 2 ^ 32 → All HavePlaces its → all_of (report version) (items_of (map report_value its)) ≡ Some its
reports_back version files [] ok fits few within = refl
reports_back version files (it ∷ its) ok fits few within =
    let both = both_true (allows_labels version it) (list_all (allows_labels version) its) ok in
    ap₂ (λ first others. option_and_then (λ a. option_map (λ rest. a ∷ rest) others) first)
    (report_back version files it both.0 (All-head (FitsDocument files) it its fits) few (All-head HavePlaces it its within))
    (reports_back version files its both.1 (All-tail (FitsDocument files) it its fits) few (All-tail HavePlaces it its within))

-- ---- the document

two_allows : (its : List GivenLabel) → list_all (IsAllowed Two) its ≡ true
two_allows [] = refl
two_allows (it ∷ its) = two_allows its

two_allows_all : (its : List GivenReport) → list_all (allows_labels Two) its ≡ true
two_allows_all [] = refl
two_allows_all (it ∷ its) = rw (two_allows it.labels) (two_allows_all its)

form_back_at : (by_rows : Bool) (files : List NamedText) (reports : List GivenReport) → list_all (allows_labels One) reports ≡ by_rows
    → All (λ it. Fits it.text) files → length files < 2 ^ 32 → All (FitsDocument files) reports → All HavePlaces reports
    → form_of (document_value files reports) ≡ Some (record { files = files; reports = reports })
unfolding form_of document_value
form_back_at true files reports ok short few fits within =
    rw (ok, files_back files short, reports_back One files reports ok fits few within) (rw (lt-ltb (length files) (2 ^ 32) few) refl)
form_back_at false files reports ok short few fits within =
    rw (ok, files_back files short, reports_back Two files reports (two_allows_all reports) fits few within) (rw (lt-ltb (length files) (2 ^ 32) few) refl)

pub form_back : (files : List NamedText) (reports : List GivenReport)
    → All (λ it. Fits it.text) files → length files < 2 ^ 32 → All (FitsDocument files) reports → All HavePlaces reports
    → form_of (document_value files reports) ≡ Some (record { files = files; reports = reports })
form_back files reports short few fits within =
    form_back_at (list_all (allows_labels One) reports) files reports refl short few fits within

-- ---- lists of values

-- one value more
pub more_written : {A B : Type 0} (f : B → Data) (g : A → B) (xs : List A) (i : ℕ) (x : A) (done values : List Value) (value : Value)
    → i < length xs → x ≡ get_or xs i x → values ≡ done ++ value ∷ [] → view value ≡ f (g x)
    → map view done ++ map f (map g (drop i xs)) ≡ map f (map g xs)
    → map view values ++ map f (map g (drop (i + 1) xs)) ≡ map f (map g xs)
more_written f g xs i x done values value within is pushed written all =
    let next : suc i ≡ i + 1 = omega arith in
    let rest = map f (map g (drop (i + 1) xs)) in
    let here : map f (map g (drop i xs)) ≡ f (g x) ∷ rest =
    ap (λ l. map f (map g l)) (drop-cons xs i x within)
    ∙ ap₂ (λ y n. f (g y) ∷ map f (map g (drop n xs))) (sym is) next in
    ap (λ l. map view l ++ rest) pushed ∙ ap (λ l. l ++ rest) (map_push view done value) ∙ append_assoc (map view done) (view value ∷ []) rest
    ∙ ap (λ d. map view done ++ d ∷ rest) written ∙ ap (λ l. map view done ++ l) (sym here) ∙ all

-- all values
pub all_written : {A B : Type 0} (f : B → Data) (g : A → B) (xs : List A) (i : ℕ) (done : Vec Value Global) → length xs ≤ i
    → map view done.items ++ map f (map g (drop i xs)) ≡ map f (map g xs)
    → view (Array done) ≡ array (items_of (map f (map g xs)))
all_written f g xs i done past all =
    let none : map f (map g (drop i xs)) ≡ [] = ap (λ l. map f (map g l)) (drop_all i xs past) in
    view-Array done ∙ ap (λ l. array (items_of l)) (sym (append-nil (map view done.items)) ∙ ap (λ l. map view done.items ++ l) (sym none) ∙ all)

-- what holds of one more, and of all
pub one_more_holds : {A : Type 0} (P : A → Type 0) (xs : List A) (i : ℕ) (x : A) → i < length xs → x ≡ get_or xs i x → P x → All P (take i xs) → All P (take (i + 1) xs)
one_more_holds P xs i x within is here before = All-more P xs i x within before (subst P is here)

pub all_hold : {A : Type 0} (P : A → Type 0) (xs : List A) (i : ℕ) → length xs ≤ i → All P (take i xs) → All P xs
all_hold P xs i past all = subst (λ l. All P l) (take_all i xs past) all

-- the places of a report are those of its labels
pub report_places : (it : FileReport) → All (λ label. IsPlace label.place) it.labels.items → HavePlaces (given_report it)
report_places it places = All-map HasPlace given_label it.labels.items places

-- a list that isn't empty
pub some_labels : (its : List PlaceLabel) → length its ≢ 0
    → Some (array (items_of (map label_value (map given_label its)))) ≡ labels_value (map given_label its)
some_labels [] some = absurd (some refl)
some_labels (it ∷ its) some = refl

pub no_labels : (its : List PlaceLabel) → length its ≡ 0 → None ≡ labels_value (map given_label its)
no_labels [] none = refl
no_labels (it ∷ its) none = absurd (omega (arith, none))

-- labels by rows, as they are given
pub by_rows_given : (reports : List FileReport)
    → list_all (λ (report : FileReport). list_all (λ (label : PlaceLabel). allows One label.place) report.labels.items) reports
    ≡ list_all (allows_labels One) (map given_report reports)
by_rows_given [] = refl
by_rows_given (report ∷ reports) =
    ap₂ (λ a b. a && b) (sym (list_all-map (IsAllowed One) given_label report.labels.items)) (by_rows_given reports)

-- ---- the text

pub document_back : (files : List NamedText) (reports : List FileReport) (text : List ℕ) (value : Data) → IsUtf8 text → value ≡ document_value files (map given_report reports)
    → (depth value ≤ 127 → read text ≡ Some value) → All (λ it. Fits it.text) files → length files < 2 ^ 32
    → All (λ it. HavePlaces (given_report it)) reports → All (FitsDocument files) (map given_report reports)
    → document_of text ≡ Some (record { files = files; reports = map given_report reports })
document_back files reports text value utf8 is reads short few ranges fits =
    let low : depth value ≤ 127 = subst (λ v. depth v ≤ 127) (sym is) (shallow files (map given_report reports)) in
    document_read text value utf8 (reads low) ∙ ap form_of is
    ∙ form_back files (map given_report reports) short few fits (All-map HavePlaces given_report reports ranges)

-- A log that was written is read as what is meant.
use Rattle.std.proofs.Common.{◌≡◌, ℕ, ◌^◌, ◌<◌, ◌≤◌, List, [], ◌∷◌, length, map, Some, None, refl, sym, ap, ap₂, subst, ◌∙◌, arith}
use Rattle.std.specs.List.{All}
use Rattle.std.specs.Str.{IsUtf8}
use Rattle.std.proofs.lemmas.List.Elements.{All-cons, All-nil}
use Rattle.std.proofs.lemmas.Str.{is_utf8-from_IsUtf8}
use Rattle.json.specs.Json.{document}
use Rattle.json.specs.Tree.{HasNumbers, depth}
use Rattle.json.proofs.Printed.Trees.{document-print}
use Rattle.serde_json.specs.Data.{Data, array}
use Rattle.serde_json.specs.View.{items_of}
use Rattle.serde_json.specs.Written.{compact_text, outline}
use Rattle.serde_json.proofs.Texts.{print-outline}
use Rattle.codespan.specs.Texts.{NamedText}
use Rattle.sarif_log.specs.declared.form.Kind.TheVariants.{Object}
use Rattle.sarif_log.specs.declared.form.Shape.TheVariants as shape
use Rattle.sarif_log.specs.declared.log.ColumnKind.TheVariants.{Characters}
use Rattle.sarif_log.specs.Form.{keys_of, kind_under}
use Rattle.sarif_log.specs.Faults.{fault_in, is_word, words_of}
use Rattle.sarif_log.specs.Log as read
use Rattle.sarif_log.specs.Log.{Log, artifact_of, artifacts_of, column_kind_at, component_of, components_of, counting_of, invocations_of, list_at, log_result_of, log_results_of, members_at, named_messages_of, names_of, rule_of, rules_of, runs_of, text_at, texts_at, texts_of, tool_of, uri_bases_of}
use Rattle.sarif_log.specs.Answer.{answer_to, json_in, log, said_by, said_in, without_mark}
use Rattle.render_files.specs.Given.{GivenReport}
use Rattle.sarif_writing.specs.Written as written
use Rattle.sarif_writing.specs.Written.{artifact_value, breaks_value, log_value, result_value, run_value, tool_value}
use Rattle.finding_laws.specs.Logs.Meant.{artifact_meant, breaks_meant, log_meant, rules_meant, run_meant}
use Rattle.finding_laws.proofs.LogLemmas.List.{Fits, items_fit, items_numbers, items_read, items_shallow}
use Rattle.finding_laws.proofs.LogLemmas.Part.{artifact_back, artifact_fits, rule_fits}
use Rattle.finding_laws.proofs.LogLemmas.Report.{IsSmallReport, reports_back, reports_fit}
use Rattle.finding_laws.proofs.LogLemmas.Rule.{rule_data, rules_back, rules_same}

-- a log of these artifacts, results and rules
abbrev whole : List ℕ → List Data → List Data → List Data → Data
whole tool artifacts results its =
    written.log_of (written.run_of (array (items_of artifacts)) (array (items_of results)) (tool_value tool (array (items_of its))))

record AllFit (files found rules : List Data) : Type 0 where
  artifacts : All (Fits shape.Artifact 2) files
  results : All (Fits shape.Result 5) found
  its : All (Fits shape.Rule 1) rules

whole_faultless : (tool : List ℕ) (artifacts results its : List Data) → AllFit artifacts results its → fault_in (Object shape.Log) (outline (whole tool artifacts results its)) ≡ None
unfolding fault_in keys_of kind_under is_word words_of written.log_of written.run_of tool_value breaks_value
whole_faultless tool artifacts results its fit =
    rw (items_fit shape.Artifact 2 0 artifacts fit.artifacts, items_fit shape.Result 5 0 results fit.results, items_fit shape.Rule 1 0 its fit.its) refl

whole_numbers : (tool : List ℕ) (artifacts results its : List Data) → AllFit artifacts results its → HasNumbers (outline (whole tool artifacts results its))
unfolding written.log_of written.run_of tool_value breaks_value
whole_numbers tool artifacts results its fit = (
  tt,
  (
    (
      (
        items_numbers shape.Artifact 2 artifacts fit.artifacts,
        (
          tt,
          (
            (tt, (tt, (tt, tt))),
            (
              items_numbers shape.Result 5 results fit.results,
              (((tt, (items_numbers shape.Rule 1 its fit.its, tt)), tt), tt),
            ),
          ),
        ),
      ),
      tt,
    ),
    (tt, tt),
  ),
)

whole_shallow : (tool : List ℕ) (artifacts results its : List Data) → AllFit artifacts results its → depth (outline (whole tool artifacts results its)) ≤ 128
unfolding written.log_of written.run_of tool_value breaks_value
whole_shallow tool artifacts results its fit =
    omega (arith, items_shallow shape.Artifact 2 artifacts fit.artifacts, items_shallow shape.Result 5 results fit.results, items_shallow shape.Rule 1 its fit.its)

-- what is read of it
abbrev whole_read : List ℕ → List Data → List Data → List Data → Log
whole_read tool artifacts results its =
    record {
      runs = record {
        tool = record { driver = record { name = Some tool; rules = map (λ it. rule_of (Some (outline it))) its; messages = [] }; extensions = [] };
        counting = record { newline_sequences = Some breaks_meant; columns = Some Characters };
        names = record { bases = []; artifacts = map (λ it. artifact_of (Some (outline it))) artifacts };
        invocations = [];
        results = map (λ it. log_result_of (Some (outline it))) results;
      } ∷ [];
    }

whole_back : (tool : List ℕ) (artifacts results its : List Data) → read.log_of (outline (whole tool artifacts results its)) ≡ whole_read tool artifacts results its
unfolding read.log_of read.run_of runs_of tool_of component_of components_of counting_of names_of invocations_of list_at text_at texts_at texts_of column_kind_at members_at rules_of named_messages_of uri_bases_of artifacts_of log_results_of written.log_of written.run_of tool_value breaks_value
whole_back tool artifacts results its =
    rw (items_read artifact_of artifacts, items_read log_result_of results, items_read rule_of its) refl

mark_free : (run : Data) → without_mark (compact_text (written.log_of run)) ≡ compact_text (written.log_of run)
unfolding written.log_of
mark_free run = refl

-- ---- of files and reports

files_fit : (files : List NamedText) → All (Fits shape.Artifact 2) (map artifact_value files)
files_fit [] = All-nil (Fits shape.Artifact 2)
files_fit (it ∷ rest) = All-cons (Fits shape.Artifact 2) (artifact_value it) (map artifact_value rest) (artifact_fits it) (files_fit rest)

files_back : (files : List NamedText) → map (λ it. artifact_of (Some (outline it))) (map artifact_value files) ≡ map artifact_meant files
files_back [] = refl
files_back (it ∷ rest) = ap₂ (λ first others. first ∷ others) (artifact_back it) (files_back rest)

rules_fit : (its : List read.Rule) → All (Fits shape.Rule 1) (map rule_data its)
rules_fit [] = All-nil (Fits shape.Rule 1)
rules_fit (it ∷ rest) = All-cons (Fits shape.Rule 1) (rule_data it) (map rule_data rest) (rule_fits it.id it.help_uri) (rules_fit rest)

-- the whole of them, by the rules that are meant
abbrev log_data : List ℕ → List NamedText → List GivenReport → Data
log_data tool files reports =
    whole tool (map artifact_value files) (map (result_value files (map rule_data (rules_meant reports))) reports) (map rule_data (rules_meant reports))

log_is : (tool : List ℕ) (files : List NamedText) (reports : List GivenReport) → log_value tool files reports ≡ log_data tool files reports
unfolding run_value
log_is tool files reports =
    ap (λ its. whole tool (map artifact_value files) (map (result_value files its) reports) its) (rules_same reports)

all_fit : (files : List NamedText) (reports : List GivenReport) → length reports < 2 ^ 64 → All (IsSmallReport files) reports
    → AllFit (map artifact_value files) (map (result_value files (map rule_data (rules_meant reports))) reports) (map rule_data (rules_meant reports))
all_fit files reports few small =
    record { artifacts = files_fit files; results = reports_fit files reports reports few small; its = rules_fit (rules_meant reports) }

log_back : (tool : List ℕ) (files : List NamedText) (reports : List GivenReport) → length reports < 2 ^ 64 → All (IsSmallReport files) reports
    → read.log_of (outline (log_data tool files reports)) ≡ log_meant tool files reports
unfolding log_meant run_meant
log_back tool files reports few small =
    let its = map rule_data (rules_meant reports) in
    whole_back tool (map artifact_value files) (map (result_value files its) reports) its
    ∙ rw (files_back files, reports_back files reports reports few small, rules_back reports) refl

text_read : (it : Data) → HasNumbers (outline it) → depth (outline it) ≤ 128 → document (compact_text it) ≡ Some (outline it)
text_read it numbers shallow = ap document (sym (print-outline it)) ∙ document-print (outline it) numbers shallow

data_back : (tool : List ℕ) (files : List NamedText) (reports : List GivenReport) → length reports < 2 ^ 64 → All (IsSmallReport files) reports
    → IsUtf8 (compact_text (log_data tool files reports)) → answer_to (compact_text (log_data tool files reports)) ≡ log (log_meant tool files reports)
unfolding answer_to said_by
data_back tool files reports few small utf8 =
    let its = map rule_data (rules_meant reports) in
    let artifacts = map artifact_value files in
    let results = map (result_value files its) reports in
    let fit = all_fit files reports few small in
    let text = compact_text (log_data tool files reports) in
    ap (λ t. said_in (json_in t)) (mark_free (written.run_of (array (items_of artifacts)) (array (items_of results)) (tool_value tool (array (items_of its)))))
    ∙ rw (is_utf8-from_IsUtf8 text utf8, text_read (log_data tool files reports) (whole_numbers tool artifacts results its fit) (whole_shallow tool artifacts results its fit))
    (rw (whole_faultless tool artifacts results its fit, log_back tool files reports few small) refl)

-- the text of a log is read as the log that is meant
pub read_back : (tool : List ℕ) (files : List NamedText) (reports : List GivenReport) (text : List ℕ) → length reports < 2 ^ 64 → All (IsSmallReport files) reports
    → IsUtf8 text → text ≡ compact_text (log_value tool files reports) → answer_to text ≡ log (log_meant tool files reports)
read_back tool files reports text few small utf8 is =
    let same : text ≡ compact_text (log_data tool files reports) = is ∙ ap compact_text (log_is tool files reports) in
    ap answer_to same ∙ data_back tool files reports few small (subst IsUtf8 same utf8)

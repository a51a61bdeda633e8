-- What a well formed report shows is read as that report.
use Rattle.std.proofs.Common.{◌≡◌, ℕ, true, List, [], ◌∷◌, Option, Some, None, refl, sym, ap, ◌∙◌}
use Rattle.oxc_protocol.specs.declared.protocol.Severity.{Severity}
use Rattle.oxc_protocol.specs.declared.protocol.Severity.TheVariants.{Error, Warning, Advice}
use Rattle.report_reader.specs.Seen.{Report}
use Rattle.report_reader.specs.Shown.{title_line, report_lines, shown}
use Rattle.report_reader.specs.WellFormed.{is_well_formed, HasSizes}
use Rattle.report_reader.specs.Reading.{without_spaces, severity_in, title_in, report_behind, guess, ReadsEach}
use Rattle.report_reader.proofs.BytesLemmas.{both, both_first, both_last, back_at}
use Rattle.report_reader.proofs.PartsLemmas.{snippets_back}
use Rattle.report_reader.proofs.PlainLines.{are_lines, snippets_lines, title_is_line, split_ended}

severity_back : (severity : Severity) (title : List ℕ) → severity_in (title_line severity title) ≡ Some severity
unfolding severity_in title_line without_spaces
severity_back Error title = refl
severity_back Warning title = refl
severity_back Advice title = refl

title_back : (severity : Severity) (title : List ℕ) → title_in (title_line severity title) ≡ title
unfolding title_in title_line without_spaces
title_back Error title = back_at 0x20 (0x78 ∷ []) title refl
title_back Warning title = back_at 0x20 (0x21 ∷ []) title refl
title_back Advice title = back_at 0x20 (0x3E ∷ []) title refl

report_is_lines : (report : Report) → is_well_formed report ≡ true → HasSizes report.snippets → are_lines (report_lines report) ≡ true
unfolding is_well_formed report_lines
report_is_lines report is sizes =
    both _ _ (title_is_line report.severity report.title (both_first _ _ (both_first _ _ is))) (snippets_lines report.snippets (both_last _ _ is) sizes)

pub guess_back : (report : Report) → is_well_formed report ≡ true → HasSizes report.snippets → guess (shown report) ≡ Some report
unfolding guess shown report_lines is_well_formed
guess_back report is sizes =
    let snippets = snippets_back report.snippets (both_last _ _ is) sizes in
    ap report_behind (split_ended (report_lines report) (report_is_lines report is sizes))
    ∙ rw (severity_back report.severity report.title, title_back report.severity report.title, snippets) refl

-- a well formed report that shows as the text is what the text is read as
guess_of_text : (text : List ℕ) (report : Report) → HasSizes report.snippets → is_well_formed report ≡ true → shown report ≡ text → guess text ≡ Some report
guess_of_text text report sizes is shows = sym (ap guess shows) ∙ guess_back report is sizes

-- a text that would be nothing
pub reads_none : (text : List ℕ) → guess text ≡ None → ReadsEach text None
reads_none text none = λ report sizes is shows. sym none ∙ guess_of_text text report sizes is shows

-- a text that would be a report which isn't well formed, or shows as another text
pub reads_other : (text : List ℕ) (guessed : Report) → guess text ≡ Some guessed → (is_well_formed guessed ≡ true → shown guessed ≡ text → ⊥) → ReadsEach text None
reads_other text guessed some other = λ report sizes is shows.
    let same : report ≡ guessed = (let both : Some report ≡ Some guessed = sym (guess_of_text text report sizes is shows) ∙ some in cc) in
    absurd (other (ap is_well_formed (sym same) ∙ is) (ap shown (sym same) ∙ shows))

pub reads_some : (text : List ℕ) (found : Option Report) → guess text ≡ found → ReadsEach text found
reads_some text found same = λ report sizes is shows. sym same ∙ guess_of_text text report sizes is shows

-- two well formed reports that show as one text are one
pub shown_once : (one other : Report) → HasSizes one.snippets → HasSizes other.snippets → is_well_formed one ≡ true → is_well_formed other ≡ true → shown one ≡ shown other → one ≡ other
shown_once one other sizes others is also same =
    let both : Some one ≡ Some other = sym (guess_back one is sizes) ∙ ap guess same ∙ guess_back other also others in cc

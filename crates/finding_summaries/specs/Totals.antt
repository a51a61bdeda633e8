-- The line with the totals.
use Rattle.std.specs.Prelude.{ℕ, ◌==◌, if◌then◌else◌, List, ◌++◌, count_by, length, codes, decimal}
use Rattle.oxc_protocol.specs.declared.protocol.Severity.TheVariants.{Advice, Warning, Error}
use Rattle.finding_summaries.specs.declared.counted.Counts.{Counts}
use Rattle.finding_summaries.specs.Counted.{is_of, summary_line}
use Rattle.ci_formats.specs.Finding.{FindingParts}

-- how many findings of each severity there are
abbrev pub counts_in : List FindingParts → Counts
counts_in findings =
    record {
      errors = count_by (λ f. is_of Error f.severity) findings;
      warnings = count_by (λ f. is_of Warning f.severity) findings;
      notes = count_by (λ f. is_of Advice f.severity) findings;
    }

abbrev pub noun : ℕ → List ℕ
noun count = if count == 1 then codes " finding: " else codes " findings: "

-- `3 findings: 2 errors, 1 note` and an LF
unfoldable pub totals : List FindingParts → List ℕ
totals findings = decimal (length findings) ++ noun (length findings) ++ summary_line (counts_in findings)

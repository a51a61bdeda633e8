-- The parts of a line, as the reader finds them.
use Rattle.std.specs.Prelude.{ℕ, ◌==◌, if◌then◌else◌, Bool, true, false, List, [], ◌∷◌, slice_get, Option, Some, None, option_map, option_and_then, unwrap_or, codes}
use Rattle.escapes.specs.Cuts.{behind, cut_at, number_of, without_last}
use Rattle.oxc_protocol.specs.declared.protocol.Severity.{Severity}
use Rattle.oxc_protocol.specs.declared.protocol.Severity.TheVariants.{Error, Warning, Advice}
use Rattle.oxc_protocol.specs.declared.reporter.InfoPosition.{InfoPosition}
use Rattle.problem_lines.specs.declared.parse.LineParts.{LineParts}
use Rattle.oxc_protocol.specs.Info.{InfoParts}

-- a line and a column, and what stands behind them
unfoldable pub place_at : List ℕ → Option (InfoPosition × List ℕ)
place_at text =
    option_and_then (λ line. option_and_then (λ column. option_and_then (λ l. option_map (λ c. (record { line = l; column = c }, column.1)) (number_of column.0)) (number_of line.0)) (cut_at 0x3A line.1)) (cut_at 0x3A text)

-- the severity where its name stands there, else the other answer
abbrev pub named : Severity → Option (List ℕ) → Option (Severity × List ℕ) → Option (Severity × List ℕ)
named severity None other = other
named severity (Some rest) other = Some (severity, rest)

unfoldable pub severity_at : List ℕ → Option (Severity × List ℕ)
severity_at text = named Error (behind (codes "error") text) (named Warning (behind (codes "warning") text) (named Advice (behind (codes "advice") text) None))

abbrev pub rule_from : List ℕ → Option (List ℕ) → Option (Option (List ℕ) × List ℕ)
rule_from text None = Some (None, text)
rule_from text (Some rest) = option_map (λ parts. (Some parts.0, parts.1)) (cut_at 0x5D rest)

unfoldable pub rule_at : List ℕ → Option (Option (List ℕ) × List ℕ)
rule_at text = rule_from text (behind (codes "[") text)

unfoldable pub head_at : List ℕ → Option (List ℕ × InfoPosition × InfoPosition × List ℕ)
head_at text = option_and_then (λ name. option_and_then (λ start. option_map (λ end. (name.0, start.0, end.0, end.1)) (place_at start.1)) (place_at name.1)) (cut_at 0x3A text)

unfoldable pub tail_at : List ℕ → Option (Severity × Option (List ℕ) × List ℕ)
tail_at text =
    option_and_then (λ rest. option_and_then (λ severity. option_and_then (λ rule. option_and_then (λ last. option_map (λ message. (severity.0, rule.0, message)) (without_last 0x0A last))
    (behind (codes ": ") rule.1)) (rule_at severity.1)) (severity_at rest)) (behind (codes " ") text)

-- the parts of a line, with their escapes
unfoldable pub parsed : List ℕ → Option InfoParts
parsed line =
    option_and_then (λ head. option_map (λ tail. record { start = head.1; end = head.2; filename = head.0; message = tail.2; severity = tail.0; rule_id = tail.1 }) (tail_at head.3)) (head_at line)

-- what a letter behind a backslash stands for
abbrev pub meant : ℕ → Option ℕ
meant letter =
    if letter == 0x5C then Some 0x5C else if letter == 0x6E then Some 0x0A else if letter == 0x72 then Some 0x0D else if letter == 0x63 then Some 0x3A else if letter == 0x62 then Some 0x5D else None

-- what the first byte of a text stands for behind a backslash
abbrev pub meaning_of : List ℕ → Option ℕ
meaning_of text = option_and_then meant (slice_get text 0)

-- a text with its escapes turned back; a backslash that begins no escape is dropped, and all else is kept. The flag says that a backslash stands before the text
unfoldable pub unescape_from : Bool → List ℕ → List ℕ
unescape_from after [] = []
unescape_from false (x ∷ xs) = if x == 0x5C then unescape_from true xs else x ∷ unescape_from false xs
unescape_from true (x ∷ xs) = unwrap_or (meant x) x ∷ unescape_from false xs

abbrev pub unescape : List ℕ → List ℕ
unescape text = unescape_from false text

abbrev pub unescaped : InfoParts → InfoParts
unescaped parts = record { start = parts.start; end = parts.end; filename = unescape parts.filename; message = unescape parts.message; severity = parts.severity; rule_id = option_map unescape parts.rule_id }

abbrev pub texts_of : LineParts → InfoParts
texts_of parts = record { start = parts.start; end = parts.end; filename = parts.filename.now; message = parts.message.now; severity = parts.severity; rule_id = option_map (λ rule. rule.now) parts.rule_id }

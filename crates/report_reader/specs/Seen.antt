-- A seen report as records and lists.
use Rattle.std.specs.Prelude.{ℕ, Bool, List, Option, map, option_map, string_bytes}
use Rattle.oxc_protocol.specs.declared.protocol.Severity.{Severity}
use Rattle.report_reader.specs.declared.seen.SeenMark.{SeenMark}
use Rattle.report_reader.specs.declared.seen.SeenRow.{SeenRow}
use Rattle.report_reader.specs.declared.seen.SeenHead.{SeenHead}
use Rattle.report_reader.specs.declared.seen.SeenHead.TheVariants.{Named, Bare, Dashes}
use Rattle.report_reader.specs.declared.seen.SeenSnippet.{SeenSnippet}
use Rattle.report_reader.specs.declared.seen.Seen.{Seen}

pub record Mark : Type 0 where
  pub start : ℕ
  pub end : ℕ
  pub text : Option (List ℕ)
  pub arrow : Bool

pub record Row : Type 0 where
  pub number : ℕ
  pub text : List ℕ
  pub marks : List Mark

pub data Head : Type 0 where
  named : List ℕ → ℕ → ℕ → Head
  bare : ℕ → ℕ → Head
  dashes : Head

pub record Snippet : Type 0 where
  pub head : Head
  pub rows : List Row

pub record Report : Type 0 where
  pub severity : Severity
  pub title : List ℕ
  pub snippets : List Snippet

abbrev pub mark_model : SeenMark → Mark
mark_model m = record { start = m.start; end = m.end; text = option_map string_bytes m.text; arrow = m.arrow }

abbrev pub row_model : SeenRow → Row
row_model r = record { number = r.number; text = string_bytes r.text; marks = map mark_model r.marks.items }

abbrev pub head_model : SeenHead → Head
head_model (Named name row column) = named (string_bytes name) row column
head_model (Bare row column) = bare row column
head_model Dashes = dashes

abbrev pub snippet_model : SeenSnippet → Snippet
snippet_model s = record { head = head_model s.head; rows = map row_model s.rows.items }

abbrev pub report_model : Seen → Report
report_model s = record { severity = s.severity; title = string_bytes s.title; snippets = map snippet_model s.snippets.items }

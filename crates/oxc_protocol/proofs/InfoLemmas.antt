-- The row that is told of a diagnostic, and the one that a scanner without context reads.
use Rattle.std.proofs.Common.{◌≡◌, ℕ, ◌+◌, ◌≤◌, Bool, true, false, nat_le, nat_lt, List, ◌∷◌, length, Some, refl, ap, ◌∙◌, arith}
use Rattle.std.proofs.lemmas.Bool.Decides.{nat_tests}
use Rattle.oxc_span.specs.Label.{Label, label_end}
use Rattle.oxc_span.specs.declared.span.Span.{Span}
use Rattle.oxc_windows.specs.Breaks.{breaks_of}
use Rattle.oxc_windows.specs.Rows.{row_of}
use Rattle.oxc_windows.specs.Window.{window_of}
use Rattle.oxc_windows.specs.Scan.{Contents, Scan, contents_read}
use Rattle.oxc_protocol.specs.Source.{SourceParts}
use Rattle.oxc_protocol.specs.Parts.{Parts}
use Rattle.oxc_protocol.specs.Info.{info_of}
use Rattle.oxc_protocol.specs.Laws.{TellOneRow}

le_passes : (a b : ℕ) → a ≤ b → nat_le a b ≡ true
le_passes a b le = grind (arith, nat_tests)

told_row : (p : Parts) (source : SourceParts) (label : Label) (others : List Label) → p.source ≡ Some source → p.labels ≡ label ∷ others → label_end label ≤ length source.bytes
    → (info_of p).start.line ≡ row_of (breaks_of source.bytes) label.offset + 1
told_row p source label others has first ends = rw (has, first, le_passes (label_end label) (length source.bytes) ends) refl

some_line : (a b : Contents) → Some a ≡ Some b → a.line ≡ b.line
some_line a b e = cc

-- whether or not the span ends past the source
read_row : (scan : Scan) (span : Span) (contents : Contents) → scan.before ≡ 0 → contents_read scan span ≡ Some contents
    → (past : Bool) → nat_lt (length scan.input) span.end ≡ past → contents.line ≡ row_of (breaks_of scan.input) span.start
unfolding window_of
read_row scan span contents bare e true is = let gone = rw is at e in cc
read_row scan span contents bare e false is =
    let line = some_line _ contents (rw is at e) in
    omega (arith, line, bare)

pub one_row : (bytes : List ℕ) (offset : ℕ) → TellOneRow bytes offset
one_row bytes offset = record {
  told = λ p at. told_row p at.source at.label at.others at.has_source at.has_label (rw at.bytes_are at.ends) ∙ rw (at.bytes_are, at.starts) refl;
  read = λ scan contents input bare e. read_row scan (record { start = offset; end = offset }) contents bare e _ refl ∙ ap (λ text. row_of (breaks_of text) offset) input;
}

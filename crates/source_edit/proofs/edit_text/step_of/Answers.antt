use Rattle.std.proofs.Common.{◌≡◌, ◌+◌, length, slice_range, refl, sym, ap, ◌∙◌, arith, count_by, nat_lt}
use Rattle.source_location.specs.Breaks.{breaks_of}
use Rattle.source_location.specs.Rows.{line_starts}
use Rattle.source_location.proofs.BreaksLemmas.{breaks_valid}
use Rattle.source_location.proofs.IndexLemmas.{starts_rise}
use Rattle.source_edit.specs.Edits.{change_of}
use Rattle.source_edit.proofs.StartsLemmas.{starts_before_place, near_cut, between_are}
use Rattle.source_edit.proofs.edit_text.step_of.Goals as goal

pub rows_near-first-requires : goal.rows_near-first-requires
rows_near-first-requires c = rw c.requires.indexed (starts_rise (breaks_of c.args.text.now) (breaks_valid c.args.text.now).ordered)

pub returns : goal.returns
returns c =
    let text = c.args.text.now in
    let change = change_of c.args.edit.now in
    let le = c.end-end.ensures.ordered in
    let within = c.requires.acceptable.within in
    let list = c.requires.indexed in
    let from : c.to_usize.result ≡ change.start = c.to_usize.ensures.number ∙ c.start-start.ensures.start in
    let to : c.to_usize-2.result ≡ change.end = c.to_usize-2.ensures.number ∙ c.end-end.ensures.end in
    let last : c.new-last.result ≡ change.start + length change.insert = omega (arith, c.new-last.ensures, c.to_usize-3.ensures.number, c.start-start.ensures.start, c.len.ensures) in
    let first : c.rows_near-first.result.0 ≡ starts_before_place text change.start = c.rows_near-first.ensures.first ∙ ap (count_by (λ start. nat_lt start change.start)) list in
    let behind : c.rows_near-first.result.1 ≡ starts_before_place text (change.end + 1) = c.rows_near-first.ensures.behind ∙ ap (count_by (λ start. nat_lt start (change.end + 1))) list in
    let start : c.start-start.result ≡ change.start = c.start-start.ensures.start in
    record {
      ordered = le;
      written = c.new.ensures ∙ rw (start, last) refl;
      removed = c.in_ok-removed.ensures.ok ∙ c.range.ensures.value ∙ rw (from, to) refl;
      gone =
          c.in_ok-starts.ensures.items
          ∙ ap (λ l. slice_range l c.rows_near-first.result.0 c.rows_near-first.result.1) list
          ∙ ap (λ n. slice_range (line_starts (breaks_of text)) n c.rows_near-first.result.1) first
          ∙ ap (λ n. slice_range (line_starts (breaks_of text)) (starts_before_place text change.start) n) behind
          ∙ near_cut text change.start change.end le within
          ∙ sym (between_are text change.start change.end le within);
    }

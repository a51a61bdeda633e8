use Rattle.std.proofs.Common.{rules, ◌^◌, ◌≡◌, ℕ, ◌+◌, ◌-◌, ◌≤◌, ◌++◌, length, map, take, drop, string_bytes, sym, ap, ◌∙◌, arith, count_by, nat_lt}
use Rattle.source_location.specs.Breaks.{breaks_of}
use Rattle.source_location.specs.Rows.{line_starts}
use Rattle.source_location.proofs.BreaksLemmas.{breaks_valid}
use Rattle.source_location.proofs.IndexLemmas.{starts_rise}
use Rattle.source_edit.specs.Edits.{Change, edited}
use Rattle.source_edit.proofs.StartsLemmas.{starts_before_place, mended, back_cut}
use Rattle.source_edit.proofs.FoundLemmas.{behind_range, put_between}
use Rattle.source_edit.proofs.StepsLemmas.{start_boundary}
use Rattle.source_edit.proofs.edit_text.put.Goals as goal

pub rows_near-first-requires : goal.rows_near-first-requires
rows_near-first-requires c =
    let text = string_bytes c.args.text.now in
    rw (c.as_slice.ensures.value ∙ c.requires.indexed) (starts_rise (breaks_of text) (breaks_valid text).ordered)

pub shift_behind-requires-clause-range : goal.shift_behind-requires-clause-range
shift_behind-requires-clause-range c =
    let text = string_bytes c.args.text.now in
    let change : Change = record { start = c.args.range.0; end = c.args.range.1; insert = c.args.insert.now } in
    let from : c.to_usize-from.result ≡ change.start = c.to_usize-from.ensures.number ∙ c.start.ensures.start in
    let to : c.to_usize-to.result ≡ change.end = c.to_usize-to.ensures.number ∙ c.end.ensures.end in
    let list = c.as_slice.ensures.value ∙ c.requires.indexed in
    let behind : c.rows_near-first.result.1 ≡ starts_before_place text (change.end + 1) = c.rows_near-first.ensures.behind ∙ ap (count_by (λ start. nat_lt start (change.end + 1))) list in
    let ordered = c.start.ensures.ordered in
    let within = c.requires.acceptable.within in
    rw (from, to, c.requires.indexed, behind, back_cut text change.start change.end ordered within)
    (behind_range text change (2 ^ 32) ordered within (omega (arith, c.requires.acceptable.fits)))

pub returns-clause-indexed : goal.returns-clause-indexed
returns-clause-indexed c =
    let text = string_bytes c.args.text.now in
    let change : Change = record { start = c.args.range.0; end = c.args.range.1; insert = c.args.insert.now } in
    let from : c.to_usize-from.result ≡ change.start = c.to_usize-from.ensures.number ∙ c.start.ensures.start in
    let to : c.to_usize-to.result ≡ change.end = c.to_usize-to.ensures.number ∙ c.end.ensures.end in
    let list = c.as_slice.ensures.value ∙ c.requires.indexed in
    let first : c.rows_near-first.result.0 ≡ starts_before_place text change.start = c.rows_near-first.ensures.first ∙ ap (count_by (λ start. nat_lt start change.start)) list in
    let behind : c.rows_near-first.result.1 ≡ starts_before_place text (change.end + 1) = c.rows_near-first.ensures.behind ∙ ap (count_by (λ start. nat_lt start (change.end + 1))) list in
    let moved : ℕ → ℕ = λ start. start - (c.to_usize-to.result - c.to_usize-from.result) + length c.args.insert.now in
    let rows = line_starts (breaks_of text) in
    let n = c.rows_near-first.result.0 in
    let m = c.rows_near-first.result.1 in
    let made : string_bytes c.replace_range.new.self ≡ edited text change = search rules in
    let bound : m ≤ length rows = omega (arith, c.rows_near-first.ensures.bound, ap length list) in
    c.put_starts.ensures.items
    ∙ ap (λ l. take n l ++ (c.args.starts.now ++ drop m l)) (c.shift_behind.ensures.items ∙ ap (λ l. take m l ++ map moved (drop m l)) c.requires.indexed)
    ∙ put_between rows c.args.starts.now moved n m c.rows_near-first.ensures.ordered bound
    ∙ rw (first, behind, from, to, c.requires.starts, made) (sym (mended text change c.start.ensures.ordered c.requires.acceptable.within))

pub returns-clause-start : goal.returns-clause-start
returns-clause-start c =
    let text = string_bytes c.args.text.now in
    let change : Change = record { start = c.args.range.0; end = c.args.range.1; insert = c.args.insert.now } in
    let made : string_bytes c.replace_range.new.self ≡ edited text change = search rules in
    rw made (start_boundary text change c.start.ensures.ordered c.requires.acceptable.end c.utf8.insert)

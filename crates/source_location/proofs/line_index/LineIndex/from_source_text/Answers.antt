use Rattle.std.proofs.Common.{◌≡◌, ◌+◌, ◌++◌, arith, ap, sym, length, take, drop, ◌∙◌}
use Rattle.std.proofs.lemmas.List.{take-append-drop}
use Rattle.source_location.specs.Newlines.{IsFirstBreak, ending_bytes}
use Rattle.std.proofs.lemmas.Str.{IsUtf8-drop}
use Rattle.source_location.proofs.NewlinesLemmas.{first_break_boundary, starts_step, kind_step}
use Rattle.source_location.proofs.line_index.LineIndex.from_source_text.Goals as goal

pub split_at-requires : goal.split_at-requires
split_at-requires c =
    rw c.len.ensures (rw c.in-Some.ending-is (rw c.in-Some.position-is (first_break_boundary c.loop-position.rest.now _ _ c.loop-position.invariant.utf8 c.in-Some.ensures)))

pub loop-position-preserved : goal.loop-position-preserved
loop-position-preserved c =
    let kept = c.loop-position.invariant in
    let rest = c.loop-position.rest.now in
    let found : IsFirstBreak rest c.in-Some.position c.in-Some.ending = rw c.in-Some.ending-is (rw c.in-Some.position-is c.in-Some.ensures) in
    let boundary = first_break_boundary rest c.in-Some.position c.in-Some.ending kept.utf8 found in
    let behind : c.split_at.result.1.now ≡ drop (c.in-Some.position + length (ending_bytes c.in-Some.ending)) rest =
    c.split_at.ensures.back ∙ ap (λ n. drop (c.in-Some.position + n) rest) c.len.ensures in
    let front : c.split_at.result.0.now ≡ take (c.in-Some.position + length (ending_bytes c.in-Some.ending)) rest =
    c.split_at.ensures.front ∙ ap (λ n. take (c.in-Some.position + n) rest) c.len.ensures in
    record {
      utf8 = rw behind (IsUtf8-drop rest _ kept.utf8 boundary);
      place = omega (arith, kept.place, c.split_at.ensures.front_len, c.split_at.ensures.back_len);
      starts = rw (c.in_ok-push-2.ensures.items, c.new-in-Some.ensures) (starts_step c.loop-position.line_starts.items rest c.split_at.result.1.now _ c.in-Some.position c.loop-position.at
          (c.loop-position.at + length c.split_at.result.0.now) c.in-Some.ending found behind (omega (arith, c.split_at.ensures.front_len, c.len.ensures)) kept.starts);
      kind = kind_step rest c.split_at.result.0.now c.split_at.result.1.now
          (sym (take-append-drop (c.in-Some.position + length (ending_bytes c.in-Some.ending)) rest) ∙ ap (λ l. l ++ drop (c.in-Some.position + length (ending_bytes c.in-Some.ending)) rest) (sym front)
          ∙ ap (λ l. c.split_at.result.0.now ++ l) (sym behind))
          _ _ _ c.with-kind.ensures kept.kind;
    }

use Rattle.std.proofs.Common.{◌≡◌, ℕ, ◌+◌, ◌++◌, ◌∷◌, [], arith, ap, sym, subst, refl, length, drop, map, ◌∙◌}
use Rattle.std.specs.Str.{IsCharBoundary}
use Rattle.std.proofs.lemmas.List.{length-map, length-append}
use Rattle.std.proofs.lemmas.Str.{IsCharBoundary-start, IsUtf8-drop}
use Rattle.source_location.proofs.NewlinesLemmas.{starts_step}
use Rattle.source_location.specs.Breaks.{LineBreak, breaks_of}
use Rattle.source_location.specs.Newlines.{ending_bytes, IsFirstBreak}
use Rattle.utf16_places.proofs.BuildLemmas.{none_marked, starts_none, begins_none, in_line, begins_step, next_is, next_boundary, last_pushed, rest_behind}
use Rattle.utf16_places.proofs.index.Utf16Index.new.Goals as goal

pub loop-position-init : goal.loop-position-init
loop-position-init c =
    let text = c.args.text.now in
    let first : c.push.new.self.items ≡ 0 ∷ [] =
    c.in_ok-push.ensures.items ∙ ap (λ l. l ++ c.new.result ∷ []) c.in_ok-line_starts.ensures.items ∙ ap (λ (n : ℕ). n ∷ []) c.new.ensures in
    record {
      utf8 = c.utf8.text;
      place = refl;
      boundary = IsCharBoundary-start text c.utf8.text;
      some = rw first (omega arith);
      last = rw first refl;
      starts = ap (λ l. l ++ map (λ (b : LineBreak). b.end + 1 + 0) (breaks_of text)) first ∙ ap (λ l. 0 ∷ l) (starts_none (breaks_of text));
      breaks = ap (λ l. l ++ map (λ (b : LineBreak). b.start + 0) (breaks_of text)) c.in_ok-line_breaks.ensures.items ∙ begins_none (breaks_of text);
      marked = none_marked text c.new-wide.result.items c.new-wide.ensures.items;
    }

pub mark_line-requires-clause-end : goal.mark_line-requires-clause-end
mark_line-requires-clause-end c =
    let kept = c.loop-position.invariant in
    let end = next_boundary c.args.text.now c.loop-position.rest.now c.loop-position.at c.in-Some.position c.in-Some.ending kept.place kept.boundary.0 kept.utf8 c.in-Some.ensures in
    subst (λ n. IsCharBoundary c.args.text.now (c.loop-position.at + c.in-Some.position + n)) (sym c.len.ensures) end

pub mark_line-requires-clause-line : goal.mark_line-requires-clause-line
mark_line-requires-clause-line c place from upto =
    let kept = c.loop-position.invariant in
    in_line c.args.text.now c.loop-position.line_starts.items (map (λ (b : LineBreak). b.end + 1 + c.loop-position.at) (breaks_of c.loop-position.rest.now)) c.loop-position.at
    (c.loop-position.at + c.in-Some.position + c.len.result) kept.starts kept.some kept.last
    (λ _. next_is c.loop-position.rest.now c.loop-position.at c.in-Some.position c.in-Some.ending c.in-Some.ensures ∙ ap (λ n. c.loop-position.at + c.in-Some.position + n) (sym c.len.ensures))
    place from upto

pub range_from-rest-requires : goal.range_from-rest-requires
range_from-rest-requires c _ =
    let kept = c.loop-position.invariant in
    let end = next_boundary c.args.text.now c.loop-position.rest.now c.loop-position.at c.in-Some.position c.in-Some.ending kept.place kept.boundary.0 kept.utf8 c.in-Some.ensures in
    subst (λ n. IsCharBoundary c.args.text.now (c.loop-position.at + c.in-Some.position + n)) (sym c.len.ensures) end

pub loop-position-preserved : goal.loop-position-preserved
loop-position-preserved c =
    let kept = c.loop-position.invariant in
    let text = c.args.text.now in
    let rest = c.loop-position.rest.now in
    let at = c.loop-position.at in
    let p = c.in-Some.position in
    let ending = c.in-Some.ending in
    let found : IsFirstBreak rest p ending = c.in-Some.ensures in
    let end = next_boundary text rest at p ending kept.place kept.boundary.0 kept.utf8 found in
    let boundary : IsCharBoundary text (at + p + c.len.result) = subst (λ n. IsCharBoundary text (at + p + n)) (sym c.len.ensures) end in
    let place : c.range_from-rest.result.now ≡ drop (at + p + c.len.result) text = c.range_from-rest.ensures.value in
    let behind : c.range_from-rest.result.now ≡ drop (p + length (ending_bytes ending)) rest =
    place ∙ rest_behind text rest at p c.len.result kept.place ∙ ap (λ n. drop (p + n) rest) c.len.ensures in
    let next : at + p + c.len.result ≡ at + (p + length (ending_bytes ending)) = omega (arith, c.len.ensures) in
    record {
      utf8 = rw place (IsUtf8-drop text _ c.utf8.text boundary);
      place = place;
      boundary = boundary;
      some = omega (arith, ap length c.in_ok-push-3.ensures.items, length-append c.loop-position.line_starts.items (c.new-in-Some-2.result ∷ []));
      last = last_pushed c.push-in-Some-2.new.self.items c.loop-position.line_starts.items c.new-in-Some-2.result (at + p + c.len.result) c.in_ok-push-3.ensures.items c.new-in-Some-2.ensures;
      starts = rw (c.in_ok-push-3.ensures.items, c.new-in-Some-2.ensures) (starts_step c.loop-position.line_starts.items rest c.range_from-rest.result.now _ p at (at + p + c.len.result) ending found behind next kept.starts);
      breaks = rw (c.in_ok-push-2.ensures.items, c.new-in-Some.ensures) (begins_step c.loop-position.line_breaks.items rest c.range_from-rest.result.now _ p at (at + p + c.len.result) ending found behind next kept.breaks);
      marked = c.in_ok-mark_line.ensures;
    }

pub mark_line-requires-2-clause-line : goal.mark_line-requires-2-clause-line
mark_line-requires-2-clause-line c place from upto =
    let kept = c.loop-position.invariant in
    in_line c.args.text.now c.loop-position.line_starts.items (map (λ (b : LineBreak). b.end + 1 + c.loop-position.at) (breaks_of c.loop-position.rest.now)) c.loop-position.at
    (length c.args.text.now) kept.starts kept.some kept.last
    (λ some. absurd (omega (arith, some, length-map (breaks_of c.loop-position.rest.now) (λ (b : LineBreak). b.end + 1 + c.loop-position.at), ap length c.in_default.ensures)))
    place from upto

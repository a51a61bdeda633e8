-- A piece more.
use Rattle.std.proofs.Common.{◌≡◌, ◌+◌, ◌-◌, ◌<◌, ◌≤◌, ◌++◌, ◌∙◌, false, slice_index, drop, length, take, map, string_bytes, refl, sym, ap, subst, arith}
use Rattle.std.specs.Str.{IsCharBoundary}
use Rattle.std.proofs.lemmas.Str.{IsCharBoundary-from_rest, IsCharBoundary-start}
use Rattle.sarif.specs.Fill.{filled_from, is_brace, piece_at}
use Rattle.sarif.proofs.FillLemmas.{filled_end, piece_step, plain_step}
use Rattle.sarif.proofs.fill.filled.Goals as goal

pub loop-at-init : goal.loop-at-init
loop-at-init c = record { boundary = IsCharBoundary-start c.args.text.now c.utf8.text; value = rw c.new-out.ensures.bytes refl }

pub loop-at-preserved-then-plain-gt0 : goal.loop-at-preserved-then-plain-gt0
loop-at-preserved-then-plain-gt0 c =
    let text = c.args.text.now in
    let arguments = map string_bytes c.args.arguments.now in
    let at = c.loop-at.at in
    let plain = c.plain_len-plain.result in
    let found = c.plain_len-plain.ensures in
    let rest : c.range_from-rest.result.now ≡ drop at text = c.range_from-rest.ensures.value in
    let whole : plain - 0 ≡ plain = omega arith in
    let front : c.range.result.now ≡ take plain (drop at text) =
    c.range.ensures.value ∙ ap (λ n. take n c.range_from-rest.result.now) whole ∙ ap (take plain) rest in
    let wrote : string_bytes c.push_str.new.self ≡ string_bytes c.loop-at.out ++ take plain (drop at text) =
    c.in_ok-push_str.ensures.bytes ∙ ap (λ more. string_bytes c.loop-at.out ++ more) front in
    let within : at ≤ length text = c.loop-at.invariant.boundary.0 in
    record {
      boundary = IsCharBoundary-from_rest text at plain within (subst (λ bytes. IsCharBoundary bytes plain) rest found.boundary);
      value =
          ap (λ out. out ++ filled_from arguments 0 (drop (at + plain) text)) wrote
          ∙ plain_step arguments text (string_bytes c.loop-at.out) (filled_from arguments 0 text) at plain (subst (λ bytes. plain ≤ length bytes) rest found.within)
          (λ k low. subst (λ bytes. is_brace (slice_index bytes k) ≡ false) rest (found.plain k low)) c.loop-at.invariant.value;
    }

pub loop-at-preserved : goal.loop-at-preserved
loop-at-preserved c =
    let text = c.args.text.now in
    let arguments = map string_bytes c.args.arguments.now in
    let at = c.loop-at.at in
    let width = c.in_ok-at.field-0 in
    let rest : c.range_from-rest.result.now ≡ drop at text = c.range_from-rest.ensures.value in
    let within : at < length text = omega arith in
    let upto : at ≤ length text = omega (arith, within) in
    let wide : width ≡ (piece_at arguments (drop at text)).width = c.in_ok-at.ensures.width ∙ ap (λ bytes. (piece_at arguments bytes).width) rest in
    let boundary : IsCharBoundary text (at + width) =
    IsCharBoundary-from_rest text at width upto (subst (λ bytes. IsCharBoundary bytes width) rest c.in_ok-at.ensures.boundary) in
    let wrote : string_bytes c.push_piece.new.out ≡ string_bytes c.loop-at.out ++ (piece_at arguments (drop at text)).text =
    c.in_ok-at.ensures.text ∙ ap (λ bytes. string_bytes c.loop-at.out ++ (piece_at arguments bytes).text) rest in
    record {
      boundary = boundary;
      value =
          ap (λ out. out ++ filled_from arguments 0 (drop (at + width) text)) wrote
          ∙ piece_step arguments text (string_bytes c.loop-at.out) (filled_from arguments 0 text) at width within wide c.in_ok-at.ensures.goes_on boundary.0 c.loop-at.invariant.value;
    }

pub returns : goal.returns
returns c =
    filled_end (map string_bytes c.args.arguments.now) c.args.text.now (string_bytes c.loop-at.out)
    (filled_from (map string_bytes c.args.arguments.now) 0 c.args.text.now) c.loop-at.at (omega arith) c.loop-at.invariant.value

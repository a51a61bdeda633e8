-- One block more.
use Rattle.std.proofs.Common.{◌≡◌, ℕ, List, Option, Bor, map, option_map, ◌++◌, ◌∷◌, [], ap, ◌∙◌}
use Rattle.std.proofs.lemmas.List.{map-append}
use Rattle.found_reports.specs.Listed.{held_in}
use Rattle.line_reports.specs.Asides.{AsideParts, aside_parts}
use Rattle.line_reports.proofs.AsideLemmas.{aside_push, blocks_more}
use Rattle.line_reports.proofs.asides.asides_at.Goals as goal

pub loop-rest-preserved : goal.loop-rest-preserved
loop-rest-preserved c =
    let told = held_in c.args.sources.now.entries.items in
    let lines : List (List ℕ) = map (λ (line : Bor (List ℕ)). line.now) c.args.lines.now in
    let old : List (Option AsideParts) = map (option_map aside_parts) c.loop-rest.all.items in
    let new : List (Option AsideParts) = map (option_map aside_parts) c.push.new.self.items in
    let put : new ≡ old ++ option_map aside_parts c.in_ok-aside.aside ∷ [] =
    ap (map (option_map aside_parts)) c.in_ok-push.ensures.items ∙ map-append (option_map aside_parts) c.loop-rest.all.items (c.in_ok-aside.aside ∷ []) in
    record {
      stand = aside_push told old new _ put c.loop-rest.invariant.stand c.in_ok-aside.ensures.stands;
      asides = blocks_more told lines c.loop-rest.names_left.now c.tail-names_left.result.now c.loop-rest.rest.now c.block-item.result old new _ c.in-len1-up.len_at_least c.block-item.is
          c.tail-names_left.ensures (put ∙ ap (λ (a : Option AsideParts). old ++ a ∷ []) c.in_ok-aside.ensures.aside) c.loop-rest.invariant.asides;
    }

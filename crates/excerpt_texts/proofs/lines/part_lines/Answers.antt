-- The lines of a part, in characters.
use Rattle.std.proofs.Common.{ℕ, List, Bor, map, take, drop, ap, sym, ◌∙◌}
use Rattle.std.proofs.lemmas.List.{drop-map, take-map}
use Rattle.excerpt_texts.proofs.lines.part_lines.Goals as goal

pub returns : goal.returns
returns c =
    ap (map (λ (line : Bor (List ℕ)). line.now)) (c.head.ensures ∙ ap (take c.args.part.lines) c.tail.ensures)
    ∙ (sym (take-map (λ (line : Bor (List ℕ)). line.now) c.args.part.lines (drop c.args.part.first c.args.lines.now)) ∙ ap (take c.args.part.lines) (sym (drop-map (λ (line : Bor (List ℕ)). line.now) c.args.part.first c.args.lines.now)))

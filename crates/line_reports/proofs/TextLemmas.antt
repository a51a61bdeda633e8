-- Lines without one of them.
use Rattle.std.proofs.Common.{◌≡◌, ℕ, suc, List, ◌++◌, map, take, drop, sym, ap₂, ◌∙◌}
use Rattle.std.specs.List.{remove}
use Rattle.std.proofs.lemmas.List.{drop-map, map-append, take-map}
use Rattle.excerpt_texts.specs.declared.lines.TextLine.{TextLine}
use Rattle.excerpt_texts.specs.Lines.{line_parts}

pub removed : (lines : List TextLine) (n : ℕ) → map line_parts (remove lines n) ≡ remove (map line_parts lines) n
removed lines n = map-append line_parts (take n lines) (drop (suc n) lines) ∙ ap₂ (λ a b. a ++ b) (sym (take-map line_parts n lines)) (sym (drop-map line_parts (suc n) lines))

use Rattle.std.proofs.Common.{◌≡◌, map, length, None, option_map, string_bytes}
use Rattle.excerpt_texts.specs.Labels.{texts_from}
use Rattle.excerpt_texts.proofs.labels.label_text.Given as goal

abbrev pub invariant-loop-rest : goal.invariant-loop-rest
invariant-loop-rest l = let lines = map (λ line. line.now) l.lines in
    texts_from lines l.label (option_map string_bytes l.all) l.rest ≡ texts_from lines l.label None l.texts

abbrev pub decreases-loop-rest : goal.decreases-loop-rest
decreases-loop-rest l = length l.rest

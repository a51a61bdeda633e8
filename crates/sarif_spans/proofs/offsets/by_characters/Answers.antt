-- A text may be cut behind its mark.
use Rattle.std.proofs.lemmas.Str.{IsCharBoundary-from_take}
use Rattle.sarif_spans.proofs.offsets.by_characters.Goals as goal

pub behind-requires : goal.behind-requires
behind-requires c =
    let mark = c.mark_len-mark.ensures.whole in
    IsCharBoundary-from_take c.args.text.now c.mark_len-mark.result c.utf8.text mark.within mark.utf8

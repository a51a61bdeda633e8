use Rattle.std.proofs.Common.{◌≡◌, ◌∙◌, ◌*◌, ◌≤◌, ℕ, List, length, take, sym, ap, subst, encode_utf8, IsCharBoundary}
use Rattle.std.proofs.lemmas.Str.{IsUtf8-encode}
use Rattle.textwrap.proofs.PiecesLemmas.{range_front}
use Rattle.oxc_handlers.proofs.CellsLemmas.{front_repeated, front_boundary}
use Rattle.oxc_handlers.proofs.runs.front_of.Goals as goal

pub range-requires-clause-end_boundary : goal.range-requires-clause-end_boundary
range-requires-clause-end_boundary c =
    let cut = front_boundary c.args.count 128 c.args.block.now (encode_utf8 c.args.c) c.requires.few c.requires.block (IsUtf8-encode c.args.c c.ranges.c.0) in
    subst (λ k. IsCharBoundary c.args.block.now (c.args.count * k)) (sym c.len_utf8.ensures.len) cut

pub returns : goal.returns
returns c =
    c.range.ensures.value
    ∙ range_front c.args.block.now (c.args.count * c.len_utf8.result)
    ∙ ap (λ k. take (c.args.count * k) c.args.block.now) c.len_utf8.ensures.len
    ∙ front_repeated c.args.count 128 c.args.block.now (encode_utf8 c.args.c) c.requires.few c.requires.block

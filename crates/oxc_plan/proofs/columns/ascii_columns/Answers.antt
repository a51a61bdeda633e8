use Rattle.std.proofs.Common.{true, false, ◌≡◌, ◌∙◌, ◌≤◌, ap, subst, length, take, arith}
use Rattle.std.specs.Prelude.{All}
use Rattle.std.specs.Str.{IsAscii, IsNotAscii}
use Rattle.std.proofs.lemmas.Bool.{MatchBool-at_false, MatchBool-at_true}
use Rattle.std.proofs.lemmas.List.{length-take}
use Rattle.oxc_plan.proofs.FrontLemmas.{column_printable, front_end, front_start, front_taken}
use Rattle.oxc_plan.proofs.columns.ascii_columns.Goals as goal

pub returns-then-is_printable-clause-first : goal.returns-then-is_printable-clause-first
returns-then-is_printable-clause-first c =
    let text = c.args.text.now in
    let front : take c.min.result c.as_bytes.result.now ≡ take c.args.end text = ap (take c.min.result) c.as_bytes.ensures.value ∙ front_taken text c.args.end c.min.result c.min.ensures in
    let within : c.args.end ≤ length text = omega (arith, c.if-end-front.true, c.min.ensures, length-take c.min.result c.as_bytes.result.now) in
    column_printable c.args.tabs text c.args.start c.args.end true c.utf8.text c.requires.ordered within
    (subst (All (λ byte. (0x20 ≤ byte) × (byte ≤ 0x7E))) front (c.is_printable.ensures.0 c.if-is_printable.true))

pub returns-then-is_printable-clause-past : goal.returns-then-is_printable-clause-past
returns-then-is_printable-clause-past c =
    let text = c.args.text.now in
    let front : take c.min.result c.as_bytes.result.now ≡ take c.args.end text = ap (take c.min.result) c.as_bytes.ensures.value ∙ front_taken text c.args.end c.min.result c.min.ensures in
    let within : c.args.end ≤ length text = omega (arith, c.if-end-front.true, c.min.ensures, length-take c.min.result c.as_bytes.result.now) in
    column_printable c.args.tabs text c.args.end c.args.end false c.utf8.text (omega arith) within
    (subst (All (λ byte. (0x20 ≤ byte) × (byte ≤ 0x7E))) front (c.is_printable.ensures.0 c.if-is_printable.true))

pub returns-then-not-is_ascii-clause-given : goal.returns-then-not-is_ascii-clause-given
returns-then-not-is_ascii-clause-given c ascii =
    let front = take c.min.result c.as_bytes.result.now in
    let same : front ≡ take c.args.end c.args.text.now = ap (take c.min.result) c.as_bytes.ensures.value ∙ front_taken c.args.text.now c.args.end c.min.result c.min.ensures in
    let other : IsNotAscii front = MatchBool-at_false (IsAscii front) (IsNotAscii front) c.if-not-is_ascii.true c.is_ascii.ensures.cases in
    let other_text : IsNotAscii (take c.args.end c.args.text.now) = subst IsNotAscii same other in
    absurd (omega (arith, other_text.1, ascii other_text.0))

pub returns-clause-first : goal.returns-clause-first
returns-clause-first c =
    let front = take c.min.result c.as_bytes.result.now in
    let ascii : IsAscii front = MatchBool-at_true (IsAscii front) (IsNotAscii front) c.if-not-is_ascii.false c.is_ascii.ensures.cases in
    front_start c.args.tabs c.args.text.now front c.args.start c.args.end c.min.result c.min-before.result c.from.result c.pen_over-at_start.result c.utf8.text ascii
    (ap (take c.min.result) c.as_bytes.ensures.value) c.min.ensures c.requires.ordered c.min-before.ensures c.pen_over-at_start.ensures.exact c.from.ensures

pub returns-clause-past : goal.returns-clause-past
returns-clause-past c =
    let front = take c.min.result c.as_bytes.result.now in
    let ascii : IsAscii front = MatchBool-at_true (IsAscii front) (IsNotAscii front) c.if-not-is_ascii.false c.is_ascii.ensures.cases in
    front_end c.args.tabs c.args.text.now front c.args.end c.min.result c.min-before.result c.from-2.result c.pen_over-at_start.result c.pen_over-at_end.result c.utf8.text ascii
    (ap (take c.min.result) c.as_bytes.ensures.value) c.min.ensures (omega (arith, c.min-before.ensures)) c.pen_over-at_start.ensures.exact c.pen_over-at_end.ensures.exact c.from-2.ensures

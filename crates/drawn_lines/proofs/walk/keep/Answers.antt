use Rattle.std.proofs.Common.{◌++◌, [], map, string_bytes, ap, refl, ◌∙◌}
use Rattle.found_reports.specs.Listed.{held_in}
use Rattle.tool_lines.specs.Lines.{piece_parts}
use Rattle.line_reports.specs.Pieces.{read_parts}
use Rattle.drawn_lines.specs.Lines.{drawings_before, kept_if, reports_before, still}
use Rattle.drawn_lines.specs.Counts.{count_of}
use Rattle.drawn_lines.specs.Walk.{before_of}
use Rattle.drawn_lines.specs.declared.count.Count.{Count}
use Rattle.drawn_lines.proofs.WalkLemmas.{keep_counts, keep_is}
use Rattle.drawn_lines.proofs.walk.keep.Goals as goal

pub returns-clause-walked : goal.returns-clause-walked
returns-clause-walked c = λ rest.
    let given = held_in c.args.sources.now.entries.items in
    let from = map (λ line. line.now) c.args.walk.from.now in
    let found = reports_before c.args.asked.now given from (before_of c.args.walk) in
    let drawn_is = c.in_ok-here.ensures.text ∙ ap (λ b. string_bytes c.args.walk.text ++ drawings_before c.args.asked.now given c.args.walk.most from (map read_parts b)) c.front-before.ensures in
    let count_is = c.in_ok-here.ensures.count ∙ ap (λ b. count_of c.args.asked.now (reports_before c.args.asked.now given from (map read_parts b))) c.front-before.ensures in
    let pushed = c.in_ok-push_kept.ensures
    ∙ ap (λ painted. string_bytes c.push_reports.new.text ++ kept_if c.args.asked.now painted (piece_parts c.args.piece.now.piece) (map (λ line. line.now) c.front-run.result.now)) c.has_colors.ensures in
    keep_is c.args.asked.now given c.args.walk.most c.still.result (string_bytes c.args.walk.text) (string_bytes c.push_reports.new.text)
    (string_bytes c.push_kept.new.text) (before_of c.args.walk) [] c.args.piece.now c.args.walk.from.now c.args.walk.left.now c.args.walk.shown.now c.front-run.result.now
    c.behind-left.result.now c.behind-shown.result.now found rest c.requires.kept refl refl drawn_is c.front-run.ensures pushed
    c.behind-left.ensures c.behind-shown.ensures
    (c.still.ensures ∙ ap (still c.args.walk.most) (ap (λ (k : Count). k.total) count_is))

pub returns-clause-counted : goal.returns-clause-counted
returns-clause-counted c = λ rest.
    let given = held_in c.args.sources.now.entries.items in
    let from = map (λ line. line.now) c.args.walk.from.now in
    let count_is = c.in_ok-here.ensures.count ∙ ap (λ b. count_of c.args.asked.now (reports_before c.args.asked.now given from (map read_parts b))) c.front-before.ensures in
    keep_counts c.args.asked.now given c.args.walk.count c.in_ok-here.here c.in_ok-added.field-0 (before_of c.args.walk) [] c.args.piece.now c.args.walk.from.now
    c.args.walk.left.now c.behind-left.result.now rest c.requires.kept refl count_is c.in_ok-added.ensures c.behind-left.ensures

use Rattle.std.proofs.Common.{◌∙◌, ◌++◌, ap, map, string_bytes, refl}
use Rattle.found_reports.specs.Listed.{held_in}
use Rattle.line_reports.specs.Pieces.{read_parts}
use Rattle.drawn_lines.specs.Lines.{drawings_before, reports_before}
use Rattle.drawn_lines.specs.Counts.{count_of}
use Rattle.drawn_lines.specs.Walk.{before_of}
use Rattle.drawn_lines.proofs.WalkLemmas.{finish_counts, finish_is}
use Rattle.drawn_lines.proofs.walk.finish.Goals as goal

pub returns-clause-text : goal.returns-clause-text
returns-clause-text c =
    let given = held_in c.args.sources.now.entries.items in
    let from = map (λ line. line.now) c.args.walk.from.now in
    let found = reports_before c.args.asked.now given from (before_of c.args.walk) in
    finish_is c.args.asked.now given c.args.walk.most (string_bytes c.args.walk.text) (string_bytes c.push_reports.new.text) (before_of c.args.walk)
    c.args.walk.from.now c.args.walk.left.now c.args.walk.shown.now found refl
    (c.in_ok-here.ensures.text ∙ ap (λ b. string_bytes c.args.walk.text ++ drawings_before c.args.asked.now given c.args.walk.most from (map read_parts b)) c.front-before.ensures)

pub returns-clause-count : goal.returns-clause-count
returns-clause-count c =
    let given = held_in c.args.sources.now.entries.items in
    let from = map (λ line. line.now) c.args.walk.from.now in
    finish_counts c.args.asked.now given c.args.walk.count c.in_ok-here.here c.in_ok-count.count (before_of c.args.walk)
    c.args.walk.from.now c.args.walk.left.now
    (c.in_ok-here.ensures.count ∙ ap (λ b. count_of c.args.asked.now (reports_before c.args.asked.now given from (map read_parts b))) c.front-before.ensures) c.in_ok-count.ensures

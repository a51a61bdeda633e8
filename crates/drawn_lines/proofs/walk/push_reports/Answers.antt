-- Nothing is appended for no pieces; else the drawings of their reports are.
use Rattle.std.proofs.Common.{◌≡◌, ◌++◌, length, map, string_bytes, ap, ap₂, sym, append-nil, ◌∙◌}
use Rattle.line_reports.specs.Reports.{reports_in}
use Rattle.std.proofs.lemmas.Bool.Decides.{Decides-eqb}
use Rattle.std.proofs.lemmas.List.{length-map}
use Rattle.found_reports.specs.Listed.{held_in}
use Rattle.line_reports.specs.Pieces.{read_parts}
use Rattle.drawn_lines.specs.Lines.{reports_before}
use Rattle.drawn_lines.specs.Counts.{count_of}
use Rattle.drawn_lines.proofs.CountLemmas.{none_counted}
use Rattle.drawn_lines.proofs.WalkLemmas.{first_is, none_before, nothing_drawn}
use Rattle.drawn_lines.proofs.walk.push_reports.Goals as goal

pub returns-then-is_empty-clause-text : goal.returns-then-is_empty-clause-text
returns-then-is_empty-clause-text c =
    let given = held_in c.args.sources.now.entries.items in
    let from = map (λ line. line.now) c.args.from.now in
    let before = map read_parts c.args.before.now in
    let none = none_before c.args.asked.now given from before (length-map c.args.before.now read_parts ∙ (Decides-eqb (length c.args.before.now) 0).0 (sym c.is_empty.ensures ∙ c.if-is_empty.true)) in
    sym (append-nil (string_bytes c.args.text.now))
    ∙ ap (λ t. string_bytes c.args.text.now ++ t) (sym (nothing_drawn c.args.asked.now c.args.most (reports_before c.args.asked.now given from before) none))

pub returns-then-is_empty-clause-count : goal.returns-then-is_empty-clause-count
returns-then-is_empty-clause-count c =
    let given = held_in c.args.sources.now.entries.items in
    let from = map (λ line. line.now) c.args.from.now in
    let none = none_before c.args.asked.now given from (map read_parts c.args.before.now) (length-map c.args.before.now read_parts ∙ (Decides-eqb (length c.args.before.now) 0).0 (sym c.is_empty.ensures ∙ c.if-is_empty.true)) in
    c.none.ensures ∙ sym (ap (count_of c.args.asked.now) none ∙ none_counted c.args.asked.now)

pub returns-clause-text : goal.returns-clause-text
returns-clause-text c =
    let given = held_in c.args.sources.now.entries.items in
    let from = map (λ line. line.now) c.args.from.now in
    let before = map read_parts c.args.before.now in
    let found : c.in_ok-found.found.found ≡ reports_before c.args.asked.now given from before =
    c.in_ok-found.ensures.found ∙ ap₂ (λ columns its. reports_in columns (held_in its.entries.items) from before) c.columns_of.ensures c.indexed.ensures in
    c.in_ok-push.ensures.text
    ∙ ap (λ t. string_bytes c.args.text.now ++ t)
    (first_is c.args.asked.now c.args.drawings.now c.args.sources.now.entries.items c.args.most c.in_ok-found.found.found (reports_before c.args.asked.now given from before) c.requires found)

-- A line more is held, and nothing of the next one.
use Rattle.std.proofs.Common.{◌∷◌, [], map, ap, ◌∙◌}
use Rattle.std.proofs.lemmas.List.{map-append}
use Rattle.drawn_lines.specs.Text.{read_line}
use Rattle.drawn_lines.proofs.HeldLemmas.{line_came, one_more}
use Rattle.drawn_lines.proofs.held.HeldLines.with_line.Goals as goal

pub returns-clause-came : goal.returns-clause-came
returns-clause-came c = λ more.
    line_came (record { lines = c.push.new.self; came = c.push-2.new.self; tail = c.new.result; begun = c.args.self.begun }) c.args.self c.args.part.now c.extend_from_slice.new.self.items more c.requires
    c.in_ok-extend_from_slice.ensures.items
    (ap (map (λ l. l.items)) c.in_ok-push-2.ensures.items ∙ map-append (λ l. l.items) c.args.self.came.items (c.extend_from_slice.new.self ∷ [])) c.new.ensures.items

pub returns-clause-read : goal.returns-clause-read
returns-clause-read c = λ before.
    let line = c.in_ok-read_line.field-0 in
    one_more (record { lines = c.push.new.self; came = c.push-2.new.self; tail = c.new.result; begun = c.args.self.begun }) c.args.self c.extend_from_slice.new.self.items line.items
    (ap (map (λ l. l.items)) c.in_ok-push.ensures.items ∙ map-append (λ l. l.items) c.args.self.lines.items (line ∷ []))
    (ap (map (λ l. l.items)) c.in_ok-push-2.ensures.items ∙ map-append (λ l. l.items) c.args.self.came.items (c.extend_from_slice.new.self ∷ []))
    (c.in_ok-read_line.ensures ∙ ap read_line c.deref.ensures.value) before

-- What is left is a line more.
use Rattle.std.proofs.Common.{◌∷◌, [], map, sym, ap, ◌∙◌}
use Rattle.std.proofs.lemmas.List.{map-append}
use Rattle.tool_lines.specs.Lines.{without_cr}
use Rattle.tool_lines.specs.Paint.{unpainted}
use Rattle.drawn_lines.proofs.HeldLemmas.{ended_some, one_more, read_is, some_items}
use Rattle.drawn_lines.proofs.held.HeldLines.with_end.Goals as goal

pub returns-clause-came : goal.returns-clause-came
returns-clause-came c =
    ended_some c.args.self c.in_ok-plain.plain.items (map (λ l. l.items) c.push-2.new.self.items)
    (c.in_ok-plain.ensures.text ∙ ap unpainted c.deref.ensures.value) (some_items c.in_ok-plain.plain (sym c.is_empty.ensures ∙ c.if-is_empty.false))
    (ap (map (λ l. l.items)) c.in_ok-push-2.ensures.items ∙ map-append (λ l. l.items) c.args.self.came.items (c.args.self.tail ∷ []))

pub returns-clause-read : goal.returns-clause-read
returns-clause-read c = λ before.
    let line = c.without_its_cr.result in
    one_more (record { lines = c.push.new.self; came = c.push-2.new.self; tail = c.new.result; begun = c.args.self.begun }) c.args.self c.args.self.tail.items line.items
    (ap (map (λ l. l.items)) c.in_ok-push.ensures.items ∙ map-append (λ l. l.items) c.args.self.lines.items (line ∷ []))
    (ap (map (λ l. l.items)) c.in_ok-push-2.ensures.items ∙ map-append (λ l. l.items) c.args.self.came.items (c.args.self.tail ∷ []))
    (c.without_its_cr.ensures ∙ (ap without_cr (c.in_ok-plain.ensures.text ∙ ap unpainted c.deref.ensures.value) ∙ read_is c.args.self.tail.items)) before

-- The lines of the whole came, and are read.
use Rattle.std.proofs.Common.{◌++◌, [], ap, ◌∙◌, append-nil}
use Rattle.drawn_lines.specs.Text.{came_of}
use Rattle.drawn_lines.proofs.HeldLemmas.{whole_read}
use Rattle.drawn_lines.proofs.held.lines_of.Goals as goal

pub returns-clause-lines : goal.returns-clause-lines
returns-clause-lines c =
    let held = c.in_ok-held.ensures in
    whole_read c.in_ok-held.held c.in_ok-ended.field-0 c.args.text.now c.in_ok-ended.ensures.came
    (held.came [] ∙ (c.new.ensures.came (c.args.text.now ++ []) ∙ ap came_of (append-nil c.args.text.now))) (c.in_ok-ended.ensures.read (held.read c.new.ensures.read))

-- What is new is measured.
use Rattle.std.proofs.Common.{◌∙◌, ap, length, arith}
use Rattle.excerpt_rows.specs.Expansion.{bytes_of, cells_of, shown}
use Rattle.excerpt_rows.proofs.ExpansionLemmas.{bytes_append, bytes_few, cells_append, cells_few, new_part, shown_few}
use Rattle.excerpt_rows.proofs.expansion.Printed.show.Goals as goal

pub size_of-cells-requires : goal.size_of-cells-requires
size_of-cells-requires c =
    let old = c.args.self.now.text.items in
    let part = new_part old c.deref.result.now (shown c.args.rule old c.args.c) c.len-from.result (c.len-from.ensures ∙ c.args.self.now.text.ok.0) (c.deref.ensures.value ∙ c.in_ok-push_shown.ensures) in
    omega (arith, ap length part, shown_few c.args.rule old c.args.c)

pub overflow_add-self : goal.overflow_add-self
overflow_add-self c =
    let old = c.args.self.now.text.items in
    let part = new_part old c.deref.result.now (shown c.args.rule old c.args.c) c.len-from.result (c.len-from.ensures ∙ c.args.self.now.text.ok.0) (c.deref.ensures.value ∙ c.in_ok-push_shown.ensures) in
    omega (arith, c.requires.measured.cells, cells_few old, c.requires.few, c.size_of-cells.ensures.cells ∙ ap cells_of part, cells_few (shown c.args.rule old c.args.c), shown_few c.args.rule old c.args.c)

pub overflow_add-self-2 : goal.overflow_add-self-2
overflow_add-self-2 c =
    let old = c.args.self.now.text.items in
    let part = new_part old c.deref.result.now (shown c.args.rule old c.args.c) c.len-from.result (c.len-from.ensures ∙ c.args.self.now.text.ok.0) (c.deref.ensures.value ∙ c.in_ok-push_shown.ensures) in
    omega (arith, c.requires.measured.bytes, bytes_few old, c.requires.few, c.size_of-cells.ensures.bytes ∙ ap bytes_of part, bytes_few (shown c.args.rule old c.args.c), shown_few c.args.rule old c.args.c)

pub returns-clause-measured : goal.returns-clause-measured
returns-clause-measured c =
    let old = c.args.self.now.text.items in
    let part = new_part old c.deref.result.now (shown c.args.rule old c.args.c) c.len-from.result (c.len-from.ensures ∙ c.args.self.now.text.ok.0) (c.deref.ensures.value ∙ c.in_ok-push_shown.ensures) in
    record {
      cells = omega (arith, c.requires.measured.cells, c.size_of-cells.ensures.cells ∙ ap cells_of part, cells_append old (shown c.args.rule old c.args.c), ap cells_of c.in_ok-push_shown.ensures);
      bytes = omega (arith, c.requires.measured.bytes, c.size_of-cells.ensures.bytes ∙ ap bytes_of part, bytes_append old (shown c.args.rule old c.args.c), ap bytes_of c.in_ok-push_shown.ensures);
    }

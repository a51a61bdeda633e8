use Rattle.std.proofs.Common.{arith, subst, ap, ◌∙◌, slice_range}
use Rattle.std.specs.Str.{IsAscii}
use Rattle.std.specs.String.{string_bytes}
use Rattle.text_places.specs.Bytes.{begun}
use Rattle.text_places.proofs.UnitsLemmas.{before-between}
use Rattle.text_places.proofs.ScanLemmas.{ascii_before}
use Rattle.text_places.proofs.page_text.PageText.units.Goals as goal

pub overflow_cast-result : goal.overflow_cast-result
overflow_cast-result c =
    let ascii = subst (λ s. IsAscii (string_bytes s)) c.self.view_is (c.self.invariant.0 c.if-self.true) in
    omega (arith, ascii_before c.args.encoding (string_bytes c.args.self.now) c.args.to ascii c.requires.within, c.requires.few)

pub returns-then-self : goal.returns-then-self
returns-then-self c =
    let bytes = string_bytes c.args.self.now in
    let ascii = subst (λ s. IsAscii (string_bytes s)) c.self.view_is (c.self.invariant.0 c.if-self.true) in
    omega (arith, ascii_before c.args.encoding bytes c.args.from ascii (omega (arith, c.requires.ordered, c.requires.within)), ascii_before c.args.encoding bytes c.args.to ascii c.requires.within)

pub count_units-requires : goal.count_units-requires
count_units-requires c =
    let same = c.as_bytes.ensures.value ∙ ap string_bytes c.self.view_is in
    let part = ap (λ l. begun c.args.encoding (slice_range l c.args.from c.args.to)) same in
    omega (arith, part, before-between c.args.encoding (string_bytes c.args.self.now) c.args.from c.args.to c.requires.ordered, c.requires.few)

pub returns-else-self : goal.returns-else-self
returns-else-self c =
    let same = c.as_bytes.ensures.value ∙ ap string_bytes c.self.view_is in
    let part = ap (λ l. begun c.args.encoding (slice_range l c.args.from c.args.to)) same in
    omega (arith, c.count_units.ensures, part, before-between c.args.encoding (string_bytes c.args.self.now) c.args.from c.args.to c.requires.ordered)

use Rattle.std.proofs.Common.{◌≡◌, ◌++◌, List, ℕ, Bor, map, sym, ap, ◌∙◌, string_bytes, append_assoc, OnOk}
use Rattle.textwrap.specs.Filled.{filled, joined_by_breaks, filled_parts}
use Rattle.textwrap.specs.OneLine.{FitsOnLine}
use Rattle.textwrap.proofs.OneLine.{line_behind_text}
use Rattle.textwrap.proofs.filling.fill_onto.Goals as goal

pub returns-then-fits_on_line : goal.returns-then-fits_on_line
returns-then-fits_on_line c =
    let fit : FitsOnLine c.least_room.result c.args.text.now = c.fits_on_line.ensures.0 c.if-fits_on_line.true in
    line_behind_text (string_bytes c.args.out.now) (string_bytes c.push_str.new.self) (string_bytes c.push_str-then-fits_on_line.new.self) c.args.options.now.width c.least_room.result c.args.options.now.initial_indent.now c.args.options.now.subsequent_indent.now c.args.text.now
    c.utf8.text c.least_room.ensures fit c.in_ok-push_str.ensures.bytes c.in_ok-push_str-2.ensures.bytes

pub returns : goal.returns
unfolding filled
returns c =
    let width : ℕ = c.args.options.now.width in
    let first : List ℕ = c.args.options.now.initial_indent.now in
    let later : List ℕ = c.args.options.now.subsequent_indent.now in
    let same = ap (λ (ps : List (Bor (List ℕ))). map (λ part. part.now) ps) c.deref.ensures.value ∙ c.in_ok-parts.ensures in
    rw (sym same) c.push_parts.ensures

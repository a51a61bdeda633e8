-- The text begins with the row, and what follows is blank.
use Rattle.std.proofs.Common.{◌-◌, ◌∙◌, ap, drop, length, take}
use Rattle.std.specs.List.{list_all}
use Rattle.std.proofs.lemmas.List.{take_rest}
use Rattle.excerpt_rows.specs.Ends.{is_blank}
use Rattle.excerpt_rows.proofs.AlignmentLemmas.{not_whole, whole_if}
use Rattle.excerpt_rows.proofs.alignment.is_whole.Goals as goal

pub returns-then-not-starts_with : goal.returns-then-not-starts_with
returns-then-not-starts_with c =
    let printed = c.args.printed.now in
    not_whole printed c.args.text.now (take (length printed - c.args.spare) (drop c.args.spare printed)) c.args.spare c.starts_with.result c.requires.value (take_rest printed c.args.spare)
    c.starts_with.ensures.value c.if-not-starts_with.true

pub returns : goal.returns
returns c =
    let printed = c.args.printed.now in
    whole_if printed c.args.text.now (take (length printed - c.args.spare) (drop c.args.spare printed)) c.args.spare c.starts_with.result c.are_blank.result c.requires.value (take_rest printed c.args.spare)
    c.starts_with.ensures.value c.if-not-starts_with.false
    (c.are_blank.ensures ∙ ap (list_all is_blank) (take_rest c.args.text.now (length (take (length printed - c.args.spare) (drop c.args.spare printed)))))

-- UTF-8 is read as it is.
use Rattle.std.proofs.Common.{◌≡◌, ◌∙◌, sym, subst, OnOk}
use Rattle.std.proofs.lemmas.Str.{utf8_lossy-IsUtf8}
use Rattle.build_dirs.specs.Dirs.{dirs_parts, taken}
use Rattle.drawn_lines.proofs.naming.take_line.Goals as goal

pub returns-in-Ok : goal.returns-in-Ok
returns-in-Ok c =
    subst (λ t. OnOk c.take_text.result (dirs_parts c.take_text.new.dirs ≡ taken (dirs_parts c.args.dirs.now) t))
    (c.in-Ok.ensures.cases.0 ∙ sym (utf8_lossy-IsUtf8 c.args.line.now c.in-Ok.ensures.cases.1)) c.take_text.ensures

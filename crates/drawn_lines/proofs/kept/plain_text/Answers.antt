-- UTF-8 is read as it is.
use Rattle.std.proofs.Common.{◌≡◌, ◌∙◌, sym, subst, IfOk, string_bytes}
use Rattle.std.proofs.lemmas.Str.{utf8_lossy-IsUtf8}
use Rattle.harmless.specs.declared.Kind.TheVariants.{Prose}
use Rattle.shown_reports.specs.Shown.{shown_text}
use Rattle.drawn_lines.proofs.kept.plain_text.Goals as goal

pub returns-in-Ok : goal.returns-in-Ok
returns-in-Ok c =
    subst (λ t. IfOk c.shown_text.result (λ out. string_bytes out ≡ shown_text c.args.raw Prose t))
    (c.in-Ok.ensures.cases.0 ∙ sym (utf8_lossy-IsUtf8 c.args.line.now c.in-Ok.ensures.cases.1)) c.shown_text.ensures

-- UTF-8 is read as it is.
use Rattle.std.proofs.Common.{◌≡◌, ◌++◌, ◌∷◌, [], ◌∙◌, sym, subst, OnOk, string_bytes}
use Rattle.std.proofs.lemmas.Str.{utf8_lossy-IsUtf8}
use Rattle.build_dirs.proofs.again.push_bytes.Goals as goal

pub returns-in-Ok : goal.returns-in-Ok
returns-in-Ok c =
    subst (λ t. OnOk c.push_line.result (string_bytes c.push_line.new.key ≡ string_bytes c.args.key.now ++ (c.args.tag.now ++ (t ++ 0x0A ∷ []))))
    (c.in-Ok.ensures.cases.0 ∙ sym (utf8_lossy-IsUtf8 c.args.line.now c.in-Ok.ensures.cases.1)) c.push_line.ensures

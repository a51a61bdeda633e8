use Rattle.std.proofs.Common.{◌≡◌, get_or, subst, ◌∙◌}
use Rattle.line_reports.proofs.FileLemmas.{text_read}
use Rattle.json_reports.proofs.gathered.Gathered.text.Goals as goal

pub returns-in-Some : goal.returns-in-Some
returns-in-Some c =
    c.lent.ensures
    ∙ text_read c.args.self.now.texts.items c.args.self.now.found.files c.args.file c.in-Some.text.now c.requires.file c.requires.texts
    (subst (λ texts. c.in-Some.text.now ≡ get_or texts c.args.file c.in-Some.text.now) c.deref.ensures.value c.in-Some.ensures.lookup.1)

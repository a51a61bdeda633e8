use Rattle.std.proofs.Common.{sym, ap, ◌∙◌, length, string_bytes}
use Rattle.source_edit.proofs.StepsLemmas.{depth_is}
use Rattle.source_edit.proofs.edit_text.EditText.depth.Goals as goal

pub returns : goal.returns
returns c = c.len.ensures ∙ c.self.inside.steps.ok.0 ∙ sym (depth_is (string_bytes c.self.inside.text) c.self.inside.steps.items) ∙ ap (λ value. length value.history) c.self.view_is

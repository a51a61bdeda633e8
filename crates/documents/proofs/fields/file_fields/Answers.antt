-- Each key was taken out of the members that the ones before left.
use Rattle.std.proofs.Common.{[], ◌∷◌, ◌∙◌, sym, refl, ap, codes}
use Rattle.serde_json.specs.Find.{get_member}
use Rattle.serde_json.specs.View.{members_view}
use Rattle.documents.specs.Kinds.{only_keys, without}
use Rattle.documents.specs.Document.{file_keys}
use Rattle.documents.proofs.KeyLemmas.{get_others, only_all}
use Rattle.documents.proofs.fields.file_fields.Goals as goal

pub returns-clause-source : goal.returns-clause-source
returns-clause-source c =
    let left-1 = c.take.ensures.left in
    c.take-2.ensures.value ∙ ap (get_member (codes "source")) left-1 ∙ get_others (codes "name" ∷ []) (codes "source") (members_view c.args.members.entries) refl

pub returns-clause-all : goal.returns-clause-all
returns-clause-all c =
    let left-1 = c.take.ensures.left in
    let left-2 = c.take-2.ensures.left ∙ ap (without (codes "source")) left-1 in
    c.is_empty.ensures ∙ ap (only_keys []) left-2 ∙ sym (only_all file_keys (members_view c.args.members.entries))

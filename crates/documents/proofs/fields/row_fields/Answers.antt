-- Each key was taken out of the members that the ones before left.
use Rattle.std.proofs.Common.{[], ◌∷◌, ◌∙◌, sym, refl, ap, codes}
use Rattle.serde_json.specs.Find.{get_member}
use Rattle.serde_json.specs.View.{members_view}
use Rattle.documents.specs.Kinds.{only_keys, without}
use Rattle.documents.specs.Document.{row_keys}
use Rattle.documents.proofs.KeyLemmas.{get_others, only_all}
use Rattle.documents.proofs.fields.row_fields.Goals as goal

pub returns-clause-end : goal.returns-clause-end
returns-clause-end c =
    let left-1 = c.take.ensures.left in
    c.take-2.ensures.value ∙ ap (get_member (codes "end")) left-1 ∙ get_others (codes "start" ∷ []) (codes "end") (members_view c.args.members.entries) refl

pub returns-clause-text : goal.returns-clause-text
returns-clause-text c =
    let left-1 = c.take.ensures.left in
    let left-2 = c.take-2.ensures.left ∙ ap (without (codes "end")) left-1 in
    c.take-3.ensures.value ∙ ap (get_member (codes "text")) left-2 ∙ get_others (codes "start" ∷ codes "end" ∷ []) (codes "text") (members_view c.args.members.entries) refl

pub returns-clause-primary : goal.returns-clause-primary
returns-clause-primary c =
    let left-1 = c.take.ensures.left in
    let left-2 = c.take-2.ensures.left ∙ ap (without (codes "end")) left-1 in
    let left-3 = c.take-3.ensures.left ∙ ap (without (codes "text")) left-2 in
    c.take-4.ensures.value ∙ ap (get_member (codes "primary")) left-3 ∙ get_others (codes "start" ∷ codes "end" ∷ codes "text" ∷ []) (codes "primary") (members_view c.args.members.entries) refl

pub returns-clause-all : goal.returns-clause-all
returns-clause-all c =
    let left-1 = c.take.ensures.left in
    let left-2 = c.take-2.ensures.left ∙ ap (without (codes "end")) left-1 in
    let left-3 = c.take-3.ensures.left ∙ ap (without (codes "text")) left-2 in
    let left-4 = c.take-4.ensures.left ∙ ap (without (codes "primary")) left-3 in
    c.is_empty.ensures ∙ ap (only_keys []) left-4 ∙ sym (only_all row_keys (members_view c.args.members.entries))

-- Each key was taken out of the members that the ones before left.
use Rattle.std.proofs.Common.{[], ◌∷◌, ◌∙◌, sym, refl, ap, codes}
use Rattle.serde_json.specs.Find.{get_member}
use Rattle.serde_json.specs.View.{members_view}
use Rattle.documents.specs.Kinds.{only_keys, without}
use Rattle.documents.specs.Document.{report_keys}
use Rattle.documents.proofs.KeyLemmas.{get_others, only_all}
use Rattle.documents.proofs.fields.report_fields.Goals as goal

pub returns-clause-labels : goal.returns-clause-labels
returns-clause-labels c =
    let left-1 = c.take.ensures.left in
    c.take-2.ensures.value ∙ ap (get_member (codes "labels")) left-1 ∙ get_others (codes "file" ∷ []) (codes "labels") (members_view c.args.members.entries) refl

pub returns-clause-message : goal.returns-clause-message
returns-clause-message c =
    let left-1 = c.take.ensures.left in
    let left-2 = c.take-2.ensures.left ∙ ap (without (codes "labels")) left-1 in
    c.take-3.ensures.value ∙ ap (get_member (codes "message")) left-2 ∙ get_others (codes "file" ∷ codes "labels" ∷ []) (codes "message") (members_view c.args.members.entries) refl

pub returns-clause-severity : goal.returns-clause-severity
returns-clause-severity c =
    let left-1 = c.take.ensures.left in
    let left-2 = c.take-2.ensures.left ∙ ap (without (codes "labels")) left-1 in
    let left-3 = c.take-3.ensures.left ∙ ap (without (codes "message")) left-2 in
    c.take-4.ensures.value ∙ ap (get_member (codes "severity")) left-3 ∙ get_others (codes "file" ∷ codes "labels" ∷ codes "message" ∷ []) (codes "severity") (members_view c.args.members.entries) refl

pub returns-clause-scope : goal.returns-clause-scope
returns-clause-scope c =
    let left-1 = c.take.ensures.left in
    let left-2 = c.take-2.ensures.left ∙ ap (without (codes "labels")) left-1 in
    let left-3 = c.take-3.ensures.left ∙ ap (without (codes "message")) left-2 in
    let left-4 = c.take-4.ensures.left ∙ ap (without (codes "severity")) left-3 in
    c.take-5.ensures.value ∙ ap (get_member (codes "scope")) left-4 ∙ get_others (codes "file" ∷ codes "labels" ∷ codes "message" ∷ codes "severity" ∷ []) (codes "scope") (members_view c.args.members.entries) refl

pub returns-clause-number : goal.returns-clause-number
returns-clause-number c =
    let left-1 = c.take.ensures.left in
    let left-2 = c.take-2.ensures.left ∙ ap (without (codes "labels")) left-1 in
    let left-3 = c.take-3.ensures.left ∙ ap (without (codes "message")) left-2 in
    let left-4 = c.take-4.ensures.left ∙ ap (without (codes "severity")) left-3 in
    let left-5 = c.take-5.ensures.left ∙ ap (without (codes "scope")) left-4 in
    c.take-6.ensures.value ∙ ap (get_member (codes "number")) left-5 ∙ get_others (codes "file" ∷ codes "labels" ∷ codes "message" ∷ codes "severity" ∷ codes "scope" ∷ []) (codes "number") (members_view c.args.members.entries) refl

pub returns-clause-help : goal.returns-clause-help
returns-clause-help c =
    let left-1 = c.take.ensures.left in
    let left-2 = c.take-2.ensures.left ∙ ap (without (codes "labels")) left-1 in
    let left-3 = c.take-3.ensures.left ∙ ap (without (codes "message")) left-2 in
    let left-4 = c.take-4.ensures.left ∙ ap (without (codes "severity")) left-3 in
    let left-5 = c.take-5.ensures.left ∙ ap (without (codes "scope")) left-4 in
    let left-6 = c.take-6.ensures.left ∙ ap (without (codes "number")) left-5 in
    c.take-7.ensures.value ∙ ap (get_member (codes "help")) left-6 ∙ get_others (codes "file" ∷ codes "labels" ∷ codes "message" ∷ codes "severity" ∷ codes "scope" ∷ codes "number" ∷ []) (codes "help") (members_view c.args.members.entries) refl

pub returns-clause-note : goal.returns-clause-note
returns-clause-note c =
    let left-1 = c.take.ensures.left in
    let left-2 = c.take-2.ensures.left ∙ ap (without (codes "labels")) left-1 in
    let left-3 = c.take-3.ensures.left ∙ ap (without (codes "message")) left-2 in
    let left-4 = c.take-4.ensures.left ∙ ap (without (codes "severity")) left-3 in
    let left-5 = c.take-5.ensures.left ∙ ap (without (codes "scope")) left-4 in
    let left-6 = c.take-6.ensures.left ∙ ap (without (codes "number")) left-5 in
    let left-7 = c.take-7.ensures.left ∙ ap (without (codes "help")) left-6 in
    c.take-8.ensures.value ∙ ap (get_member (codes "note")) left-7 ∙ get_others (codes "file" ∷ codes "labels" ∷ codes "message" ∷ codes "severity" ∷ codes "scope" ∷ codes "number" ∷ codes "help" ∷ []) (codes "note") (members_view c.args.members.entries) refl

pub returns-clause-url : goal.returns-clause-url
returns-clause-url c =
    let left-1 = c.take.ensures.left in
    let left-2 = c.take-2.ensures.left ∙ ap (without (codes "labels")) left-1 in
    let left-3 = c.take-3.ensures.left ∙ ap (without (codes "message")) left-2 in
    let left-4 = c.take-4.ensures.left ∙ ap (without (codes "severity")) left-3 in
    let left-5 = c.take-5.ensures.left ∙ ap (without (codes "scope")) left-4 in
    let left-6 = c.take-6.ensures.left ∙ ap (without (codes "number")) left-5 in
    let left-7 = c.take-7.ensures.left ∙ ap (without (codes "help")) left-6 in
    let left-8 = c.take-8.ensures.left ∙ ap (without (codes "note")) left-7 in
    c.take-9.ensures.value ∙ ap (get_member (codes "url")) left-8 ∙ get_others (codes "file" ∷ codes "labels" ∷ codes "message" ∷ codes "severity" ∷ codes "scope" ∷ codes "number" ∷ codes "help" ∷ codes "note" ∷ []) (codes "url") (members_view c.args.members.entries) refl

pub returns-clause-all : goal.returns-clause-all
returns-clause-all c version =
    let left-1 = c.take.ensures.left in
    let left-2 = c.take-2.ensures.left ∙ ap (without (codes "labels")) left-1 in
    let left-3 = c.take-3.ensures.left ∙ ap (without (codes "message")) left-2 in
    let left-4 = c.take-4.ensures.left ∙ ap (without (codes "severity")) left-3 in
    let left-5 = c.take-5.ensures.left ∙ ap (without (codes "scope")) left-4 in
    let left-6 = c.take-6.ensures.left ∙ ap (without (codes "number")) left-5 in
    let left-7 = c.take-7.ensures.left ∙ ap (without (codes "help")) left-6 in
    let left-8 = c.take-8.ensures.left ∙ ap (without (codes "note")) left-7 in
    let left-9 = c.take-9.ensures.left ∙ ap (without (codes "url")) left-8 in
    c.is_empty.ensures ∙ ap (only_keys []) left-9 ∙ sym (only_all (report_keys version) (members_view c.args.members.entries))

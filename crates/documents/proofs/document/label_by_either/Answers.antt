-- Where there is a place by bytes, it decides.
use Rattle.std.proofs.Common.{◌∙◌, sym, ap}
use Rattle.std.specs.Option.{option_or}
use Rattle.serde_json.specs.Data.{object}
use Rattle.serde_json.specs.View.{members_view}
use Rattle.documents.specs.Document.{label_by_rows, label_by_bytes}
use Rattle.documents.proofs.KindLemmas.{rows_refused, bytes_refused, either_kind}
use Rattle.documents.proofs.document.label_by_either.Goals as goal

pub returns-then-has_key : goal.returns-then-has_key
returns-then-has_key c =
    let ms = members_view c.args.members.entries in
    c.label_by_bytes.ensures ∙ sym (ap (λ rows. option_or rows (label_by_bytes (object ms))) (rows_refused ms (sym c.has_key.ensures ∙ c.if-has_key.true)))

pub returns-else-has_key : goal.returns-else-has_key
returns-else-has_key c =
    let ms = members_view c.args.members.entries in
    c.label_by_rows.ensures ∙ sym (ap (λ bytes. option_or (label_by_rows (object ms)) bytes) (bytes_refused ms (sym c.has_key.ensures ∙ c.if-has_key.false)) ∙ either_kind (label_by_rows (object ms)))

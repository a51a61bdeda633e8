-- The name that becomes known is the last.
use Rattle.std.proofs.Common.{[], ap, map, string_bytes, ◌++◌, ◌∷◌, ◌∙◌}
use Rattle.std.proofs.lemmas.List.{map_push}
use Rattle.sarif.proofs.AskedLemmas.{knows_added}
use Rattle.sarif.proofs.asked.push_new.Goals as goal

pub returns-in_ok-push-clause-known : goal.returns-in_ok-push-clause-known
returns-in_ok-push-clause-known c =
    let names = map string_bytes c.args.names.now.items in
    knows_added c.args.known.now c.insert.new.self names (map string_bytes c.push.new.self.items) c.args.name c.requires
    c.in_ok-insert.ensures.updates.0
    (ap (map string_bytes) c.in_ok-push.ensures.items ∙ map_push string_bytes c.args.names.now.items c.in_ok-from_str.field-0 ∙ ap (λ name. names ++ name ∷ []) c.in_ok-from_str.ensures.ok)

-- The members of the list are those of the object.
use Rattle.std.proofs.Common.{◌≡◌, ◌∙◌, sym, ap, subst, map, IfOk}
use Rattle.json.specs.Value.{value_view}
use Rattle.json.proofs.Trees.{view-Object}
use Rattle.sarif_log.specs.Log.{members_of, uri_base_view, uri_bases_of}
use Rattle.sarif_log.proofs.LogLemmas.{members_seen}
use Rattle.sarif_log.proofs.read.uri_bases_in.Goals as goal

pub returns-in-Object : goal.returns-in-Object
returns-in-Object c =
    let same = members_seen c.in-Object.members.items ∙ sym (ap members_of (ap value_view c.in-Object.is ∙ view-Object c.in-Object.members)) in
    subst (λ list. IfOk c.uri_bases.result (λ found. map uri_base_view found.items ≡ uri_bases_of list)) same c.uri_bases.ensures

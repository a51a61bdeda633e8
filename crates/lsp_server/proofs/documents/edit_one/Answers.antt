-- A change that was made moves the findings with the text.
use Rattle.std.proofs.Common.{List, length, ap, ap₂, sym, subst, ◌∙◌, string_bytes}
use Rattle.std.specs.List.{All, filter_map}
use Rattle.client_text.specs.Changes.{AllChange}
use Rattle.client_text.specs.declared.change.Change.{Change}
use Rattle.lsp_server.specs.declared.marks.Change.{Change as Moving}
use Rattle.oxc_protocol.specs.Parts.{OxcParts}
use Rattle.lsp_server.specs.Edits.{moving}
use Rattle.lsp_server.specs.Moved.{CanMoveAll, moved_diagnostic}
use Rattle.lsp_server.proofs.EditLemmas.{made_holds, made_one, moving_is}
use Rattle.lsp_server.proofs.MovedLemmas.{found_can_move}
use Rattle.lsp_server.proofs.documents.edit_one.Goals as goal

pub moved_all-requires : goal.moved_all-requires
moved_all-requires c =
    let old = c.args.client.now in
    let new = c.change.new.self in
    let change = c.args.change.now in
    let start = c.place_of-start.result.0 in
    let end = c.place_of-start.result.1 in
    let edited = subst (λ (l : List Change). AllChange old.encoding old.text l new.text) c.requires.one c.in-Ok.ensures.done.made in
    let made = made_one old new change start end c.requires.holds.text edited c.place_of-start.ensures in
    let same = moving_is c.to_u32.result c.to_u32-2.result (length c.as_str.result.now) start end change c.to_u32.ensures.number c.to_u32-2.ensures.number (ap length c.as_str.ensures.value) in
    subst (λ (m : Moving). All (CanMoveAll m) c.as_slice.result.now) same
    (subst (λ (xs : List OxcParts). All (CanMoveAll (moving start end change)) xs) (sym c.as_slice.ensures.value)
    (found_can_move (moving start end change) (string_bytes change.text) old.text made.fitting c.args.found.now.items c.requires.holds.stand))

pub returns-clause-holds : goal.returns-clause-holds
returns-clause-holds c =
    let old = c.args.client.now in
    let new = c.change.new.self in
    let change = c.args.change.now in
    let start = c.place_of-start.result.0 in
    let end = c.place_of-start.result.1 in
    let edited = subst (λ (l : List Change). AllChange old.encoding old.text l new.text) c.requires.one c.in-Ok.ensures.done.made in
    let made = made_one old new change start end c.requires.holds.text edited c.place_of-start.ensures in
    let same = moving_is c.to_u32.result c.to_u32-2.result (length c.as_str.result.now) start end change c.to_u32.ensures.number c.to_u32-2.ensures.number (ap length c.as_str.ensures.value) in
    made_holds old new change start end c.args.found.now.items c.in_ok-found.field-0.items made c.requires.holds
    (c.in_ok-found.ensures ∙ ap₂ (λ (m : Moving) (xs : List OxcParts). filter_map (moved_diagnostic m) xs) (sym same) c.as_slice.ensures.value)

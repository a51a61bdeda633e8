-- What is shown of a look-up, and told of it.
use Rattle.std.proofs.Common.{◌≡◌, ◌++◌, ◌+◌, ◌<◌, ◌≤◌, ◌∙◌, ℕ, Bool, true, false, List, [], ◌∷◌, All, length, map, get_or, drop, Option, Some, None, String, string_bytes, append_assoc, append-nil, ap, refl, sym, subst}
use Rattle.std.specs.Prelude.{if◌then◌else◌}
use Rattle.std.specs.declared.alloc.Global.{Global}
use Rattle.std.specs.List.{flat_map}
use Rattle.std.specs.Option.{option_to_list}
use Rattle.std.proofs.lemmas.List.{drop_all, drop_more}
use Rattle.oxc_protocol.specs.Parts.{OxcParts}
use Rattle.lsp_server.specs.Seen.{StandIn}
use Rattle.source_store.specs.Named.{path_in}
use Rattle.source_store.specs.declared.named.Spelling.TheVariants.{Uri}
use Rattle.lsp_server.proofs.SessionLemmas.{answered_more}
use Rattle.lsp_server.specs.Session.{answered, answered_by, asked as asked_by}
use Rattle.lsp_server.specs.Told.{Documents, PublishesOpen, ShowsAs}
use Rattle.lsp_server.specs.Views.{OpenView}
use Rattle.lsp_server.specs.declared.message.Agreed.{Agreed}
use Rattle.lsp_server.specs.declared.message.Answer.{Answer}
use Rattle.lsp_server.specs.declared.message.Answer.TheVariants.{Capabilities, Null, Error, Published, Refused, Logged}
use Rattle.lsp_server.specs.declared.message.Message.{Message}
use Rattle.lsp_server.specs.declared.server.Server.{Server}
use Rattle.girzohal_lsp.specs.Found.{ShowsAt}
use Rattle.girzohal_lsp.specs.Served.{AddsRefreshed, AreRefreshed, IsLookedUp, IsRefreshed, Refreshes}
use Rattle.girzohal_lsp.specs.declared.log.LogFile.{LogFile}
use Rattle.girzohal_lsp.specs.declared.words.Asked.{Asked}

-- findings that stand in the text are shown
pub refreshed : (asked : Asked) (log : LogFile) (agreed : Agreed) (uri : List ℕ) (document : OpenView) (old new : Documents) (told : Option Answer) (found : List OxcParts)
    → ShowsAt asked log (path_in Uri uri) document.client.text found → All (StandIn document.client.text) found
    → ShowsAs agreed uri found (Some document) old new told → IsRefreshed asked log agreed uri (Some document) old new told
refreshed asked log agreed uri document old new None found finds stand shows = absurd (shows.1 stand)
refreshed asked log agreed uri document old new (Some told) found finds stand shows = record { found = found; finds = finds; shows = shows }

published_only : (agreed : Agreed) (uri : List ℕ) (document : OpenView) (told : Answer) → PublishesOpen agreed uri document told → answered_by told ≡ []
published_only agreed uri document (Capabilities id wanted) is = absurd is
published_only agreed uri document (Null id) is = absurd is
published_only agreed uri document (Error id code) is = absurd is
published_only agreed uri document (Published params) is = refl
published_only agreed uri document (Refused why) is = absurd is
published_only agreed uri document (Logged text) is = absurd is

-- what is told of findings answers no request
pub shows_only : (agreed : Agreed) (uri : List ℕ) (found : List OxcParts) (document : OpenView) (old new : Documents) (told : Option Answer)
    → ShowsAs agreed uri found (Some document) old new told → answered told ≡ []
shows_only agreed uri found document old new None shows = refl
shows_only agreed uri found document old new (Some told) shows = published_only agreed uri (record document { found = found }) told shows.1

-- what answers nothing adds no answer
pub none_added : (before after : List Answer) (told : Option Answer) → after ≡ before ++ option_to_list told
    → answered told ≡ [] → flat_map answered_by after ≡ flat_map answered_by before
none_added before after told added none =
    answered_more before after told added ∙ (ap (λ xs. flat_map answered_by before ++ xs) none ∙ append-nil (flat_map answered_by before))

-- one answer is all
pub told_alone : (start added : List Answer) (told : Option Answer) → start ≡ [] → added ≡ start ++ option_to_list told → added ≡ option_to_list told
told_alone start added told empty is = is ∙ ap (λ xs. xs ++ option_to_list told) empty

-- what is told first answers the request
pub answered_once : (start added : List Answer) (told : Option Answer) (message : Message) → start ≡ []
    → added ≡ start ++ option_to_list told → answered told ≡ asked_by message → flat_map answered_by added ≡ asked_by message
answered_once start added told message empty is once =
    answered_more start added told is ∙ (ap (λ xs. flat_map answered_by xs ++ answered told) empty ∙ once)

-- ---- documents so far, and those to come

-- those before the place in the list were looked at, and this was told of them
pub record AreSoFar (asked : Asked) (log : LogFile) (uris : List (String Global)) (at : ℕ) (old now : Server) (before after : List Answer) : Type 0 where
  pub told : List Answer
  pub all : after ≡ before ++ told
  pub goes_on : (new : Server) (later : List Answer) → AreRefreshed asked log now (map string_bytes (drop at uris)) new later
      → AreRefreshed asked log old (map string_bytes uris) new (told ++ later)

pub none_yet : (asked : Asked) (log : LogFile) (uris : List (String Global)) (server : Server) (before : List Answer) → AreSoFar asked log uris 0 server server before before
none_yet asked log uris server before = record { told = []; all = sym (append-nil before); goes_on = λ new later are. are }

pub one_more : (asked : Asked) (log : LogFile) (uris : List (String Global)) (at : ℕ) (uri : String Global) (old mid new : Server) (before after next : List Answer) (told : Option Answer)
    → at < length uris → uri ≡ get_or uris at uri → Refreshes asked log (string_bytes uri) mid new told → next ≡ after ++ option_to_list told
    → AreSoFar asked log uris at old mid before after → AreSoFar asked log uris (at + 1) old new before next
one_more asked log uris at uri old mid new before after next told within is refreshes added so_far =
    let behind : drop at uris ≡ uri ∷ drop (at + 1) uris = drop_more uris at uri within ∙ ap (λ y. y ∷ drop (at + 1) uris) (sym is) in
    record {
      told = so_far.told ++ option_to_list told;
      all = added ∙ (ap (λ xs. xs ++ option_to_list told) so_far.all ∙ append_assoc before so_far.told (option_to_list told));
      goes_on = λ last later are.
          let here : AreRefreshed asked log mid (map string_bytes (uri ∷ drop (at + 1) uris)) last (option_to_list told ++ later) = (new, told, later, refreshes, are, refl) in
          subst (AreRefreshed asked log old (map string_bytes uris) last) (sym (append_assoc so_far.told (option_to_list told) later))
          (so_far.goes_on last (option_to_list told ++ later)
          (subst (λ l. AreRefreshed asked log mid (map string_bytes l) last (option_to_list told ++ later)) (sym behind) here));
    }

pub all_looked_at : (asked : Asked) (log : LogFile) (uris : List (String Global)) (at : ℕ) (old new : Server) (before after : List Answer) → length uris ≤ at
    → AreSoFar asked log uris at old new before after → AddsRefreshed asked log (map string_bytes uris) old new before after
all_looked_at asked log uris at old new before after past so_far =
    let none : AreRefreshed asked log new (map string_bytes (drop at uris)) new [] =
    subst (λ l. AreRefreshed asked log new (map string_bytes l) new []) (sym (drop_all at uris past)) (refl, refl) in
    record {
      told = so_far.told;
      shows = subst (AreRefreshed asked log old (map string_bytes uris) new) (append-nil so_far.told) (so_far.goes_on new [] none);
      all = so_far.all;
    }

-- ---- whether a session runs

pub none_looked_up : (asked : Asked) (bytes : Option (List ℕ)) (runs : Bool) (uris : Option (List (List ℕ))) (server : Server) (before after : List Answer) → runs ≡ false
    → after ≡ before → IsLookedUp asked bytes (if runs then uris else None) server server before after
none_looked_up asked bytes runs uris server before after is same =
    subst (λ (b : Bool). IsLookedUp asked bytes (if b then uris else None) server server before after) (sym is) (refl, same)

pub those_looked_up : (asked : Asked) (bytes : Option (List ℕ)) (runs : Bool) (uris : Option (List (List ℕ))) (old new : Server) (before after : List Answer) → runs ≡ true
    → IsLookedUp asked bytes uris old new before after → IsLookedUp asked bytes (if runs then uris else None) old new before after
those_looked_up asked bytes runs uris old new before after is looks =
    subst (λ (b : Bool). IsLookedUp asked bytes (if b then uris else None) old new before after) (sym is) looks

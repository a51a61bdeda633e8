-- What becomes of the documents where one of them may have changed.
use Rattle.std.proofs.Common.{◌≡◌, ℕ, ℤ, Bool, true, false, cond, bytes_eq, List, Option, Some, None, Result, Ok, Err, IfOk, OnErr, refl, sym, ◌∙◌, ap, subst}
use Rattle.std.proofs.lemmas.Slice.Eq.{bytes_eq-Decides}
use Rattle.client_text.specs.declared.change.Change.{Change}
use Rattle.oxc_protocol.specs.Parts.{OxcParts}
use Rattle.lsp_server.specs.Views.{OpenView}
use Rattle.lsp_server.specs.Told.{AreSame, Documents, IsChangedAs, IsShown, IsTextChanged, OnlyAt, PublishesOpen, ShowsAs}
use Rattle.lsp_server.specs.declared.message.Agreed.{Agreed}
use Rattle.lsp_server.specs.declared.message.Answer.{Answer}
use Rattle.lsp_server.specs.declared.message.Answer.TheVariants.{Capabilities, Null, Error, Published, Logged}
use Rattle.lsp_server.specs.declared.message.Answer.TheVariants as answer
use Rattle.lsp_server.proofs.DocumentLemmas.{only_at}

-- what holds of an answer, and what holds where there is none
pub if_ok : {T E : Type 0} {P Q : T → Type 0} (r : Result T E) → ((x : T) → P x → Q x) → IfOk r P → IfOk r Q
if_ok (Ok x) f p = f x p
if_ok (Err e) f p = tt

pub on_err : {T E P Q : Type 0} (r : Result T E) → (P → Q) → OnErr r P → OnErr r Q
on_err (Ok x) f p = tt
on_err (Err e) f p = f p

-- at one URI another document was written
abbrev pub Writes : List ℕ → OpenView → Documents → Documents → Type 0
Writes uri next old new = (other : List ℕ) → new other ≡ cond (bytes_eq uri other) (Some next) (old other)

-- the same document
pub stays : (uri : List ℕ) (document next : OpenView) (old new : Documents) → old uri ≡ Some document → next ≡ document → Writes uri next old new → AreSame old new
stays uri document next old new known same writes = λ other. writes other ∙ at (bytes_eq uri other) other refl
  where
    at : (b : Bool) (other : List ℕ) → bytes_eq uri other ≡ b → cond b (Some next) (old other) ≡ old other
    at true other is = ap (λ (d : OpenView). Some d) same ∙ sym known ∙ ap old ((bytes_eq-Decides uri other).0 is)
    at false other is = refl

pub changed_told : (agreed : Agreed) (uri : List ℕ) (version : ℤ) (changes : List Change) (document next : OpenView) (old new : Documents) (told : Answer)
    → old uri ≡ Some document → Writes uri next old new → IsTextChanged agreed uri version changes document next told
    → IsChangedAs agreed uri version changes document old new told
changed_told agreed uri version changes document next old new (Capabilities id wanted) known writes is = is
changed_told agreed uri version changes document next old new (Null id) known writes is = is
changed_told agreed uri version changes document next old new (Error id code) known writes is = is
changed_told agreed uri version changes document next old new (Published params) known writes is =
    record { next = next; moved = is.0; only = only_at uri (Some next) old new writes; published = is.1 }
changed_told agreed uri version changes document next old new (answer.Refused why) known writes is =
    (stays uri document next old new known is.0 writes, is.1)
changed_told agreed uri version changes document next old new (Logged text) known writes is = is

pub shown_told : (agreed : Agreed) (uri : List ℕ) (found : List OxcParts) (document next : OpenView) (old new : Documents) (told : Option Answer)
    → old uri ≡ Some document → Writes uri next old new → IsShown agreed uri found document next told
    → ShowsAs agreed uri found (Some document) old new told
shown_told agreed uri found document next old new None known writes is = (stays uri document next old new known is.0 writes, is.1)
shown_told agreed uri found document next old new (Some told) known writes is = (
  subst (λ (d : OpenView). OnlyAt uri (Some d) old new) is.0 (only_at uri (Some next) old new writes),
  subst (λ (d : OpenView). PublishesOpen agreed uri d told) is.0 is.1,
)

-- What has been answered so far.
use Rattle.std.proofs.Common.{◌≡◌, List, [], ◌∷◌, ◌++◌, append_assoc, append-nil, Option, Some, None, refl, sym, ◌∙◌, ap, subst}
use Rattle.std.specs.List.{flat_map}
use Rattle.std.specs.Option.{option_to_list}
use Rattle.std.proofs.lemmas.Grind.{flat_map-append}
use Rattle.lsp_server.specs.declared.message.Message.{Message}
use Rattle.lsp_server.specs.declared.message.Answer.{Answer}
use Rattle.lsp_server.specs.declared.server.Phase.{Phase}
use Rattle.lsp_server.specs.declared.server.Server.{Server}
use Rattle.lsp_server.specs.Session.{answered, answered_by, asked, next_phase, phase_after}
use Rattle.lsp_server.specs.Steps.{AreSteps, IsStep}

pub record HasTold (old : Server) (taken : List Message) (new : Server) (answers : List Answer) : Type 0 where
  pub steps : AreSteps old taken new answers
  pub phase : new.phase ≡ phase_after old.phase taken
  pub once : flat_map answered_by answers ≡ flat_map asked taken

phase_more : (phase : Phase) (told : List Message) (message : Message) → phase_after phase (told ++ message ∷ []) ≡ next_phase (phase_after phase told) message
phase_more phase [] message = refl
phase_more phase (m ∷ ms) message = phase_more (next_phase phase m) ms message

steps_more : (old mid new : Server) (taken : List Message) (message : Message) (before after : List Answer) (told : Option Answer) → AreSteps old taken mid before
    → IsStep mid message new told → after ≡ before ++ option_to_list told → AreSteps old (taken ++ message ∷ []) new after
steps_more old mid new [] message before after told (same, none) step added = (
  new,
  told,
  [],
  subst (λ (s : Server). IsStep s message new told) same step,
  (refl, refl),
  added ∙ (ap (λ xs. xs ++ option_to_list told) none ∙ sym (append-nil (option_to_list told))),
)
steps_more old mid new (m ∷ ms) message before after told (between, first, later, taken, rest, joined) step added = (
  between,
  first,
  later ++ option_to_list told,
  taken,
  steps_more between mid new ms message later (later ++ option_to_list told) told rest step refl,
  added ∙ (ap (λ xs. xs ++ option_to_list told) joined ∙ append_assoc (option_to_list first) later (option_to_list told)),
)

answered_one : (told : Option Answer) → flat_map answered_by (option_to_list told) ≡ answered told
answered_one None = refl
answered_one (Some answer) = append-nil (answered_by answer)

-- what is answered once an answer was added, if there was one
pub answered_more : (before after : List Answer) (told : Option Answer) → after ≡ before ++ option_to_list told
    → flat_map answered_by after ≡ flat_map answered_by before ++ answered told
answered_more before after told added =
    ap (flat_map answered_by) added
    ∙ (flat_map-append answered_by before (option_to_list told) ∙ ap (λ xs. flat_map answered_by before ++ xs) (answered_one told))

-- one message more
pub told_more : (old mid new : Server) (taken : List Message) (message : Message) (before after : List Answer) (told : Option Answer) → HasTold old taken mid before
    → IsStep mid message new told → answered told ≡ asked message → after ≡ before ++ option_to_list told → HasTold old (taken ++ message ∷ []) new after
told_more old mid new taken message before after told so_far step once added = record {
  steps = steps_more old mid new taken message before after told so_far.steps step added;
  phase = step.phase ∙ (ap (λ p. next_phase p message) so_far.phase ∙ sym (phase_more old.phase taken message));
  once = answered_more before after told added
      ∙ (ap (λ xs. xs ++ answered told) so_far.once
      ∙ (ap (λ xs. flat_map asked taken ++ xs) (once ∙ sym (append-nil (asked message)))
      ∙ sym (flat_map-append asked taken (message ∷ []))));
}

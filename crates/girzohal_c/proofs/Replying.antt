-- The reply to what was made of the arguments replies to them.
use Rattle.std.proofs.Common.{◌≡◌, inl, inr, ℕ, List, Option, Some, None, MatchOption, Result, Ok, Err, String, sym, subst}
use Rattle.std.specs.declared.alloc.Global.{Global}
use Rattle.render_files.specs.declared.places.ReportError.{ReportError}
use Rattle.girzohal_c.specs.Meaning.{Meaning, means, is_wrong, no_document}
use Rattle.girzohal_c.specs.Answers.{refused_answer}
use Rattle.girzohal_c.specs.Replies.{Makes, Tells, Gives, Refuses, RepliesTo, Reply}
use Rattle.girzohal_c.specs.declared.shapes.Look.{Look}
use Rattle.girzohal_c.specs.declared.drawing.Fault.{Fault}
use Rattle.girzohal_c.specs.declared.drawing.Fault.TheVariants.{IsWrong, IsNoDocument, IsRefused, WantsMemory}

-- a text that was made of reports that aren't refused
given : (refusal : Option ReportError) (text made : List ℕ) (it : Reply) → refusal ≡ None → made ≡ text → Gives made it → MatchOption refusal (Gives text it) (λ why. Refuses 1 (refused_answer why) it)
given refusal text made it r e g = rw r (rw (sym e) g)

-- the first refusal
refused : (refusal : Option ReportError) (text : List ℕ) (why : ReportError) (it : Reply) → refusal ≡ Some why → Refuses 1 (refused_answer why) it → MatchOption refusal (Gives text it) (λ why. Refuses 1 (refused_answer why) it)
refused refusal text why it r g = rw r g

pub tells_replies : (look : Look) (meaning : Meaning) (made : Result (String Global) Fault) (it : Reply) → Makes look meaning made → Tells made it → RepliesTo look meaning it
tells_replies look (means files reports) (Ok text) it (r, e) t = inl (given _ _ _ it r e t)
tells_replies look (means files reports) (Err (IsWrong argument)) it m t = absurd m
tells_replies look (means files reports) (Err IsNoDocument) it m t = absurd m
tells_replies look (means files reports) (Err (IsRefused why)) it m t = inl (refused _ _ why it m t)
tells_replies look (means files reports) (Err WantsMemory) it m t = inr (record { judged = tt; refuses = t })
tells_replies look (is_wrong argument) made it m t = inl (subst (λ (said : Result (String Global) Fault). Tells said it) m t)
tells_replies look no_document made it (inl m) t = inl (subst (λ (said : Result (String Global) Fault). Tells said it) m t)
tells_replies look no_document made it (inr m) t = inr (record { judged = tt; refuses = subst (λ (said : Result (String Global) Fault). Tells said it) m t })

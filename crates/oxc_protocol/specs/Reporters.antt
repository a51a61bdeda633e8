-- Reporters over a list of diagnostics: what they answer, and what is handed on of it.
use Rattle.std.specs.Prelude.{◌≡◌, ℕ, Bool, true, false, List, [], ◌∷◌, ◌++◌, Option, Some, None, ◌⊎◌}
use Rattle.std.specs.Borrow.{Bor}
use Rattle.std.specs.List.{filter_map}
use Rattle.std.specs.Option.{option_copied}
use Rattle.oxc_protocol.specs.Source.{source_name}
use Rattle.oxc_protocol.specs.Parts.{Parts}

-- the texts among answers that may lack one
abbrev pub texts_in : List (Option (List ℕ)) → List (List ℕ)
texts_in answers = filter_map (λ answer. answer) answers

-- a text, and the name of the source of its diagnostic
pub record Offer : Type 0 where
  pub name : Option (List ℕ)
  pub text : List ℕ

-- the texts among the answers to diagnostics, each with the name of the source
abbrev pub offers_of : List Parts → List (Option (List ℕ)) → List Offer
offers_of [] answers = []
offers_of (p ∷ ps) [] = []
offers_of (p ∷ ps) (None ∷ answers) = offers_of ps answers
offers_of (p ∷ ps) (Some text ∷ answers) = record { name = source_name p.source; text = text } ∷ offers_of ps answers

-- a call of a closure at a name and a text, which answers this
pub record KeptAt {F : Type 0} (step : F → Option (Bor (List ℕ)) → Bor (List ℕ) → Bool → F → Type 0) (f : F) (offer : Offer) (kept : Bool) (g : F) : Type 0 where
  pub shown_name : Option (Bor (List ℕ))
  pub shown : Bor (List ℕ)
  pub names : option_copied shown_name ≡ offer.name
  pub shows : shown.now ≡ offer.text
  pub called : step f shown_name shown kept g

-- a reporter with this relation answers diagnostics one after another
module _ {S : Type 0} (renders : S → Parts → Option (List ℕ) → S → Type 0) where
  abbrev pub Answers : S → List Parts → List (Option (List ℕ)) → S → Type 0
  Answers s [] [] t = s ≡ t
  Answers s [] (answer ∷ answers) t = ⊥
  Answers s (p ∷ ps) [] t = ⊥
  Answers s (p ∷ ps) (answer ∷ answers) t = (m : S) × renders s p answer m × Answers m ps answers t

-- texts are handed on one after another
module _ {F : Type 0} (emits : F → List ℕ → F → Type 0) where
  abbrev pub HandsOn : F → List (List ℕ) → F → Type 0
  HandsOn f [] g = f ≡ g
  HandsOn f (text ∷ texts) g = (h : F) × emits f text h × HandsOn h texts g

-- texts are offered one after another, and all are kept
module _ {F : Type 0} (keeps : F → Offer → Bool → F → Type 0) where
  abbrev pub KeepsAll : F → List Offer → F → Type 0
  KeepsAll f [] g = f ≡ g
  KeepsAll f (offer ∷ offers) g = (h : F) × keeps f offer true h × KeepsAll h offers g

module _ {S F : Type 0} (renders : S → Parts → Option (List ℕ) → S → Type 0) (emits : F → List ℕ → F → Type 0) where
  -- all diagnostics are rendered in order, and exactly the texts that this gives are handed on, in this order
  pub record RendersAll (s : S) (f : F) (ps : List Parts) (t : S) (g : F) : Type 0 where
    pub answers : List (Option (List ℕ))
    pub rendered : Answers renders s ps answers t
    pub handed : HandsOn emits f (texts_in answers) g

  -- this was done with the first of them alone
  pub record RendersFront (s : S) (f : F) (ps : List Parts) (g : F) : Type 0 where
    pub front : List Parts
    pub rest : List Parts
    pub split : ps ≡ front ++ rest
    pub last : S
    pub all : RendersAll s f front last g

module _ {S F : Type 0} (renders : S → Parts → Option (List ℕ) → S → Type 0) (keeps : F → Offer → Bool → F → Type 0) where
  -- all diagnostics are rendered in order, the texts that this gives are offered in this order, and each is kept
  pub record KeepsEach (s : S) (f : F) (ps : List Parts) (t : S) (g : F) : Type 0 where
    pub answers : List (Option (List ℕ))
    pub rendered : Answers renders s ps answers t
    pub kept : KeepsAll keeps f (offers_of ps answers) g

  -- the text of one is the first that is not kept: it is the last that is offered, and its diagnostic the last that is rendered
  pub record StopsAt (s : S) (f : F) (ps : List Parts) (t : S) (g : F) : Type 0 where
    pub front : List Parts
    pub one : Parts
    pub rest : List Parts
    pub split : ps ≡ front ++ one ∷ rest
    pub before : S
    pub asked : F
    pub kept : KeepsEach s f front before asked
    pub text : List ℕ
    pub rendered : renders before one (Some text) t
    pub refused : keeps asked (record { name = source_name one.source; text = text }) false g

  -- texts are offered up to and with the first that is not kept
  abbrev pub RendersUntil : S → F → List Parts → S → F → Type 0
  RendersUntil s f ps t g = KeepsEach s f ps t g ⊎ StopsAt s f ps t g

  -- the first of them alone were rendered, and what was offered of them was kept
  pub record KeepsFront (s : S) (f : F) (ps : List Parts) (g : F) : Type 0 where
    pub front : List Parts
    pub rest : List Parts
    pub split : ps ≡ front ++ rest
    pub last : S
    pub all : KeepsEach s f front last g

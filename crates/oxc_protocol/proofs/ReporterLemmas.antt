-- What follows of a whole list for a reporter whose answer depends on the diagnostic alone, and for a closure that gathers.
use Rattle.std.proofs.Common.{◌≡◌, ℕ, List, [], ◌∷◌, ◌++◌, Option, map, refl, append_assoc, append-nil}
use Rattle.std.specs.List.{concat}
use Rattle.oxc_protocol.specs.Parts.{Parts}
use Rattle.oxc_protocol.specs.Reporters.{Answers, HandsOn, RendersAll, texts_in}

-- if each answer is one that the diagnostic gives, so are all
pub answers_are : {S : Type 0} (R : S → Parts → Option (List ℕ) → S → Type 0) (answer : Parts → Option (List ℕ)) → ((s : S) (p : Parts) (x : Option (List ℕ)) (t : S) → R s p x t → x ≡ answer p)
    → (ps : List Parts) (xs : List (Option (List ℕ))) (s t : S) → Answers R s ps xs t → xs ≡ map answer ps
answers_are R answer gives [] [] s t run = refl
answers_are R answer gives [] (x ∷ xs) s t run = absurd run
answers_are R answer gives (p ∷ ps) [] s t run = absurd run
answers_are R answer gives (p ∷ ps) (x ∷ xs) s t run = let here = gives _ _ _ _ run.1 in let later = answers_are R answer gives ps xs run.0 t run.2 in λ i. here i ∷ later i

-- what each text that is handed on adds, all of them add
pub hands_on_adds : {F : Type 0} (E : F → List ℕ → F → Type 0) (J : F → List ℕ → Type 0) → ((f : F) (text : List ℕ) (g : F) (bytes : List ℕ) → J f bytes → E f text g → J g (bytes ++ text))
    → (texts : List (List ℕ)) (f g : F) (bytes : List ℕ) → HandsOn E f texts g → J f bytes → J g (bytes ++ concat texts)
hands_on_adds E J adds [] f g bytes run j = rw (append-nil bytes, ← run) j
hands_on_adds E J adds (text ∷ texts) f g bytes run j =
    rw (← append_assoc) (hands_on_adds E J adds texts run.0 g (bytes ++ text) run.2 (adds _ _ _ _ j run.1))

-- both, where what is kept may speak of the first state of the closure too
pub gathers : {S F : Type 0} (R : S → Parts → Option (List ℕ) → S → Type 0) (E : F → List ℕ → F → Type 0) (answer : Parts → Option (List ℕ)) (J : F → F → List ℕ → Type 0)
    → ((s : S) (p : Parts) (x : Option (List ℕ)) (t : S) → R s p x t → x ≡ answer p)
    → ((f₀ f : F) (text : List ℕ) (g : F) (bytes : List ℕ) → J f₀ f bytes → E f text g → J f₀ g (bytes ++ text))
    → (ps : List Parts) (s : S) (f : F) (t : S) (g : F) → RendersAll R E s f ps t g → J f f [] → J f g (concat (texts_in (map answer ps)))
gathers R E answer J gives adds ps s f t g run j =
    let answers = answers_are R answer gives ps run.answers s t run.rendered in
    rw answers at (hands_on_adds E (J f) (adds f) (texts_in run.answers) f g [] run.handed j)

-- Runs of a reporter over a list, one diagnostic at a time.
use Rattle.std.proofs.Common.{◌≡◌, ℕ, Bool, true, false, List, [], ◌∷◌, Option, Some, None, Result, Ok, Err, OnOk, OnErr, map, length, refl, ap, sym, subst, arith, inl, inr, ⊎_elim}
use Rattle.oxc_protocol.specs.Source.{source_name}
use Rattle.oxc_protocol.specs.Parts.{Parts}
use Rattle.oxc_protocol.specs.Reporters.{KeepsEach, KeepsFront, Offer, RendersAll, RendersFront, RendersUntil, StopsAt}

pub on_err : {T E P : Type 0} (r : Result T E) → P → OnErr r P
on_err (Ok x) p = tt
on_err (Err e) p = p

-- a fact on one state is a fact on some state
pub some_ok : {T E A : Type 0} (P : A → Type 0) (r : Result T E) (a : A) → OnOk r (P a) → OnOk r ((x : A) × P x)
some_ok P (Ok x) a h = (a, h)
some_ok P (Err e) a h = tt

pub some_err : {T E A : Type 0} (P : A → Type 0) (r : Result T E) (a : A) → OnErr r (P a) → OnErr r ((x : A) × P x)
some_err P (Ok x) a h = tt
some_err P (Err e) a h = (a, h)

-- the list calls that hand on every text
module _ {S F B : Type 0} (R : S → Parts → Option (List ℕ) → S → Type 0) (E : F → List ℕ → F → Type 0) (h : B → Parts) where
  pub ends : (xs : List B) (s : S) (f : F) → length xs ≡ 0 → RendersAll R E s f (map h xs) s f
  ends [] s f e = record { answers = []; rendered = refl; handed = refl }
  ends (x ∷ xs) s f e = absurd (omega (arith, e))

  pub stops : (xs : List B) (s : S) (f : F) → RendersFront R E s f (map h xs) f
  stops xs s f = record { front = []; rest = map h xs; split = refl; last = s; all = record { answers = []; rendered = refl; handed = refl } }

  -- one is left out
  pub all_silent : (xs ys : List B) (x : B) (s m t : S) (f g : F) → xs ≡ x ∷ ys → R s (h x) None m → RendersAll R E m f (map h ys) t g → RendersAll R E s f (map h xs) t g
  all_silent xs ys x s m t f g e r run =
      subst (λ zs. RendersAll R E s f (map h zs) t g) (sym e)
      (record { answers = None ∷ run.answers; rendered = (m, r, run.rendered); handed = run.handed })

  -- one gives a text
  pub all_given : (xs ys : List B) (x : B) (s m t : S) (f k g : F) (text : List ℕ) → xs ≡ x ∷ ys → R s (h x) (Some text) m → E f text k → RendersAll R E m k (map h ys) t g
      → RendersAll R E s f (map h xs) t g
  all_given xs ys x s m t f k g text e r emitted run =
      subst (λ zs. RendersAll R E s f (map h zs) t g) (sym e)
      (record { answers = Some text ∷ run.answers; rendered = (m, r, run.rendered); handed = (k, emitted, run.handed) })

  pub front_silent : (xs ys : List B) (x : B) (s m : S) (f g : F) → xs ≡ x ∷ ys → R s (h x) None m → RendersFront R E m f (map h ys) g → RendersFront R E s f (map h xs) g
  front_silent xs ys x s m f g e r run =
      subst (λ zs. RendersFront R E s f (map h zs) g) (sym e)
      (record {
        front = h x ∷ run.front;
        rest = run.rest;
        split = ap (λ l. h x ∷ l) run.split;
        last = run.last;
        all = record { answers = None ∷ run.all.answers; rendered = (m, r, run.all.rendered); handed = run.all.handed };
      })

  pub front_given : (xs ys : List B) (x : B) (s m : S) (f k g : F) (text : List ℕ) → xs ≡ x ∷ ys → R s (h x) (Some text) m → E f text k → RendersFront R E m k (map h ys) g
      → RendersFront R E s f (map h xs) g
  front_given xs ys x s m f k g text e r emitted run =
      subst (λ zs. RendersFront R E s f (map h zs) g) (sym e)
      (record {
        front = h x ∷ run.front;
        rest = run.rest;
        split = ap (λ l. h x ∷ l) run.split;
        last = run.last;
        all = record { answers = Some text ∷ run.all.answers; rendered = (m, r, run.all.rendered); handed = (k, emitted, run.all.handed) };
      })

-- the list calls that stop at the first text that is not kept
module _ {S F B : Type 0} (R : S → Parts → Option (List ℕ) → S → Type 0) (K : F → Offer → Bool → F → Type 0) (h : B → Parts) where
  each_silent : (p : Parts) (ps : List Parts) (s m t : S) (f g : F) → R s p None m → KeepsEach R K m f ps t g → KeepsEach R K s f (p ∷ ps) t g
  each_silent p ps s m t f g r run = record { answers = None ∷ run.answers; rendered = (m, r, run.rendered); kept = run.kept }

  each_kept : (p : Parts) (ps : List Parts) (s m t : S) (f k g : F) (text : List ℕ) → R s p (Some text) m → K f (record { name = source_name p.source; text = text }) true k → KeepsEach R K m k ps t g
      → KeepsEach R K s f (p ∷ ps) t g
  each_kept p ps s m t f k g text r kept run = record { answers = Some text ∷ run.answers; rendered = (m, r, run.rendered); kept = (k, kept, run.kept) }

  nothing : (s : S) (f : F) → KeepsEach R K s f [] s f
  nothing s f = record { answers = []; rendered = refl; kept = refl }

  pub ends_until : (xs : List B) (s : S) (f : F) → length xs ≡ 0 → RendersUntil R K s f (map h xs) s f
  ends_until [] s f e = inl (nothing s f)
  ends_until (x ∷ xs) s f e = absurd (omega (arith, e))

  pub keeps_front : (xs : List B) (s : S) (f : F) → KeepsFront R K s f (map h xs) f
  keeps_front xs s f = record { front = []; rest = map h xs; split = refl; last = s; all = nothing s f }

  -- one is left out
  until_silent : (xs ys : List B) (x : B) (s m t : S) (f g : F) → xs ≡ x ∷ ys → R s (h x) None m → RendersUntil R K m f (map h ys) t g → RendersUntil R K s f (map h xs) t g
  until_silent xs ys x s m t f g e r run =
      subst (λ zs. RendersUntil R K s f (map h zs) t g) (sym e)
      (⊎_elim
      (λ (each : KeepsEach R K m f (map h ys) t g). inl (each_silent (h x) (map h ys) s m t f g r each))
      (λ (stop : StopsAt R K m f (map h ys) t g). inr (record {
        front = h x ∷ stop.front;
        one = stop.one;
        rest = stop.rest;
        split = ap (λ l. h x ∷ l) stop.split;
        before = stop.before;
        asked = stop.asked;
        kept = each_silent (h x) stop.front s m stop.before f stop.asked r stop.kept;
        text = stop.text;
        rendered = stop.rendered;
        refused = stop.refused;
      }))
      run)

  -- the text of one is kept
  until_kept : (xs ys : List B) (x : B) (s m t : S) (f k g : F) (text : List ℕ) → xs ≡ x ∷ ys → R s (h x) (Some text) m
      → K f (record { name = source_name (h x).source; text = text }) true k → RendersUntil R K m k (map h ys) t g → RendersUntil R K s f (map h xs) t g
  until_kept xs ys x s m t f k g text e r kept run =
      subst (λ zs. RendersUntil R K s f (map h zs) t g) (sym e)
      (⊎_elim
      (λ (each : KeepsEach R K m k (map h ys) t g). inl (each_kept (h x) (map h ys) s m t f k g text r kept each))
      (λ (stop : StopsAt R K m k (map h ys) t g). inr (record {
        front = h x ∷ stop.front;
        one = stop.one;
        rest = stop.rest;
        split = ap (λ l. h x ∷ l) stop.split;
        before = stop.before;
        asked = stop.asked;
        kept = each_kept (h x) stop.front s m stop.before f k stop.asked text r kept stop.kept;
        text = stop.text;
        rendered = stop.rendered;
        refused = stop.refused;
      }))
      run)

  -- it is not kept
  pub until_refused : (xs ys : List B) (x : B) (s m : S) (f g : F) (text : List ℕ) → xs ≡ x ∷ ys → R s (h x) (Some text) m
      → K f (record { name = source_name (h x).source; text = text }) false g → RendersUntil R K s f (map h xs) m g
  until_refused xs ys x s m f g text e r refused =
      subst (λ zs. RendersUntil R K s f (map h zs) m g) (sym e)
      (inr (record { front = []; one = h x; rest = map h ys; split = refl; before = s; asked = f; kept = nothing s f; text = text; rendered = r; refused = refused }))

  kept_silent : (xs ys : List B) (x : B) (s m : S) (f g : F) → xs ≡ x ∷ ys → R s (h x) None m → KeepsFront R K m f (map h ys) g → KeepsFront R K s f (map h xs) g
  kept_silent xs ys x s m f g e r run =
      subst (λ zs. KeepsFront R K s f (map h zs) g) (sym e)
      (record { front = h x ∷ run.front; rest = run.rest; split = ap (λ l. h x ∷ l) run.split; last = run.last; all = each_silent (h x) run.front s m run.last f g r run.all })

  kept_given : (xs ys : List B) (x : B) (s m : S) (f k g : F) (text : List ℕ) → xs ≡ x ∷ ys → R s (h x) (Some text) m
      → K f (record { name = source_name (h x).source; text = text }) true k → KeepsFront R K m k (map h ys) g → KeepsFront R K s f (map h xs) g
  kept_given xs ys x s m f k g text e r kept run =
      subst (λ zs. KeepsFront R K s f (map h zs) g) (sym e)
      (record { front = h x ∷ run.front; rest = run.rest; split = ap (λ l. h x ∷ l) run.split; last = run.last; all = each_kept (h x) run.front s m run.last f k g text r kept run.all })

  -- what is done with the rest of a list from one pair of states on, is done with the list from another
  pub record Leads (xs : List B) (s : S) (f : F) (ys : List B) (m : S) (k : F) : Type 0 where
    pub until : (t : S) (g : F) → RendersUntil R K m k (map h ys) t g → RendersUntil R K s f (map h xs) t g
    pub front : (g : F) → KeepsFront R K m k (map h ys) g → KeepsFront R K s f (map h xs) g

  pub silent_leads : (xs ys : List B) (x : B) (s m : S) (f k : F) → xs ≡ x ∷ ys → R s (h x) None m → k ≡ f → Leads xs s f ys m k
  silent_leads xs ys x s m f k e r same =
      subst (λ z. Leads xs s f ys m z) (sym same)
      (record { until = λ t g run. until_silent xs ys x s m t f g e r run; front = λ g run. kept_silent xs ys x s m f g e r run })

  pub kept_leads : (xs ys : List B) (x : B) (s m : S) (f k l : F) (text : List ℕ) → xs ≡ x ∷ ys → R s (h x) (Some text) m
      → K f (record { name = source_name (h x).source; text = text }) true k → l ≡ k → Leads xs s f ys m l
  kept_leads xs ys x s m f k l text e r kept same =
      subst (λ z. Leads xs s f ys m z) (sym same)
      (record { until = λ t g run. until_kept xs ys x s m t f k g text e r kept run; front = λ g run. kept_given xs ys x s m f k g text e r kept run })

-- A map of documents, seen by its URIs.
use Rattle.std.proofs.Common.{◌≡◌, ◌≢◌, ℕ, Bool, true, false, cond, bytes_eq, List, Option, refl, ◌∙◌, ap}
use Rattle.std.proofs.lemmas.Slice.Eq.{bytes_eq-Decides}
use Rattle.lsp_server.specs.Views.{OpenView}
use Rattle.lsp_server.specs.Told.{Documents, OnlyAt}

-- one entry is another, or goes
pub only_at : (uri : List ℕ) (value : Option OpenView) (old new : Documents) → ((other : List ℕ) → new other ≡ cond (bytes_eq uri other) value (old other)) → OnlyAt uri value old new
only_at uri value old new updates = record {
  here = updates uri ∙ ap (λ b. cond b value (old uri)) ((bytes_eq-Decides uri uri).1 refl);
  others = λ other apart. updates other ∙ other_at (bytes_eq uri other) other refl apart;
}
  where
    other_at : (b : Bool) (other : List ℕ) → bytes_eq uri other ≡ b → uri ≢ other → cond b value (old other) ≡ old other
    other_at true other is apart = absurd (apart ((bytes_eq-Decides uri other).0 is))
    other_at false other is apart = refl

-- Bases before a URI, one by one.
use Rattle.std.proofs.Common.{◌≡◌, ℕ, ◌-◌, ◌<◌, zero, suc, List, [], ◌∷◌, ◌++◌, Option, Some, None, refl, arith}
use Rattle.sarif_log.specs.Log.{UriBase}
use Rattle.sarif.specs.Naming.{front_of, next_base, resolved_in, with_base}
pub use Rattle.sarif.proofs.RuleLemmas.{option_or_assoc}

-- no base is left
pub resolved_none : (left : ℕ) (bases : List UriBase) (used : List (List ℕ)) (base : Option (List ℕ)) (uri : List ℕ) → left ≡ 0 → resolved_in left bases used base uri ≡ uri
unfolding resolved_in
resolved_none zero bases used base uri none = refl
resolved_none (suc left) bases used base uri none = absurd (omega (arith, none))

-- one base less
pub resolved_step : (left : ℕ) (bases : List UriBase) (used : List (List ℕ)) (base : Option (List ℕ)) (uri : List ℕ) → 0 < left
    → resolved_in left bases used base uri ≡ with_base (next_base bases used base uri) uri (λ it. resolved_in (left - 1) bases (used ++ it.name ∷ []) it.location.base (front_of it.location.uri ++ uri))
unfolding resolved_in
resolved_step zero bases used base uri some = absurd (omega (arith, some))
resolved_step (suc left) bases used base uri some = let e : suc left - 1 ≡ left = omega arith in rw e refl

-- there is no next one
pub resolved_stop : (left : ℕ) (bases : List UriBase) (used : List (List ℕ)) (base : Option (List ℕ)) (uri : List ℕ) → 0 < left → next_base bases used base uri ≡ None → resolved_in left bases used base uri ≡ uri
resolved_stop left bases used base uri some none = rw (resolved_step left bases used base uri some, none) refl

-- there is
pub resolved_go : (left : ℕ) (bases : List UriBase) (used : List (List ℕ)) (base : Option (List ℕ)) (uri : List ℕ) (it : UriBase) → 0 < left → next_base bases used base uri ≡ Some it
    → resolved_in left bases used base uri ≡ resolved_in (left - 1) bases (used ++ it.name ∷ []) it.location.base (front_of it.location.uri ++ uri)
resolved_go left bases used base uri it some next = rw (resolved_step left bases used base uri some, next) refl

-- the same to what comes of it
pub resolved_to : (left : ℕ) (bases : List UriBase) (used more : List (List ℕ)) (base next : Option (List ℕ)) (uri name : List ℕ) (it : UriBase) → 0 < left → next_base bases used base uri ≡ Some it
    → more ≡ used ++ it.name ∷ [] → next ≡ it.location.base → name ≡ front_of it.location.uri ++ uri
    → resolved_in left bases used base uri ≡ resolved_in (left - 1) bases more next name
resolved_to left bases used more base next uri name it some there a b c = rw (a, b, c) (resolved_go left bases used base uri it some there)

pub ruleset resolved_rules = (resolved_none, resolved_stop, resolved_go)

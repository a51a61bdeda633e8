-- Runs over bytes.
use Rattle.std.proofs.Common.{◌≡◌, ℕ, ◌+◌, ◌-◌, ◌==◌, ◌<◌, ◌≤◌, false, cond, List, [], ◌∷◌, ◌++◌, length, take, drop, refl, sym, ◌∙◌, ap, subst, append_assoc, append-nil, arith, suc, zero}
use Rattle.std.proofs.lemmas.Grind.{common_steps}
use Rattle.std.proofs.lemmas.Bool.Decides.{nat_tests}
use Rattle.std.proofs.Math.Seq.{take-add, take-length}
use Rattle.lsp_server.specs.declared.head.Why.{Why}
use Rattle.lsp_server.specs.declared.frames.State.{State}
use Rattle.lsp_server.specs.declared.frames.State.TheVariants.{InBody}
use Rattle.lsp_server.specs.declared.frames.End.{End}
use Rattle.lsp_server.specs.declared.frames.End.TheVariants.{More, Message, Refused, OutOfMemory}
use Rattle.lsp_server.specs.Run.{Machine, machine, start, moved, ended, after, bodies, is_dead}
use Rattle.lsp_server.specs.Ends.{Read, Refuses, Ends}

-- however the bytes are cut
pub after-append : (m : Machine) (xs ys : List ℕ) → after m (xs ++ ys) ≡ after (after m xs) ys
after-append m [] ys = refl
after-append m (x ∷ xs) ys = after-append (moved m.state m.body x) xs ys

pub bodies-append : (m : Machine) (xs ys : List ℕ) → bodies m (xs ++ ys) ≡ bodies m xs ++ bodies (after m xs) ys
bodies-append m [] ys = refl
bodies-append m (x ∷ xs) ys =
    ap (λ rest. ended m.state m.body x ++ rest) (bodies-append (moved m.state m.body x) xs ys)
    ∙ sym (append_assoc (ended m.state m.body x) (bodies (moved m.state m.body x) xs) (bodies (after (moved m.state m.body x) xs) ys))

-- one byte within a body, and the last
pub nonzero : (n : ℕ) → 0 < n → (n == 0) ≡ false
nonzero n h = grind (arith, nat_tests)

one_within : (more : ℕ) (body : List ℕ) (x : ℕ) → 0 < more → moved (InBody more) body x ≡ machine (InBody (more - 1)) (body ++ x ∷ [])
one_within more body x h = ap (λ t. cond t start (machine (InBody (more - 1)) (body ++ x ∷ []))) (nonzero more h)

none_within : (more : ℕ) (body : List ℕ) (x : ℕ) → 0 < more → ended (InBody more) body x ≡ []
none_within more body x h = ap (λ t. cond t ((body ++ x ∷ []) ∷ []) []) (nonzero more h)

last_moved : (more : ℕ) (body : List ℕ) (x : ℕ) → more ≡ 0 → moved (InBody more) body x ≡ start
last_moved zero body x h = refl
last_moved (suc more) body x h = absurd (omega arith)

last_ended : (more : ℕ) (body : List ℕ) (x : ℕ) → more ≡ 0 → ended (InBody more) body x ≡ (body ++ x ∷ []) ∷ []
last_ended zero body x h = refl
last_ended (suc more) body x h = absurd (omega arith)

-- bytes within a body
pub after_within : (more : ℕ) (body xs : List ℕ) → length xs ≤ more → after (machine (InBody more) body) xs ≡ machine (InBody (more - length xs)) (body ++ xs)
after_within more body [] h =
    let n : more ≡ more - 0 = omega arith in
    ap (λ k. machine (InBody k) body) n ∙ ap (λ b. machine (InBody (more - 0)) b) (sym (append-nil body))
after_within more body (x ∷ xs) h =
    let n : (more - 1) - length xs ≡ more - length (x ∷ xs) = omega arith in
    ap (λ m. after m xs) (one_within more body x (omega arith))
    ∙ (after_within (more - 1) (body ++ x ∷ []) xs (omega arith)
    ∙ (ap (λ k. machine (InBody k) ((body ++ x ∷ []) ++ xs)) n
    ∙ ap (λ b. machine (InBody (more - length (x ∷ xs))) b) (append_assoc body (x ∷ []) xs)))

pub bodies_within : (more : ℕ) (body xs : List ℕ) → length xs ≤ more → bodies (machine (InBody more) body) xs ≡ []
bodies_within more body [] h = refl
bodies_within more body (x ∷ xs) h =
    ap (λ e. e ++ bodies (moved (InBody more) body x) xs) (none_within more body x (omega arith))
    ∙ (ap (λ m. bodies m xs) (one_within more body x (omega arith))
    ∙ bodies_within (more - 1) (body ++ x ∷ []) xs (omega arith))

-- and up to its end
pub after_whole : (more : ℕ) (body xs : List ℕ) → length xs ≡ more + 1 → after (machine (InBody more) body) xs ≡ start
after_whole more body [] h = absurd (omega arith)
after_whole more body (x ∷ []) h = last_moved more body x (omega arith)
after_whole more body (x ∷ y ∷ ys) h =
    ap (λ m. after m (y ∷ ys)) (one_within more body x (omega arith))
    ∙ after_whole (more - 1) (body ++ x ∷ []) (y ∷ ys) (omega arith)

pub bodies_whole : (more : ℕ) (body xs : List ℕ) → length xs ≡ more + 1 → bodies (machine (InBody more) body) xs ≡ (body ++ xs) ∷ []
bodies_whole more body [] h = absurd (omega arith)
bodies_whole more body (x ∷ []) h = ap (λ e. e ++ []) (last_ended more body x (omega arith))
bodies_whole more body (x ∷ y ∷ ys) h =
    ap (λ e. e ++ bodies (moved (InBody more) body x) (y ∷ ys)) (none_within more body x (omega arith))
    ∙ (ap (λ m. bodies m (y ∷ ys)) (one_within more body x (omega arith))
    ∙ (bodies_whole (more - 1) (body ++ x ∷ []) (y ∷ ys) (omega arith)
    ∙ ap (λ b. b ∷ []) (append_assoc body (x ∷ []) (y ∷ ys))))

-- all bytes lie within the body
pub read_within : (more : ℕ) (body bytes now : List ℕ) → length bytes < more + 1 → now ≡ body ++ bytes →
    Read (machine (InBody more) body) bytes (length bytes) (machine (InBody (more + 1 - length bytes - 1)) now) []
read_within more body bytes now h e =
    let n : more - length bytes ≡ more + 1 - length bytes - 1 = omega arith in
    record {
      leads = ap (λ xs. after (machine (InBody more) body) xs) (take-length bytes)
          ∙ (after_within more body bytes (omega arith)
          ∙ (ap (λ k. machine (InBody k) (body ++ bytes)) n
          ∙ ap (λ b. machine (InBody (more + 1 - length bytes - 1)) b) (sym e)));
      ends = ap (λ xs. bodies (machine (InBody more) body) xs) (take-length bytes) ∙ bodies_within more body bytes (omega arith);
      alive = λ _. refl;
    }

-- the bytes end the body
pub read_whole : (more : ℕ) (body bytes whole : List ℕ) → more + 1 ≤ length bytes → whole ≡ body ++ take (more + 1) bytes →
    Read (machine (InBody more) body) bytes (more + 1) start (whole ∷ [])
read_whole more body bytes whole h e =
    let n : length (take (more + 1) bytes) ≡ more + 1 = grind (arith, common_steps) in
    record {
      leads = after_whole more body (take (more + 1) bytes) n;
      ends = bodies_whole more body (take (more + 1) bytes) n ∙ ap (λ b. b ∷ []) (sym e);
      alive = λ _. refl;
    }

-- one call behind another
pub read_on : (old mid new : Machine) (bytes : List ℕ) (used n : ℕ) (said : List (List ℕ)) →
    Read old bytes used mid [] → Read mid (drop used bytes) n new said → Read old bytes (used + n) new said
read_on old mid new bytes used n said a b = record {
  leads = ap (λ xs. after old xs) (take-add used n bytes)
      ∙ (after-append old (take used bytes) (take n (drop used bytes))
      ∙ (ap (λ m. after m (take n (drop used bytes))) a.leads ∙ b.leads));
  ends = ap (λ xs. bodies old xs) (take-add used n bytes)
      ∙ (bodies-append old (take used bytes) (take n (drop used bytes))
      ∙ (ap (λ e. e ++ bodies (after old (take used bytes)) (take n (drop used bytes))) a.ends
      ∙ (ap (λ m. bodies m (take n (drop used bytes))) a.leads ∙ b.ends)));
  alive = λ h. b.alive (a.alive h);
}

pub refuses_on : (old mid new : Machine) (bytes : List ℕ) (used n : ℕ) (why : Why) →
    Read old bytes used mid [] → Refuses mid (drop used bytes) n new why → Refuses old bytes (used + n) new why
refuses_on old mid new bytes used n why a b =
    let k : used + n + 1 ≡ used + (n + 1) = omega arith in
    record {
      leads = ap (λ i. after old (take i bytes)) k
          ∙ (ap (λ xs. after old xs) (take-add used (n + 1) bytes)
          ∙ (after-append old (take used bytes) (take (n + 1) (drop used bytes))
          ∙ (ap (λ m. after m (take (n + 1) (drop used bytes))) a.leads ∙ b.leads)));
      ends = ap (λ i. bodies old (take i bytes)) k
          ∙ (ap (λ xs. bodies old xs) (take-add used (n + 1) bytes)
          ∙ (bodies-append old (take used bytes) (take (n + 1) (drop used bytes))
          ∙ (ap (λ e. e ++ bodies (after old (take used bytes)) (take (n + 1) (drop used bytes))) a.ends
          ∙ (ap (λ m. bodies m (take (n + 1) (drop used bytes))) a.leads ∙ b.ends))));
      alive = λ h.
          let to : after old (take (used + n) bytes) ≡ after mid (take n (drop used bytes)) =
          ap (λ xs. after old xs) (take-add used n bytes)
          ∙ (after-append old (take used bytes) (take n (drop used bytes))
          ∙ ap (λ m. after m (take n (drop used bytes))) a.leads) in
          ap (λ m. is_dead m.state) to ∙ b.alive (a.alive h);
      dead = b.dead;
    }

pub ends_on : (end : End) (old mid new : Machine) (bytes : List ℕ) (used n : ℕ) →
    Read old bytes used mid [] → Ends end mid (drop used bytes) n new → Ends end old bytes (used + n) new
ends_on More old mid new bytes used n a b = read_on old mid new bytes used n [] a b
ends_on (Message body) old mid new bytes used n a b = read_on old mid new bytes used n (body.items ∷ []) a b
ends_on (Refused why) old mid new bytes used n a b = refuses_on old mid new bytes used n why a b
ends_on OutOfMemory old mid new bytes used n a b = read_on old mid new bytes used n [] a b

-- the same, where the state is known by an equation
pub within_at : (state : State) (more : ℕ) (body bytes now : List ℕ) → state ≡ InBody more → length bytes < more + 1 → now ≡ body ++ bytes →
    Read (machine state body) bytes (length bytes) (machine (InBody (more + 1 - length bytes - 1)) now) []
within_at state more body bytes now s h e =
    subst (λ (t : State). Read (machine t body) bytes (length bytes) (machine (InBody (more + 1 - length bytes - 1)) now) []) (sym s) (read_within more body bytes now h e)

pub whole_at : (state : State) (more : ℕ) (body bytes whole rest : List ℕ) → state ≡ InBody more → more + 1 ≤ length bytes → whole ≡ body ++ take (more + 1) bytes → rest ≡ [] →
    Read (machine state body) bytes (more + 1) (machine start.state rest) (whole ∷ [])
whole_at state more body bytes whole rest s h e r =
    let got : Read (machine state body) bytes (more + 1) start (whole ∷ []) =
    subst (λ (t : State). Read (machine t body) bytes (more + 1) start (whole ∷ [])) (sym s) (read_whole more body bytes whole h e) in
    subst (λ (t : List ℕ). Read (machine state body) bytes (more + 1) (machine start.state t) (whole ∷ [])) (sym r) got

pub more_on : (end : End) (old mid new : Machine) (bytes : List ℕ) (used n : ℕ) → end ≡ More →
    Read old bytes used mid [] → Ends end mid (drop used bytes) n new → Read old bytes (used + n) new []
more_on end old mid new bytes used n e a b =
    subst (λ (t : End). Ends t old bytes (used + n) new) e (ends_on end old mid new bytes used n a b)

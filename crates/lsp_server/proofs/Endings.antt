-- How a frame that has begun can end.
use Rattle.std.proofs.Common.{◌≡◌, ℕ, ◌+◌, ◌==◌, ◌<◌, ◌≤◌, suc, zero, nat_lt, Bool, true, false, cond, List, [], ◌∷◌, ◌++◌, length, Option, None, Some, refl, ◌∙◌, ap, subst, arith}
use Rattle.std.specs.Prelude.{slice_index, replicate}
use Rattle.std.proofs.lemmas.List.{length-replicate}
use Rattle.lsp_server.specs.declared.head.Place.{Place}
use Rattle.lsp_server.specs.declared.head.Place.TheVariants.{Line, Name, Other, Value, LineEnd, Spaces, Digits, HeadEnd}
use Rattle.lsp_server.specs.declared.head.Step.TheVariants.{Begins}
use Rattle.lsp_server.specs.declared.head.TheConstants.{NAME}
use Rattle.lsp_server.specs.declared.frames.State.{State}
use Rattle.lsp_server.specs.declared.frames.State.TheVariants.{InHead, InBody, Dead}
use Rattle.lsp_server.specs.Frame.{place_step, on}
use Rattle.lsp_server.specs.Run.{machine, start, entered, after, bodies, is_dead}
use Rattle.lsp_server.specs.Written.{RefusedForGood, CanEnd, HasRoom}
use Rattle.lsp_server.proofs.Runs.{after-append, after_whole}
use Rattle.lsp_server.proofs.WrittenLemmas.{small_step, body_leads}

refused_at : (s : State) (body more : List ℕ) → is_dead s ≡ true → (bodies (machine s body) more ≡ []) × (is_dead (after (machine s body) more).state ≡ true)
refused_at s body [] h = (refl, h)
refused_at (Dead why) body (x ∷ xs) h = refused_at (Dead why) body xs refl
refused_at (InHead head) body (x ∷ xs) h = cc
refused_at (InBody n) body (x ∷ xs) h = cc

pub refused_for_good : RefusedForGood
refused_for_good m more h = refused_at m.state m.body more h

-- bytes of a head lead from one place to another, wherever they stand
abbrev Leads : Place → Option ℕ → List ℕ → Place → Option ℕ → Type 0
Leads p l bs q m = (count : ℕ) (body : List ℕ) → count + length bs ≤ 4096 →
    after (machine (InHead (record { place = p; length = l; count = count })) body) bs ≡ machine (InHead (record { place = q; length = m; count = count + length bs })) body

leads_none : (p : Place) (l : Option ℕ) → Leads p l [] p l
leads_none p l = λ count body h.
    let e : count ≡ count + 0 = omega arith in
    ap (λ c. machine (InHead (record { place = p; length = l; count = c })) body) e

leads_cons : (p : Place) (l : Option ℕ) (b : ℕ) (bs : List ℕ) (q : Place) (m : Option ℕ) (r : Place) (k : Option ℕ) →
    ((n : ℕ) → place_step p l n b ≡ on q m n) → Leads q m bs r k → Leads p l (b ∷ bs) r k
leads_cons p l b bs q m r k one rest = λ count body h.
    let e : count + 1 + length bs ≡ count + length (b ∷ bs) = omega arith in
    ap (λ s. after (entered s body) bs) (small_step p l count b (omega arith) ∙ one (count + 1))
    ∙ (rest (count + 1) body (omega arith)
    ∙ ap (λ c. machine (InHead (record { place = r; length = k; count = c })) body) e)

length_line : Leads Line None (67 ∷ 111 ∷ 110 ∷ 116 ∷ 101 ∷ 110 ∷ 116 ∷ 45 ∷ 76 ∷ 101 ∷ 110 ∷ 103 ∷ 116 ∷ 104 ∷ 58 ∷ 48 ∷ 13 ∷ 10 ∷ []) Line (Some 0)
length_line =
    leads_cons Line None 67 (111 ∷ 110 ∷ 116 ∷ 101 ∷ 110 ∷ 116 ∷ 45 ∷ 76 ∷ 101 ∷ 110 ∷ 103 ∷ 116 ∷ 104 ∷ 58 ∷ 48 ∷ 13 ∷ 10 ∷ []) (Name 1) None Line (Some 0) (λ n. refl) (
    leads_cons (Name 1) None 111 (110 ∷ 116 ∷ 101 ∷ 110 ∷ 116 ∷ 45 ∷ 76 ∷ 101 ∷ 110 ∷ 103 ∷ 116 ∷ 104 ∷ 58 ∷ 48 ∷ 13 ∷ 10 ∷ []) (Name 2) None Line (Some 0) (λ n. refl) (
    leads_cons (Name 2) None 110 (116 ∷ 101 ∷ 110 ∷ 116 ∷ 45 ∷ 76 ∷ 101 ∷ 110 ∷ 103 ∷ 116 ∷ 104 ∷ 58 ∷ 48 ∷ 13 ∷ 10 ∷ []) (Name 3) None Line (Some 0) (λ n. refl) (
    leads_cons (Name 3) None 116 (101 ∷ 110 ∷ 116 ∷ 45 ∷ 76 ∷ 101 ∷ 110 ∷ 103 ∷ 116 ∷ 104 ∷ 58 ∷ 48 ∷ 13 ∷ 10 ∷ []) (Name 4) None Line (Some 0) (λ n. refl) (
    leads_cons (Name 4) None 101 (110 ∷ 116 ∷ 45 ∷ 76 ∷ 101 ∷ 110 ∷ 103 ∷ 116 ∷ 104 ∷ 58 ∷ 48 ∷ 13 ∷ 10 ∷ []) (Name 5) None Line (Some 0) (λ n. refl) (
    leads_cons (Name 5) None 110 (116 ∷ 45 ∷ 76 ∷ 101 ∷ 110 ∷ 103 ∷ 116 ∷ 104 ∷ 58 ∷ 48 ∷ 13 ∷ 10 ∷ []) (Name 6) None Line (Some 0) (λ n. refl) (
    leads_cons (Name 6) None 116 (45 ∷ 76 ∷ 101 ∷ 110 ∷ 103 ∷ 116 ∷ 104 ∷ 58 ∷ 48 ∷ 13 ∷ 10 ∷ []) (Name 7) None Line (Some 0) (λ n. refl) (
    leads_cons (Name 7) None 45 (76 ∷ 101 ∷ 110 ∷ 103 ∷ 116 ∷ 104 ∷ 58 ∷ 48 ∷ 13 ∷ 10 ∷ []) (Name 8) None Line (Some 0) (λ n. refl) (
    leads_cons (Name 8) None 76 (101 ∷ 110 ∷ 103 ∷ 116 ∷ 104 ∷ 58 ∷ 48 ∷ 13 ∷ 10 ∷ []) (Name 9) None Line (Some 0) (λ n. refl) (
    leads_cons (Name 9) None 101 (110 ∷ 103 ∷ 116 ∷ 104 ∷ 58 ∷ 48 ∷ 13 ∷ 10 ∷ []) (Name 10) None Line (Some 0) (λ n. refl) (
    leads_cons (Name 10) None 110 (103 ∷ 116 ∷ 104 ∷ 58 ∷ 48 ∷ 13 ∷ 10 ∷ []) (Name 11) None Line (Some 0) (λ n. refl) (
    leads_cons (Name 11) None 103 (116 ∷ 104 ∷ 58 ∷ 48 ∷ 13 ∷ 10 ∷ []) (Name 12) None Line (Some 0) (λ n. refl) (
    leads_cons (Name 12) None 116 (104 ∷ 58 ∷ 48 ∷ 13 ∷ 10 ∷ []) (Name 13) None Line (Some 0) (λ n. refl) (
    leads_cons (Name 13) None 104 (58 ∷ 48 ∷ 13 ∷ 10 ∷ []) (Name 14) None Line (Some 0) (λ n. refl) (
    leads_cons (Name 14) None 58 (48 ∷ 13 ∷ 10 ∷ []) Spaces None Line (Some 0) (λ n. refl) (
    leads_cons Spaces None 48 (13 ∷ 10 ∷ []) (Digits 0) None Line (Some 0) (λ n. refl) (
    leads_cons (Digits 0) None 13 (10 ∷ []) LineEnd (Some 0) Line (Some 0) (λ n. refl) (
    leads_cons LineEnd (Some 0) 10 ([]) Line (Some 0) Line (Some 0) (λ n. refl) (
    leads_none Line (Some 0)))))))))))))))))))

not_x : (k : ℕ) → (slice_index NAME k == 120) ≡ false
not_x zero = refl
not_x (suc zero) = refl
not_x (suc (suc zero)) = refl
not_x (suc (suc (suc zero))) = refl
not_x (suc (suc (suc (suc zero)))) = refl
not_x (suc (suc (suc (suc (suc zero))))) = refl
not_x (suc (suc (suc (suc (suc (suc zero)))))) = refl
not_x (suc (suc (suc (suc (suc (suc (suc zero))))))) = refl
not_x (suc (suc (suc (suc (suc (suc (suc (suc zero)))))))) = refl
not_x (suc (suc (suc (suc (suc (suc (suc (suc (suc zero))))))))) = refl
not_x (suc (suc (suc (suc (suc (suc (suc (suc (suc (suc zero)))))))))) = refl
not_x (suc (suc (suc (suc (suc (suc (suc (suc (suc (suc (suc zero))))))))))) = refl
not_x (suc (suc (suc (suc (suc (suc (suc (suc (suc (suc (suc (suc zero)))))))))))) = refl
not_x (suc (suc (suc (suc (suc (suc (suc (suc (suc (suc (suc (suc (suc zero))))))))))))) = refl
not_x (suc (suc (suc (suc (suc (suc (suc (suc (suc (suc (suc (suc (suc (suc k)))))))))))))) = refl

other_name : (k n : ℕ) (l : Option ℕ) → place_step (Name k) l n 120 ≡ on Other l n
other_name k n l =
    ap (λ t. on (cond (nat_lt k 14) (cond t (Name (k + 1)) Other) Other) l n) (not_x k) ∙ same (nat_lt k 14) l n
  where
    same : (b : Bool) (l : Option ℕ) (n : ℕ) → on (cond b Other Other) l n ≡ on Other l n
    same true l n = refl
    same false l n = refl

-- from here some bytes lead to the end of a frame
abbrev Ends : State → Type 0
Ends s = (more : List ℕ) × ((body : List ℕ) → after (machine s body) more ≡ start)

ends_on : (p : Place) (l : Option ℕ) (bs : List ℕ) (q : Place) (m : Option ℕ) (count : ℕ) → Leads p l bs q m → count + length bs ≤ 4096 →
    Ends (InHead (record { place = q; length = m; count = count + length bs })) → Ends (InHead (record { place = p; length = l; count = count }))
ends_on p l bs q m count leads h (more, ends) = (
  bs ++ more,
  λ body.
      after-append (machine (InHead (record { place = p; length = l; count = count })) body) bs more
      ∙ (ap (λ t. after t more) (leads count body h) ∙ ends body),
)

head_end : (n : ℕ) (l : Option ℕ) (count : ℕ) → count < 4096 → Ends (InHead (record { place = HeadEnd n; length = l; count = count }))
head_end n l count h = (
  10 ∷ replicate n 0,
  λ body.
      ap (λ s. after (entered s body) (replicate n 0)) (small_step (HeadEnd n) l count 10 h)
      ∙ subst (λ k. after (entered (Begins k) []) (replicate n 0) ≡ start) (length-replicate n 0) (body_leads (replicate n 0)),
)

from_line_told : (n : ℕ) (count : ℕ) → count + 2 ≤ 4096 → Ends (InHead (record { place = Line; length = Some n; count = count }))
from_line_told n count h =
    ends_on Line (Some n) (13 ∷ []) (HeadEnd n) (Some n) count (leads_cons Line (Some n) 13 [] (HeadEnd n) (Some n) (HeadEnd n) (Some n) (λ k. refl) (leads_none (HeadEnd n) (Some n))) (omega arith)
    (head_end n (Some n) (count + 1) (omega arith))

from_line : (l : Option ℕ) (count : ℕ) → count + 20 ≤ 4096 → Ends (InHead (record { place = Line; length = l; count = count }))
from_line None count h = ends_on Line None (67 ∷ 111 ∷ 110 ∷ 116 ∷ 101 ∷ 110 ∷ 116 ∷ 45 ∷ 76 ∷ 101 ∷ 110 ∷ 103 ∷ 116 ∷ 104 ∷ 58 ∷ 48 ∷ 13 ∷ 10 ∷ []) Line (Some 0) count length_line (omega arith) (from_line_told 0 (count + 18) (omega arith))
from_line (Some n) count h = from_line_told n count (omega arith)

from_line_end : (l : Option ℕ) (count : ℕ) → count + 21 ≤ 4096 → Ends (InHead (record { place = LineEnd; length = l; count = count }))
from_line_end l count h = ends_on LineEnd l (10 ∷ []) Line l count (leads_cons LineEnd l 10 [] Line l Line l (λ k. refl) (leads_none Line l)) (omega arith) (from_line l (count + 1) (omega arith))

from_value : (l : Option ℕ) (count : ℕ) → count + 22 ≤ 4096 → Ends (InHead (record { place = Value; length = l; count = count }))
from_value l count h = ends_on Value l (13 ∷ []) LineEnd l count (leads_cons Value l 13 [] LineEnd l LineEnd l (λ k. refl) (leads_none LineEnd l)) (omega arith) (from_line_end l (count + 1) (omega arith))

from_other : (l : Option ℕ) (count : ℕ) → count + 23 ≤ 4096 → Ends (InHead (record { place = Other; length = l; count = count }))
from_other l count h = ends_on Other l (58 ∷ []) Value l count (leads_cons Other l 58 [] Value l Value l (λ k. refl) (leads_none Value l)) (omega arith) (from_value l (count + 1) (omega arith))

from_digits : (n : ℕ) (l : Option ℕ) (count : ℕ) → count + 22 ≤ 4096 → Ends (InHead (record { place = Digits n; length = l; count = count }))
from_digits n l count h = ends_on (Digits n) l (13 ∷ []) LineEnd (Some n) count (leads_cons (Digits n) l 13 [] LineEnd (Some n) LineEnd (Some n) (λ k. refl) (leads_none LineEnd (Some n))) (omega arith) (from_line_end (Some n) (count + 1) (omega arith))

from_place : (p : Place) (l : Option ℕ) (count : ℕ) → count + 40 ≤ 4096 → Ends (InHead (record { place = p; length = l; count = count }))
from_place Line l count h = from_line l count (omega arith)
from_place (Name k) l count h = ends_on (Name k) l (120 ∷ []) Other l count (leads_cons (Name k) l 120 [] Other l Other l (λ n. other_name k n l) (leads_none Other l)) (omega arith) (from_other l (count + 1) (omega arith))
from_place Other l count h = from_other l count (omega arith)
from_place Value l count h = from_value l count (omega arith)
from_place LineEnd l count h = from_line_end l count (omega arith)
from_place Spaces l count h = ends_on Spaces l (48 ∷ []) (Digits 0) l count (leads_cons Spaces l 48 [] (Digits 0) l (Digits 0) l (λ n. refl) (leads_none (Digits 0) l)) (omega arith) (from_digits 0 l (count + 1) (omega arith))
from_place (Digits n) l count h = from_digits n l count (omega arith)
from_place (HeadEnd n) l count h = head_end n l count (omega arith)

from_state : (s : State) → is_dead s ≡ false → HasRoom s → Ends s
from_state (InHead h) alive room = from_place h.place h.length h.count room
from_state (InBody n) alive room = (replicate (n + 1) 0, λ body. after_whole n body (replicate (n + 1) 0) (length-replicate (n + 1) 0))
from_state (Dead why) alive room = cc

pub can_end : CanEnd
can_end bytes alive room =
    let e : Ends (after start bytes).state = from_state (after start bytes).state alive room in
    (e.0, after-append start bytes e.0 ∙ e.1 (after start bytes).body)

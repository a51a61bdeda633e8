-- A frame that is written is read.
use Rattle.std.proofs.Common.{◌≡◌, ℕ, ◌+◌, ◌-◌, ◌*◌, ◌/◌, ◌%◌, ◌^◌, ◌==◌, ◌<◌, ◌≤◌, nat_lt, nat_le, false, cond, List, [], ◌∷◌, ◌++◌, length, Option, None, Some, refl, ◌∙◌, ap, subst, arith, lit<, codes, length-append}
use Rattle.std.specs.Prelude.{decimal}
use Rattle.std.proofs.lemmas.Bool.Decides.{nat_tests}
use Rattle.std.proofs.lemmas.Fmt.{decimal_by_steps, length-decimal-le}
use Rattle.lsp_server.specs.declared.head.Place.{Place}
use Rattle.lsp_server.specs.declared.head.Place.TheVariants.{Line, LineEnd, Spaces, Digits, HeadEnd}
use Rattle.lsp_server.specs.declared.head.Head.{Head}
use Rattle.lsp_server.specs.declared.head.Step.TheVariants.{On, Begins, Fault}
use Rattle.lsp_server.specs.declared.head.Why.TheVariants.{LongHead}
use Rattle.lsp_server.specs.declared.frames.State.TheVariants.{InHead, InBody}
use Rattle.lsp_server.specs.Frame.{head_step, place_step, digit_step, on}
use Rattle.lsp_server.specs.Run.{Machine, machine, start, entered, empty_body, after, bodies, frame}
use Rattle.lsp_server.specs.Written.{IsWhole, FramesAreRead, CutsAgree, frames}
use Rattle.lsp_server.proofs.Runs.{after-append, bodies-append, after_whole, bodies_whole, nonzero}

-- bytes lead from one place to another, and end these bodies
record Goes (m : Machine) (bytes : List ℕ) (new : Machine) (said : List (List ℕ)) : Type 0 where
  leads : after m bytes ≡ new
  ends : bodies m bytes ≡ said

goes_on : (a b c : Machine) (xs ys : List ℕ) (said : List (List ℕ)) → Goes a xs b [] → Goes b ys c said → Goes a (xs ++ ys) c said
goes_on a b c xs ys said p q = record {
  leads = after-append a xs ys ∙ (ap (λ m. after m ys) p.leads ∙ q.leads);
  ends = bodies-append a xs ys ∙ (ap (λ e. e ++ bodies (after a xs) ys) p.ends ∙ (ap (λ m. bodies m ys) p.leads ∙ q.ends));
}

at : Place → Option ℕ → ℕ → Head
at place length count = record { place = place; length = length; count = count }

goes_head : (h new : Head) (b : ℕ) (bs : List ℕ) (m : Machine) (said : List (List ℕ)) → head_step h b ≡ On new → Goes (machine (InHead new) []) bs m said → Goes (machine (InHead h) []) (b ∷ bs) m said
goes_head h new b bs m said e q = record {
  leads = ap (λ s. after (entered s []) bs) e ∙ q.leads;
  ends = ap (λ s. empty_body s ++ bodies (entered s []) bs) e ∙ q.ends;
}

pub small_step : (place : Place) (length : Option ℕ) (count b : ℕ) → count < 4096 → head_step (record { place = place; length = length; count = count }) b ≡ place_step place length (count + 1) b
unfolding head_step
small_step place length count b h =
    let e : nat_le 4096 count ≡ false = grind (arith, nat_tests) in
    ap (λ t. cond t (Fault LongHead) (place_step place length (count + 1) b)) e

one_digit : (k d : ℕ) (count : ℕ) → d < 10 → k * 10 + d ≤ 8388608 → digit_step k None count (48 + d) ≡ on (Digits (k * 10 + d)) None count
one_digit k d count h small =
    let e1 : nat_lt (48 + d) 48 ≡ false = grind (arith, nat_tests) in
    let e2 : nat_lt 57 (48 + d) ≡ false = grind (arith, nat_tests) in
    let e4 : (48 + d) - 48 ≡ d = omega arith in
    let e3 : nat_lt 8388608 (k * 10 + d) ≡ false = grind (arith, nat_tests) in
    rw (e1, e2, e4, e3) refl

start_of_length : Machine
start_of_length = machine (InHead (record { place = Spaces; length = None; count = 16 })) []

IsRead : ℕ → List ℕ → Type 0
IsRead n ds = n ≤ 8388608 → length ds ≤ 20 → Goes start_of_length ds (machine (InHead (record { place = Digits n; length = None; count = 16 + length ds })) []) []

first_digit : (n : ℕ) → n < 10 → IsRead n ((48 + n) ∷ [])
unfolding IsRead start_of_length
first_digit n h = λ small short.
    let e : (48 + n == 32) ≡ false = grind (arith, nat_tests) in
    let e5 : 0 * 10 + n ≡ n = omega arith in
    let step : head_step (record { place = Spaces; length = None; count = 16 }) (48 + n) ≡ On (record { place = Digits n; length = None; count = 17 }) =
    small_step Spaces None 16 (48 + n) (lit< tt)
    ∙ (ap (λ t. cond t (on Spaces None 17) (digit_step 0 None 17 (48 + n))) e
    ∙ (one_digit 0 n 17 h (omega arith)
    ∙ ap (λ k. on (Digits k) None 17) e5)) in
    goes_head _ _ _ [] _ [] step (record { leads = refl; ends = refl })

next_digit : (n : ℕ) (ds : List ℕ) → 10 ≤ n → IsRead (n / 10) ds → IsRead n (ds ++ ((48 + n % 10) ∷ []))
unfolding IsRead start_of_length
next_digit n ds h before = λ small short.
    let len : length (ds ++ ((48 + n % 10) ∷ [])) ≡ length ds + 1 = length-append ds ((48 + n % 10) ∷ []) in
    let d : n % 10 < 10 = omega arith in
    let k : n / 10 * 10 + n % 10 ≡ n = omega arith in
    let e : (48 + n % 10 == 13) ≡ false = grind (arith, nat_tests) in
    let step : head_step (record { place = Digits (n / 10); length = None; count = 16 + length ds }) (48 + n % 10) ≡ On (record { place = Digits n; length = None; count = 16 + length ds + 1 }) =
    small_step (Digits (n / 10)) None (16 + length ds) (48 + n % 10) (omega arith)
    ∙ (ap (λ t. cond t (on LineEnd (Some (n / 10)) (16 + length ds + 1)) (digit_step (n / 10) None (16 + length ds + 1) (48 + n % 10))) e
    ∙ (one_digit (n / 10) (n % 10) (16 + length ds + 1) d (omega arith)
    ∙ ap (λ j. on (Digits j) None (16 + length ds + 1)) k)) in
    let c : 16 + length ds + 1 ≡ 16 + length (ds ++ ((48 + n % 10) ∷ [])) = omega arith in
    let last = goes_head _ _ _ [] _ [] step (record { leads = refl; ends = refl }) in
    let whole = goes_on _ _ _ ds ((48 + n % 10) ∷ []) [] (before (omega arith) (omega arith)) last in
    subst (λ j. Goes start_of_length (ds ++ ((48 + n % 10) ∷ [])) (machine (InHead (record { place = Digits n; length = None; count = j })) []) []) c whole

number_read : (n : ℕ) → n < 2 ^ 64 → IsRead n (decimal n)
number_read n h = decimal_by_steps IsRead first_digit next_digit n h

-- the name and the space behind its colon
name_read : Goes start (codes "Content-Length: ") start_of_length []
unfolding start_of_length head_step
name_read = record { leads = refl; ends = refl }

-- a body behind its head
pub body_leads : (body : List ℕ) → after (entered (Begins (length body)) []) body ≡ start
body_leads [] = refl
body_leads (x ∷ xs) =
    ap (λ t. after (cond t start (machine (InBody (length (x ∷ xs) - 1)) [])) (x ∷ xs)) (nonzero (length (x ∷ xs)) (omega arith))
    ∙ after_whole (length (x ∷ xs) - 1) [] (x ∷ xs) (omega arith)

body_ends : (body : List ℕ) → empty_body (Begins (length body)) ++ bodies (entered (Begins (length body)) []) body ≡ body ∷ []
body_ends [] = refl
body_ends (x ∷ xs) =
    ap (λ t. cond t ([] ∷ []) [] ++ bodies (cond t start (machine (InBody (length (x ∷ xs) - 1)) [])) (x ∷ xs)) (nonzero (length (x ∷ xs)) (omega arith))
    ∙ bodies_whole (length (x ∷ xs) - 1) [] (x ∷ xs) (omega arith)

goes_begins : (h : Head) (b : ℕ) (body : List ℕ) → head_step h b ≡ Begins (length body) → Goes (machine (InHead h) []) (b ∷ body) start (body ∷ [])
goes_begins h b body e = record {
  leads = ap (λ s. after (entered s []) body) e ∙ body_leads body;
  ends = ap (λ s. empty_body s ++ bodies (entered s []) body) e ∙ body_ends body;
}

-- the two line ends, and the body
rest_read : (body : List ℕ) (count : ℕ) → count + 4 ≤ 4096 →
    Goes (machine (InHead (record { place = Digits (length body); length = None; count = count })) []) (codes "\r\n\r\n" ++ body) start (body ∷ [])
rest_read body count h =
    let n = length body in
    let s1 = small_step (Digits n) None count 13 (omega arith) in
    let s2 = small_step LineEnd (Some n) (count + 1) 10 (omega arith) in
    let s3 = small_step Line (Some n) (count + 1 + 1) 13 (omega arith) in
    let s4 = small_step (HeadEnd n) (Some n) (count + 1 + 1 + 1) 10 (omega arith) in
    goes_head _ _ 13 (10 ∷ 13 ∷ 10 ∷ body) start (body ∷ []) s1
    (goes_head _ _ 10 (13 ∷ 10 ∷ body) start (body ∷ []) s2
    (goes_head _ _ 13 (10 ∷ body) start (body ∷ []) s3
    (goes_begins _ 10 body s4)))

frame_goes : (body : List ℕ) → length body ≤ 8388608 → Goes start (frame body) start (body ∷ [])
unfolding IsRead start_of_length
frame_goes body small =
    let n = length body in
    let wide : n < 2 ^ 64 = omega arith in
    let short : length (decimal n) ≤ 20 = length-decimal-le 20 n (lit< tt) (omega arith) wide in
    let digits = number_read n wide small short in
    let rest = rest_read body (16 + length (decimal n)) (omega arith) in
    goes_on start start_of_length start (codes "Content-Length: ") (decimal n ++ (codes "\r\n\r\n" ++ body)) (body ∷ []) name_read
    (goes_on start_of_length _ start (decimal n) (codes "\r\n\r\n" ++ body) (body ∷ []) digits rest)

pub frame_read : (body : List ℕ) → length body ≤ 8388608 → IsWhole (frame body) body
frame_read body small = let g = frame_goes body small in record { leads = g.leads; ends = g.ends }

pub frames_read : FramesAreRead
frames_read [] h = (refl, refl)
frames_read (body ∷ rest) h =
    let one = frame_goes body h.0 in
    let more = frames_read rest h.1 in (
      after-append start (frame body) (frames rest) ∙ (ap (λ m. after m (frames rest)) one.leads ∙ more.0),
      bodies-append start (frame body) (frames rest) ∙ (ap (λ e. e ++ bodies (after start (frame body)) (frames rest)) one.ends ∙ (ap (λ m. body ∷ bodies m (frames rest)) one.leads ∙ ap (λ e. body ∷ e) more.1)),
    )

pub cuts_agree : CutsAgree
cuts_agree m xs ys = (after-append m xs ys, bodies-append m xs ys)

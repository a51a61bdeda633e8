-- Texts without their paint.
use Rattle.std.proofs.Common.{◌≡◌, ℕ, zero, suc, ◌+◌, ◌-◌, ◌<◌, ◌≤◌, ◌==◌, not, if◌then◌else◌, Bool, List, [], ◌∷◌, ◌++◌, length, drop, take, get_or, Some, None, true, false, refl, sym, ◌∙◌, ap, arith, append_assoc, eqb-true, subst}
use Rattle.std.specs.List.{count_by, prefix_len, slice_index}
use Rattle.std.proofs.lemmas.List.{drop-drop, get_or-drop}
use Rattle.std.proofs.lemmas.List.Sums.{sum_by-cons}
use Rattle.std.proofs.lemmas.Bool.Decides.{nat_tests}
use Rattle.line_shapes.proofs.PlaceLemmas.{rest_is}
use Rattle.memchr.specs.Find.{IsFirstByte, is_byte}
use Rattle.tool_lines.specs.Paint.{behind_bracket, behind_escape, behind_paren, color_len, ends_color, ends_link, is_color_byte, link_end, link_len, paint_len, unpainted, unpainted_from}

skips : (n : ℕ) (text : List ℕ) → unpainted_from n text ≡ unpainted (drop n text)
unfolding unpainted_from
skips zero text = refl
skips (suc n) [] = refl
skips (suc n) (x ∷ xs) = skips n xs

nonzero : (n : ℕ) → (suc n == 0) ≡ false
nonzero n = grind (arith, nat_tests)

-- paint is skipped
paint_skipped : (text : List ℕ) (n : ℕ) → n ≡ paint_len text → 1 ≤ n → unpainted (drop n text) ≡ unpainted text
unfolding unpainted_from
paint_skipped [] n e some = absurd (omega (arith, e))
paint_skipped (x ∷ xs) zero e some = absurd (omega arith)
paint_skipped (x ∷ xs) (suc n) e some =
    let less : suc n - 1 ≡ n = omega arith in
    sym (ap (λ count. if count == 0 then x ∷ unpainted_from 0 xs else unpainted_from (count - 1) xs) (sym e)
    ∙ (ap (λ v. if v then x ∷ unpainted_from 0 xs else unpainted_from (suc n - 1) xs) (nonzero n) ∙ (ap (λ m. unpainted_from m xs) less ∙ skips n xs)))

-- what is no paint is kept
pub byte_kept : (x : ℕ) (xs : List ℕ) → paint_len (x ∷ xs) ≡ 0 → x ∷ unpainted xs ≡ unpainted (x ∷ xs)
unfolding unpainted_from
byte_kept x xs none = sym (ap (λ count. if count == 0 then x ∷ unpainted_from 0 xs else unpainted_from (count - 1) xs) none)

no_escape : (x : ℕ) (xs : List ℕ) → (is_byte 0x1B x ≡ true → ⊥) → paint_len (x ∷ xs) ≡ 0
no_escape x xs other = elim (x == 0x1B) as (λ v. (x == 0x1B) ≡ v → (if v then behind_escape xs else 0) ≡ 0) [ true ↦ (λ so. elim (other so) [ ]) | false ↦ (λ _. refl) ] refl

-- what stands before the first ESC is kept
front_kept : (at : ℕ) (text : List ℕ) → at ≤ length text → ((k : ℕ) → k < at → is_byte 0x1B (slice_index text k) ≡ true → ⊥) → take at text ++ unpainted (drop at text) ≡ unpainted text
front_kept zero text within none = refl
front_kept (suc at) [] within none = absurd (omega arith)
front_kept (suc at) (x ∷ xs) within none =
    ap (λ rest. x ∷ rest) (front_kept at xs (omega arith) (λ k low. none (suc k) (omega arith))) ∙ byte_kept x xs (no_escape x xs (none zero (omega arith)))

pub plain_front : (text : List ℕ) (at : ℕ) → IsFirstByte (is_byte 0x1B) text (Some at) → take at text ++ unpainted (drop at text) ≡ unpainted text
plain_front text at first = let high : at < length text = first.0.high in front_kept at text (omega arith) (λ k low. first.0.before k (omega arith) low)

grind_all : (text : List ℕ) → take (length text) text ++ unpainted (drop (length text) text) ≡ text
unfolding unpainted_from
grind_all [] = refl
grind_all (x ∷ xs) = ap (λ rest. x ∷ rest) (grind_all xs)

pub plain_end : (text : List ℕ) → IsFirstByte (is_byte 0x1B) text None → text ≡ unpainted text
plain_end text first =
    let all : take (length text) text ++ unpainted (drop (length text) text) ≡ text = grind_all text in
    sym all ∙ front_kept (length text) text (omega arith) (λ k low. first k (omega arith) low)

pub skip_step : (old text rest : List ℕ) (n : ℕ) → n ≡ paint_len text → 1 ≤ n → rest ≡ drop n text → old ++ unpainted rest ≡ old ++ unpainted text
skip_step old text rest n e some left = ap (λ t. old ++ unpainted t) left ∙ ap (λ t. old ++ t) (paint_skipped text n e some)

pub keep_step : (old new text : List ℕ) → 1 ≤ length text → paint_len text ≡ 0 → new ≡ old ++ get_or text 0 0 ∷ [] → new ++ unpainted (take (length text - 1) (drop 1 text)) ≡ old ++ unpainted text
keep_step old new [] some none e = absurd (omega arith)
keep_step old new (x ∷ xs) some none e =
    ap (λ rest. new ++ unpainted rest) (rest_is (x ∷ xs) 1) ∙ (ap (λ front. front ++ unpainted xs) e ∙ (append_assoc old (x ∷ []) (unpainted xs) ∙ ap (λ rest. old ++ rest) (byte_kept x xs none)))

pub past_step : (old mid new front more rest text : List ℕ) (at : ℕ) → IsFirstByte (is_byte 0x1B) text (Some at) → front ≡ take at text → more ≡ drop at text → mid ≡ old ++ front → new ++ unpainted rest ≡ mid ++ unpainted more
    → new ++ unpainted rest ≡ old ++ unpainted text
past_step old mid new front more rest text at first fronts mores mids left =
    left ∙ (ap (λ m. m ++ unpainted more) mids ∙ (append_assoc old front (unpainted more) ∙ ap (λ t. old ++ t) (ap (λ f. f ++ unpainted more) fronts ∙ (ap (λ m. take at text ++ unpainted m) mores ∙ plain_front text at first))))

-- ---- no LF stands in paint

abbrev count_lf : List ℕ → ℕ
count_lf text = count_by (λ byte. byte == 0x0A) text

abbrev one_lf : ℕ → ℕ
one_lf byte = if byte == 0x0A then 1 else 0

-- so many bytes at the beginning of a text are no LF
abbrev Spares : List ℕ → ℕ → Type 0
Spares text count = count_lf (drop count text) ≡ count_lf text

either_spares : (text : List ℕ) (v : Bool) (n m : ℕ) → (v ≡ true → Spares text n) → Spares text m → Spares text (if v then n else m)
either_spares text true n m here other = here refl
either_spares text false n m here other = other

-- what passes a test that LF doesn't pass is no LF
no_lf : (test : ℕ → Bool) → test 0x0A ≡ false → (x : ℕ) → test x ≡ true → (x == 0x0A) ≡ false
no_lf test never x so =
    elim (x == 0x0A) as (λ v. (x == 0x0A) ≡ v → v ≡ false) [ true ↦ (λ is. sym so ∙ (ap test (eqb-true x 0x0A is) ∙ never)) | false ↦ (λ _. refl) ] refl

same_front : (x : ℕ) (xs ys : List ℕ) → count_lf xs ≡ count_lf ys → count_lf (x ∷ xs) ≡ count_lf (x ∷ ys)
same_front x xs ys same = sum_by-cons one_lf x xs ∙ (ap (λ n. one_lf x + n) same ∙ sym (sum_by-cons one_lf x ys))

first_spared : (test : ℕ → Bool) → test 0x0A ≡ false → (x : ℕ) (xs : List ℕ) → test x ≡ true → count_lf xs ≡ count_lf (x ∷ xs)
first_spared test never x xs so =
    let none : one_lf x ≡ 0 = ap (λ v. if v then 1 else 0) (no_lf test never x so) in
    let same : one_lf x + count_lf xs ≡ count_lf xs = omega (arith, none) in sym (sum_by-cons one_lf x xs ∙ same)

run_spared : (test : ℕ → Bool) → test 0x0A ≡ false → (text : List ℕ) → Spares text (prefix_len test text)
run_spared test never [] = refl
run_spared test never (x ∷ xs) =
    let count = prefix_len test xs in
    let more : 1 + count ≡ suc count = omega arith in
    either_spares (x ∷ xs) (test x) (1 + count) 0 (λ so. ap (λ n. count_lf (drop n (x ∷ xs))) more ∙ (run_spared test never xs ∙ first_spared test never x xs so)) refl

one_spared : (test : ℕ → Bool) → test 0x0A ≡ false → (text : List ℕ) → test (slice_index text 0) ≡ true → Spares text 1
one_spared test never [] so = refl
one_spared test never (x ∷ xs) so = first_spared test never x xs so

-- a run, and a byte that ends it
ended_spared : (run end : ℕ → Bool) → run 0x0A ≡ false → end 0x0A ≡ false → (text : List ℕ) → end (slice_index text (prefix_len run text)) ≡ true → Spares text (prefix_len run text + 1)
ended_spared run end never last text so =
    let count = prefix_len run text in
    let same : count + 0 ≡ count = omega arith in
    let here : slice_index (drop count text) 0 ≡ slice_index text count = get_or-drop count text 0 0 ∙ ap (λ n. slice_index text n) same in
    sym (ap count_lf (drop-drop 1 count text)) ∙ (one_spared end last (drop count text) (ap end here ∙ so) ∙ run_spared run never text)

color_spared : (rest : List ℕ) → Spares (0x1B ∷ (0x5B ∷ rest)) (color_len rest)
color_spared rest =
    let count = prefix_len is_color_byte rest in
    let past : count + 3 ≡ suc (suc (count + 1)) = omega arith in
    either_spares (0x1B ∷ (0x5B ∷ rest)) (ends_color (slice_index rest count)) (count + 3) 0 (λ so. ap (λ n. count_lf (drop n (0x1B ∷ (0x5B ∷ rest)))) past ∙ ended_spared is_color_byte ends_color refl refl rest so) refl

-- what opens a link
abbrev linked : List ℕ → List ℕ
linked rest = 0x1B ∷ (0x5D ∷ (0x38 ∷ (0x3B ∷ rest)))

link_past : (count more : ℕ) (rest run : List ℕ) → drop count rest ≡ run → drop (count + (4 + more)) (linked rest) ≡ drop more run
link_past count more rest run is =
    let past : count + (4 + more) ≡ suc (suc (suc (suc (count + more)))) = omega arith in
    ap (λ n. drop n (linked rest)) past ∙ (sym (drop-drop more count rest) ∙ ap (drop more) is)

bell_spared : (count : ℕ) (rest : List ℕ) (x : ℕ) (run : List ℕ) → drop count rest ≡ x ∷ run → count_lf (x ∷ run) ≡ count_lf rest → (x == 0x07) ≡ true → Spares (linked rest) (count + 5)
bell_spared count rest x run is same so = ap count_lf (link_past count 1 rest (x ∷ run) is) ∙ (first_spared (λ a. a == 0x07) refl x run so ∙ same)

link_end_spared : (count : ℕ) (rest run : List ℕ) → drop count rest ≡ run → count_lf run ≡ count_lf rest → Spares (linked rest) (link_end count run)
link_end_spared count rest [] is same = refl
link_end_spared count rest (x ∷ []) is same = either_spares (linked rest) (x == 0x07) (count + 5) 0 (bell_spared count rest x [] is same) refl
link_end_spared count rest (x ∷ (y ∷ run)) is same =
    let slash : ℕ = if y == 0x5C then count + 6 else 0 in
    either_spares (linked rest) (x == 0x07) (count + 5) (if x == 0x1B then slash else 0) (bell_spared count rest x (y ∷ run) is same)
    (either_spares (linked rest) (x == 0x1B) slash 0 (λ so. either_spares (linked rest) (y == 0x5C) (count + 6) 0 (λ too.
    ap count_lf (link_past count 2 rest (x ∷ (y ∷ run)) is) ∙ (first_spared (λ a. a == 0x5C) refl y run too ∙ (first_spared (λ a. a == 0x1B) refl x (y ∷ run) so ∙ same))) refl) refl)

link_spared : (rest : List ℕ) → Spares (linked rest) (link_len rest)
link_spared rest =
    let count = prefix_len (λ byte. not (ends_link byte)) rest in link_end_spared count rest (drop count rest) refl (run_spared (λ byte. not (ends_link byte)) refl rest)

bracket_spared : (rest : List ℕ) → Spares (0x1B ∷ (0x5D ∷ rest)) (behind_bracket rest)
bracket_spared [] = refl
bracket_spared (x ∷ []) = refl
bracket_spared (x ∷ (y ∷ rest)) =
    let text : List ℕ = 0x1B ∷ (0x5D ∷ (x ∷ (y ∷ rest))) in
    either_spares text (x == 0x38) (if y == 0x3B then link_len rest else 0) 0 (λ so. either_spares text (y == 0x3B) (link_len rest) 0 (λ too.
    subst (λ a. Spares (0x1B ∷ (0x5D ∷ (a ∷ (y ∷ rest)))) (link_len rest)) (sym (eqb-true x 0x38 so)) (subst (λ b. Spares (0x1B ∷ (0x5D ∷ (0x38 ∷ (b ∷ rest)))) (link_len rest)) (sym (eqb-true y 0x3B too)) (link_spared rest))) refl) refl

paren_spared : (rest : List ℕ) → Spares (0x1B ∷ (0x28 ∷ rest)) (behind_paren rest)
paren_spared [] = refl
paren_spared (x ∷ rest) = either_spares (0x1B ∷ (0x28 ∷ (x ∷ rest))) (x == 0x42) 3 0 (λ so. first_spared (λ a. a == 0x42) refl x rest so) refl

escape_spared : (rest : List ℕ) → Spares (0x1B ∷ rest) (behind_escape rest)
escape_spared [] = refl
escape_spared (x ∷ rest) =
    let text : List ℕ = 0x1B ∷ (x ∷ rest) in
    let letters : ℕ = if x == 0x28 then behind_paren rest else 0 in
    either_spares text (x == 0x5B) (color_len rest) (if x == 0x5D then behind_bracket rest else letters) (λ so. subst (λ a. Spares (0x1B ∷ (a ∷ rest)) (color_len rest)) (sym (eqb-true x 0x5B so)) (color_spared rest))
    (either_spares text (x == 0x5D) (behind_bracket rest) letters (λ so. subst (λ a. Spares (0x1B ∷ (a ∷ rest)) (behind_bracket rest)) (sym (eqb-true x 0x5D so)) (bracket_spared rest))
    (either_spares text (x == 0x28) (behind_paren rest) 0 (λ so. subst (λ a. Spares (0x1B ∷ (a ∷ rest)) (behind_paren rest)) (sym (eqb-true x 0x28 so)) (paren_spared rest)) refl))

paint_spared : (text : List ℕ) → Spares text (paint_len text)
paint_spared [] = refl
paint_spared (x ∷ rest) = either_spares (x ∷ rest) (x == 0x1B) (behind_escape rest) 0 (λ so. subst (λ a. Spares (a ∷ rest) (behind_escape rest)) (sym (eqb-true x 0x1B so)) (escape_spared rest)) refl

step_kept : (count x : ℕ) (xs : List ℕ) → ((n : ℕ) → count_lf (unpainted_from n xs) ≡ count_lf (drop n xs)) → Spares (x ∷ xs) count
    → count_lf (if count == 0 then x ∷ unpainted_from 0 xs else unpainted_from (count - 1) xs) ≡ count_lf (x ∷ xs)
step_kept zero x xs later same = same_front x (unpainted_from 0 xs) xs (later 0)
step_kept (suc n) x xs later same =
    let less : suc n - 1 ≡ n = omega arith in
    ap (λ v. count_lf (if v then x ∷ unpainted_from 0 xs else unpainted_from (suc n - 1) xs)) (nonzero n) ∙ (ap (λ m. count_lf (unpainted_from m xs)) less ∙ (later n ∙ same))

kept_from : (text : List ℕ) (n : ℕ) → count_lf (unpainted_from n text) ≡ count_lf (drop n text)
unfolding unpainted_from
kept_from [] zero = refl
kept_from [] (suc n) = refl
kept_from (x ∷ xs) zero = step_kept (paint_len (x ∷ xs)) x xs (kept_from xs) (paint_spared (x ∷ xs))
kept_from (x ∷ xs) (suc n) = kept_from xs n

-- a text without its paint has as many LF
pub lines_kept : (text : List ℕ) → count_lf (unpainted text) ≡ count_lf text
lines_kept text = kept_from text 0

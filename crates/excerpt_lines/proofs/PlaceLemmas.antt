-- A line has one place at most.
use Rattle.std.proofs.Common.{◌≡◌, ℕ, ◌+◌, ◌-◌, ◌<◌, ◌≤◌, inl, inr, MatchOption, List, length, drop, take, slice_index, true, false, Option, Some, None, IfSome, IfNone, arith, ap, sym, ◌∙◌, subst}
use Rattle.std.proofs.lemmas.Bool.{cases_order}
use Rattle.std.proofs.lemmas.List.{take_rest}
use Rattle.std.proofs.lemmas.Bool.Decides.{nat_tests}
use Rattle.excerpt_lines.specs.declared.tables.CharClass.{CharClass}
use Rattle.excerpt_lines.specs.declared.tables.CharClass.TheVariants.{Digit, Space, Trail}
use Rattle.excerpt_lines.specs.declared.places.Place.{Place}
use Rattle.excerpt_lines.specs.Tables.{arrow_len, is_in}
use Rattle.excerpt_lines.specs.Runs.{EachIn, first_ink, run_end}
use Rattle.excerpt_lines.specs.Places.{HasNoName, HasNoNumberBefore, HasNoPlace, IsName, IsNamed, IsNumberBefore, IsPlace, name_at}

pub no_arrow : (line : List ℕ) → arrow_len (drop (first_ink line) line) ≡ 0 → HasNoPlace line
no_arrow line none = λ p so. omega (arith, so.arrow)

colon_not_digit : (c : ℕ) → c ≡ 0x3A → is_in Digit c ≡ false
colon_not_digit c so = grind (arith, nat_tests)

digit_not_trail : (c : ℕ) → is_in Digit c ≡ true → is_in Trail c ≡ false
digit_not_trail c so = grind (arith, nat_tests)

-- two places where a run begins are one
meet_back : (class : CharClass) (line : List ℕ) (x y end : ℕ) → 0 < y → y ≤ end → x ≤ end → EachIn class line x end → EachIn class line y end
    → (y ≤ x → 0 < x → is_in class (slice_index line (x - 1)) ≡ false) → is_in class (slice_index line (y - 1)) ≡ false → x ≡ y
meet_back class line x y end some high_y high_x each_x each_y stops_x stops_y =
    elim (cases_order x y) [
      | inl e ↦ e
      | inr other ↦ elim other [
        | inl less ↦ (let so_is : is_in class (slice_index line (y - 1)) ≡ true = each_x (y - 1) (omega arith) (omega arith) in cc)
        | inr more ↦ (let not_so : is_in class (slice_index line (x - 1)) ≡ false = stops_x (omega arith) (omega arith) in let so_is : is_in class (slice_index line (x - 1)) ≡ true = each_y (x - 1) (omega arith) (omega arith) in cc)
      ]
    ]

last_digit : (line : List ℕ) (at end colon value : ℕ) → IsNumberBefore line at end colon value → is_in Digit (slice_index line (end - 1)) ≡ true
last_digit line at end colon value so = so.digits (end - 1) (omega (arith, so.some)) (omega (arith, so.some))

not_before : (line : List ℕ) (colon : ℕ) → slice_index line colon ≡ 0x3A → is_in Digit (slice_index line (colon + 1 - 1)) ≡ false
not_before line colon is = let e : colon + 1 - 1 ≡ colon = omega arith in rw e (colon_not_digit (slice_index line colon) is)

-- the digits before a place are those of its number
pub number_run : (line : List ℕ) (at end digits colon value : ℕ) → digits ≤ end → EachIn Digit line digits end
    → (at < digits → is_in Digit (slice_index line (digits - 1)) ≡ false) → IsNumberBefore line at end colon value → digits ≡ colon + 1
number_run line at end digits colon value high each stops so =
    meet_back Digit line digits (colon + 1) end (omega arith) (omega (arith, so.some)) high each so.digits
    (λ less some. stops (omega (arith, less, so.from))) (not_before line colon so.colon_is)

number_once : (line : List ℕ) (at end c v d w : ℕ) → IsNumberBefore line at end c v → IsNumberBefore line at end d w → c ≡ d
number_once line at end c v d w one other =
    let e : c + 1 ≡ d + 1 = number_run line at end (c + 1) d w (omega (arith, one.some)) one.digits (λ less. not_before line c one.colon_is) other in
    omega arith

last_of : (line : List ℕ) (name end name_end number : ℕ) (column : Option ℕ)
    → MatchOption column (IsNumberBefore line name end name_end number × HasNoNumberBefore line name name_end)
    (λ column. (colon : ℕ) × IsNumberBefore line name end colon column × IsNumberBefore line name colon name_end number)
    → (colon : ℕ) × ((value : ℕ) × IsNumberBefore line name end colon value)
last_of line name end name_end number None so = (name_end, (number, so.0))
last_of line name end name_end number (Some column) so = (so.0, (column, so.1))

-- what may follow begins at one place
pub record IsTrail (line : List ℕ) (name end : ℕ) : Type 0 where
  pub from : name ≤ end
  pub within : end ≤ length line
  pub each : EachIn Trail line end (length line)
  pub stops : name < end → is_in Trail (slice_index line (end - 1)) ≡ false

ends_meet : (line : List ℕ) (name end : ℕ) (p : Place) (so : IsPlace line p) → name ≡ name_at line → IsTrail line name end → end ≡ so.end
ends_meet line name end p so is trail =
    let last = last_of line p.name so.end p.name_end p.line p.column so.numbers in
    let low : p.name ≤ last.0 = last.1.1.from in
    let below : last.0 + 1 < so.end = last.1.1.some in
    meet_back Trail line end so.end (length line) (omega arith) so.within trail.within trail.each so.trail
    (λ less some. trail.stops (omega (arith, is, so.name_is, low, below, less)))
    (digit_not_trail (slice_index line (so.end - 1)) (last_digit line p.name so.end last.0 last.1.0 last.1.1))

-- no number ends there
pub no_last : (line : List ℕ) (name end : ℕ) → name ≡ name_at line → IsTrail line name end → HasNoNumberBefore line name end → HasNoPlace line
no_last line name end is trail none = λ p so.
    let e = ends_meet line name end p so is trail in
    let n : p.name ≡ name = so.name_is ∙ sym is in
    let last = last_of line p.name so.end p.name_end p.line p.column so.numbers in
    none last.0 last.1.0 (rw (← n, e) last.1.1)

two_by : (line : List ℕ) (name end last first v w : ℕ) (name_end number : ℕ) (column : Option ℕ) → IsNumberBefore line name end last v → IsNumberBefore line name last first w
    → MatchOption column (IsNumberBefore line name end name_end number × HasNoNumberBefore line name name_end)
    (λ column. (colon : ℕ) × IsNumberBefore line name end colon column × IsNumberBefore line name colon name_end number) → first ≡ name_end
two_by line name end last first v w name_end number None one two so =
    let e = number_once line name end last v name_end number one so.0 in absurd (so.1 first w (rw (← e) two))
two_by line name end last first v w name_end number (Some column) one two so =
    let e = number_once line name end last v so.0 column one so.1 in
    number_once line name last first w name_end number two (rw e so.2)

one_by : (line : List ℕ) (name end last v : ℕ) (name_end number : ℕ) (column : Option ℕ) → IsNumberBefore line name end last v → HasNoNumberBefore line name last
    → MatchOption column (IsNumberBefore line name end name_end number × HasNoNumberBefore line name name_end)
    (λ column. (colon : ℕ) × IsNumberBefore line name end colon column × IsNumberBefore line name colon name_end number) → last ≡ name_end
one_by line name end last v name_end number None one none so = number_once line name end last v name_end number one so.0
one_by line name end last v name_end number (Some column) one none so =
    let e = number_once line name end last v so.0 column one so.1 in
    absurd (none name_end number (rw e so.2))

-- with two numbers, the name ends at the first one
pub no_name_of_two : (line : List ℕ) (name end last first v w : ℕ) → name ≡ name_at line → IsTrail line name end → IsNumberBefore line name end last v → IsNumberBefore line name last first w → HasNoName line name first → HasNoPlace line
no_name_of_two line name end last first v w is trail one two none = λ p so.
    let e = ends_meet line name end p so is trail in
    let n : p.name ≡ name = so.name_is ∙ sym is in
    let numbers = subst (λ (m : ℕ). MatchOption p.column (IsNumberBefore line m end p.name_end p.line × HasNoNumberBefore line m p.name_end)
    (λ column. (colon : ℕ) × IsNumberBefore line m end colon column × IsNumberBefore line m colon p.name_end p.line)) n
    (subst (λ (x : ℕ). MatchOption p.column (IsNumberBefore line p.name x p.name_end p.line × HasNoNumberBefore line p.name p.name_end)
    (λ column. (colon : ℕ) × IsNumberBefore line p.name x colon column × IsNumberBefore line p.name colon p.name_end p.line)) (sym e) so.numbers) in
    let f = two_by line name end last first v w p.name_end p.line p.column one two numbers in
    none (subst (λ (x : ℕ). IsName line name x) (sym f) (subst (λ (m : ℕ). IsName line m p.name_end) n so.named))

-- with one, it ends there
pub no_name_of_one : (line : List ℕ) (name end last v : ℕ) → name ≡ name_at line → IsTrail line name end → IsNumberBefore line name end last v → HasNoNumberBefore line name last → HasNoName line name last → HasNoPlace line
no_name_of_one line name end last v is trail one only none = λ p so.
    let e = ends_meet line name end p so is trail in
    let n : p.name ≡ name = so.name_is ∙ sym is in
    let numbers = subst (λ (m : ℕ). MatchOption p.column (IsNumberBefore line m end p.name_end p.line × HasNoNumberBefore line m p.name_end)
    (λ column. (colon : ℕ) × IsNumberBefore line m end colon column × IsNumberBefore line m colon p.name_end p.line)) n
    (subst (λ (x : ℕ). MatchOption p.column (IsNumberBefore line p.name x p.name_end p.line × HasNoNumberBefore line p.name p.name_end)
    (λ column. (colon : ℕ) × IsNumberBefore line p.name x colon column × IsNumberBefore line p.name colon p.name_end p.line)) (sym e) so.numbers) in
    let f = one_by line name end last v p.name_end p.line p.column one only numbers in
    none (subst (λ (x : ℕ). IsName line name x) (sym f) (subst (λ (m : ℕ). IsName line m p.name_end) n so.named))

-- where the name begins
pub name_there : (line : List ℕ) (start arrow name : ℕ) → start ≡ first_ink line → arrow ≡ arrow_len (take (length line - start) (drop start line)) → name ≡ run_end Space line (start + arrow) → name ≡ name_at line
name_there line start arrow name s a n = n ∙ (ap (λ (x : ℕ). run_end Space line (start + x)) (a ∙ ap arrow_len (take_rest line start)) ∙ ap (λ (x : ℕ). run_end Space line (x + arrow_len (drop x line))) s)

pub arrow_there : (line : List ℕ) (start arrow : ℕ) → start ≡ first_ink line → arrow ≡ arrow_len (take (length line - start) (drop start line)) → 0 < arrow → 0 < arrow_len (drop (first_ink line) line)
arrow_there line start arrow s a some = subst (λ (x : ℕ). 0 < x) (a ∙ (ap arrow_len (take_rest line start) ∙ ap (λ (x : ℕ). arrow_len (drop x line)) s)) some

-- what a place with one number is
pub place_of_one : (line : List ℕ) (name end last v : ℕ) (p : Place) → name ≡ name_at line → 0 < arrow_len (drop (first_ink line) line) → IsTrail line name end
    → IsNumberBefore line name end last v → HasNoNumberBefore line name last → IsNamed line name last v None p → IsPlace line p
place_of_one line name end last v p is arrow trail one only named = record {
  arrow = arrow;
  name_is = named.name_is ∙ is;
  named = rw (named.name_is, named.end_is) named.named;
  end = end;
  within = trail.within;
  numbers = subst (λ (o : Option ℕ). MatchOption o (IsNumberBefore line p.name end p.name_end p.line × HasNoNumberBefore line p.name p.name_end)
      (λ column. (colon : ℕ) × IsNumberBefore line p.name end colon column × IsNumberBefore line p.name colon p.name_end p.line)) (sym named.column_is)
      (rw (named.name_is, named.end_is, named.line_is) one, rw (named.name_is, named.end_is) only);
  trail = trail.each;
}

pub some_maps : (o : Option Place) (P Q : Place → Type 0) → ((p : Place) → P p → Q p) → IfSome o P → IfSome o Q
some_maps None P Q f so = tt
some_maps (Some p) P Q f so = f p so

pub none_maps : (o : Option Place) (P Q : Type 0) → (P → Q) → IfNone o P → IfNone o Q
none_maps None P Q f so = f so
none_maps (Some p) P Q f so = tt

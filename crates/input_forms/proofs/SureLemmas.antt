-- What the first bytes tell stays so.
use Rattle.std.proofs.Common.{◌≡◌, ◌≢◌, ℕ, ◌==◌, ◌||◌, ◌&&◌, nat_eq, if◌then◌else◌, Bool, true, false, List, [], ◌∷◌, ◌++◌, take, drop, length, codes, ◌⊎◌, inl, inr, refl, sym, ap, ◌∙◌, subst}
use Rattle.std.proofs.Math.Dec.{eqb}
use Rattle.std.proofs.lemmas.Bool.{and_parts, eqb-false, eqb-true, ne_eqb, eq-eqb, cases_eq}
use Rattle.std.proofs.lemmas.List.{append-nil}
use Rattle.std.specs.Cmp.Lexicographic.{pointwise}
use Rattle.std.specs.List.{starts_with}
use Rattle.input_forms.specs.declared.begun.Begun.{Begun}
use Rattle.input_forms.specs.declared.begun.Begun.TheVariants.{Object, OtherJson, Xml, Lines}
use Rattle.input_forms.specs.declared.sure.FirstBytes.{FirstBytes}
use Rattle.input_forms.specs.declared.sure.FirstBytes.TheVariants.{SurelyLines, Open, Other}
use Rattle.input_forms.specs.Begun.{begins_as, begins_xml, begun_at, begun_with, behind_angle, behind_bracket, behind_mark, first_from, is_blank}
use Rattle.input_forms.specs.Sure.{Settles, may_become_mark, may_begin_xml, told_behind_angle, told_by, told_in_bracket, told_with}

-- ---- a byte order mark

flipped : (a b : ℕ) → eqb a b ≡ eqb b a
flipped a b = go (cases_eq a b)
  where
    go : (a ≡ b) ⊎ (a ≡ b → ⊥) → eqb a b ≡ eqb b a
    go (inl is) = eq-eqb a b is ∙ sym (eq-eqb b a (sym is))
    go (inr differs) = ne_eqb a b differs ∙ sym (ne_eqb b a (λ e. differs (sym e)))

mark_more : (bytes more : List ℕ) → may_become_mark bytes ≡ false → behind_mark (bytes ++ more) ≡ behind_mark bytes ++ more
mark_more [] more is = cc
mark_more (a ∷ []) more is =
    let other : eqb 0xEF a ≡ false = flipped 0xEF a ∙ is in
    rw other refl
mark_more (a ∷ (b ∷ [])) more is =
    elim (eqb 0xEF a) as (λ v. v && eqb 0xBB b ≡ false
    → (if v && (eqb 0xBB b && pointwise nat_eq (0xBF ∷ []) (take 1 more)) then drop 3 (a ∷ (b ∷ more)) else a ∷ (b ∷ more))
    ≡ (if v && (eqb 0xBB b && false) then [] else a ∷ (b ∷ [])) ++ more) [
      | true ↦ (λ e. rw e refl)
      | false ↦ (λ e. refl)
    ] (subst (λ x. x && eqb 0xBB b ≡ false) (flipped a 0xEF) (subst (λ y. eqb a 0xEF && y ≡ false) (flipped b 0xBB) is))
mark_more (a ∷ (b ∷ (c ∷ rest))) more is =
    elim (starts_with nat_eq (a ∷ (b ∷ (c ∷ rest))) (0xEF ∷ 0xBB ∷ 0xBF ∷ [])) as
    (λ v. (if v then rest ++ more else a ∷ (b ∷ (c ∷ (rest ++ more)))) ≡ (if v then rest else a ∷ (b ∷ (c ∷ rest))) ++ more) [ true ↦ refl | false ↦ refl ]

-- ---- blanks

-- a text behind its blanks, with more behind it
abbrev joined : List ℕ → List ℕ → List ℕ
joined [] more = first_from more
joined (x ∷ xs) more = x ∷ (xs ++ more)

first_more : (text more : List ℕ) → first_from (text ++ more) ≡ joined (first_from text) more
first_more [] more = refl
first_more (x ∷ xs) more =
    elim (is_blank x) as (λ v. (if v then first_from (xs ++ more) else x ∷ (xs ++ more)) ≡ joined (if v then first_from xs else x ∷ xs) more) [
      | true ↦ first_more xs more
      | false ↦ refl
    ]

-- ---- what is told

settles_as : (it : FirstBytes) (f g : List ℕ → Begun) → ((more : List ℕ) → g more ≡ f more) → Settles it f → Settles it g
settles_as SurelyLines f g same settles = λ more. same more ∙ settles more
settles_as Other f g same settles = λ more e. settles more (sym (same more) ∙ e)
settles_as Open f g same settles =
    ((settles.0.0, same settles.0.0 ∙ settles.0.1), (settles.1.0, λ e. settles.1.1 (sym (same settles.1.0) ∙ e)))

bracket_settles : (text : List ℕ) → Settles (told_in_bracket text) (λ more. behind_bracket (joined text more))
bracket_settles [] = (([], refl), (0x7B ∷ [], λ e. cc))
bracket_settles (x ∷ xs) =
    elim (x == 0x7B || (x == 0x22 || x == 0x5D)) as (λ v. Settles (if v then Other else SurelyLines) (λ more. if v then OtherJson else Lines)) [
      | true ↦ (λ more e. cc)
      | false ↦ (λ more. refl)
    ]

-- ---- XML

-- a word that a text begins with begins each longer one
stays : (word text more : List ℕ) → starts_with nat_eq text word ≡ true → starts_with nat_eq (text ++ more) word ≡ true
stays [] text more is = refl
stays (a ∷ word) [] more is = cc
stays (a ∷ word) (b ∷ text) more is =
    let parts = and_parts (eqb a b) (pointwise nat_eq word (take (length word) text)) is in
    rw parts.0 (stays word text more parts.1)

-- two texts of which neither begins with the other differ whatever follows
differs : (word text more : List ℕ) → starts_with nat_eq text word ≡ false → starts_with nat_eq word text ≡ false → starts_with nat_eq (text ++ more) word ≡ false
differs [] text more is other = cc
differs (a ∷ word) [] more is other = cc
differs (a ∷ word) (b ∷ text) more is other =
    elim (eqb a b) as (λ v. v && pointwise nat_eq word (take (length word) text) ≡ false → v && pointwise nat_eq text (take (length text) word) ≡ false
    → v && pointwise nat_eq word (take (length word) (text ++ more)) ≡ false) [
      | true ↦ (λ e o. differs word text more e o)
      | false ↦ (λ e o. refl)
    ] is (subst (λ v. v && pointwise nat_eq text (take (length text) word) ≡ false) (flipped b a) other)

-- what is missing of a word that a text begins
rest_of : (word text : List ℕ) → starts_with nat_eq word text ≡ true → (more : List ℕ) × (text ++ more ≡ word)
rest_of word [] is = (word, refl)
rest_of [] (b ∷ text) is = cc
rest_of (a ∷ word) (b ∷ text) is =
    let parts = and_parts (eqb b a) (pointwise nat_eq text (take (length text) word)) is in
    let it = rest_of word text parts.1 in
    (it.0, ap (λ x. x ∷ (text ++ it.0)) (eqb-true b a parts.0) ∙ ap (λ xs. a ∷ xs) it.1)

either : {A : Type 0} → (a b : Bool) → (a ≡ true → A) → (b ≡ true → A) → a || b ≡ true → A
either true b f g is = f refl
either false b f g is = g is

both_stay : (a b c d : Bool) → (a ≡ true → c ≡ true) → (b ≡ true → d ≡ true) → a || b ≡ true → c || d ≡ true
both_stay true b true d f g is = refl
both_stay true b false d f g is =
    let no : false ≡ true = f refl in
    cc
both_stay false b true d f g is = refl
both_stay false b false d f g is = g is

both_differ : (a b c d e f : Bool) → (a ≡ false → c ≡ false → e ≡ false) → (b ≡ false → d ≡ false → f ≡ false) → a || b ≡ false → c || d ≡ false → e || f ≡ false
both_differ true b c d e f g h is other = cc
both_differ false b true d e f g h is other = cc
both_differ false b false d e f g h is other = rw (g refl refl) (h is other)

xml_stays : (text more : List ℕ) → begins_xml text ≡ true → begins_xml (text ++ more) ≡ true
xml_stays text more is =
    both_stay (starts_with nat_eq text (codes "?xml")) _ (starts_with nat_eq (text ++ more) (codes "?xml")) _ (stays (codes "?xml") text more)
    (both_stay (starts_with nat_eq text (codes "checkstyle")) _ (starts_with nat_eq (text ++ more) (codes "checkstyle")) _ (stays (codes "checkstyle") text more)
    (both_stay (starts_with nat_eq text (codes "results")) _ (starts_with nat_eq (text ++ more) (codes "results")) _ (stays (codes "results") text more)
    (both_stay (starts_with nat_eq text (codes "pmd")) _ (starts_with nat_eq (text ++ more) (codes "pmd")) _ (stays (codes "pmd") text more) (stays (codes "jslint") text more)))) is

xml_differs : (text more : List ℕ) → begins_xml text ≡ false → may_begin_xml text ≡ false → begins_xml (text ++ more) ≡ false
xml_differs text more is other =
    both_differ (starts_with nat_eq text (codes "?xml")) _ (starts_with nat_eq (codes "?xml") text) _ (starts_with nat_eq (text ++ more) (codes "?xml")) _ (differs (codes "?xml") text more)
    (both_differ (starts_with nat_eq text (codes "checkstyle")) _ (starts_with nat_eq (codes "checkstyle") text) _ (starts_with nat_eq (text ++ more) (codes "checkstyle")) _ (differs (codes "checkstyle") text more)
    (both_differ (starts_with nat_eq text (codes "results")) _ (starts_with nat_eq (codes "results") text) _ (starts_with nat_eq (text ++ more) (codes "results")) _ (differs (codes "results") text more)
    (both_differ (starts_with nat_eq text (codes "pmd")) _ (starts_with nat_eq (codes "pmd") text) _ (starts_with nat_eq (text ++ more) (codes "pmd")) _ (differs (codes "pmd") text more)
    (differs (codes "jslint") text more)))) is other

becomes : (word text : List ℕ) → begins_xml word ≡ true → starts_with nat_eq word text ≡ true → (more : List ℕ) × (begins_xml (text ++ more) ≡ true)
becomes word text is begins =
    let it = rest_of word text begins in
    (it.0, ap begins_xml it.1 ∙ is)

xml_comes : (text : List ℕ) → may_begin_xml text ≡ true → (more : List ℕ) × (begins_xml (text ++ more) ≡ true)
xml_comes text is =
    either (starts_with nat_eq (codes "?xml") text) _ (becomes (codes "?xml") text refl)
    (either (starts_with nat_eq (codes "checkstyle") text) _ (becomes (codes "checkstyle") text refl)
    (either (starts_with nat_eq (codes "results") text) _ (becomes (codes "results") text refl)
    (either (starts_with nat_eq (codes "pmd") text) _ (becomes (codes "pmd") text refl) (becomes (codes "jslint") text refl)))) is

no_lines : (text : List ℕ) → begins_xml text ≡ true → behind_angle text ≢ Lines
no_lines text is e =
    let same : Xml ≡ Lines = sym (ap (λ v. if v then Xml else Lines) is) ∙ e in
    cc

lines : (text : List ℕ) → begins_xml text ≡ false → behind_angle text ≡ Lines
lines text is = ap (λ v. if v then Xml else Lines) is

-- by what is asked of the text
abbrev told_as : Bool → Bool → FirstBytes
told_as xml may = if xml then Other else if may then Open else SurelyLines

asked_settles : (text : List ℕ) (xml may : Bool) → begins_xml text ≡ xml → may_begin_xml text ≡ may → Settles (told_as xml may) (λ more. behind_angle (text ++ more))
asked_settles text true may is comes = λ more. no_lines (text ++ more) (xml_stays text more is)
asked_settles text false true is comes =
    let it = xml_comes text comes in
    (([], ap behind_angle (append-nil text) ∙ lines text is), (it.0, no_lines (text ++ it.0) it.1))
asked_settles text false false is comes = λ more. lines (text ++ more) (xml_differs text more is comes)

angle_settles : (text : List ℕ) → Settles (told_behind_angle text) (λ more. behind_angle (text ++ more))
angle_settles text = asked_settles text (begins_xml text) (may_begin_xml text) refl refl

-- ---- all

with_settles : (x : ℕ) (xs : List ℕ) → Settles (told_with x xs) (λ more. begun_with x (xs ++ more))
with_settles x xs =
    elim (x == 0x7B) as (λ v. Settles (if v then Other else if x == 0x5B then told_in_bracket (first_from xs) else if x == 0x3C then told_behind_angle xs else SurelyLines)
    (λ more. if v then Object else if x == 0x5B then behind_bracket (first_from (xs ++ more)) else if x == 0x3C then behind_angle (xs ++ more) else Lines)) [
      | true ↦ (λ more e. cc)
      | false ↦ elim (x == 0x5B) as (λ v. Settles (if v then told_in_bracket (first_from xs) else if x == 0x3C then told_behind_angle xs else SurelyLines)
          (λ more. if v then behind_bracket (first_from (xs ++ more)) else if x == 0x3C then behind_angle (xs ++ more) else Lines)) [
            | true ↦ settles_as (told_in_bracket (first_from xs)) (λ more. behind_bracket (joined (first_from xs) more)) (λ more. behind_bracket (first_from (xs ++ more)))
                (λ more. ap behind_bracket (first_more xs more)) (bracket_settles (first_from xs))
            | false ↦ elim (x == 0x3C) as (λ v. Settles (if v then told_behind_angle xs else SurelyLines) (λ more. if v then behind_angle (xs ++ more) else Lines)) [
              | true ↦ angle_settles xs
              | false ↦ (λ more. refl)
            ]
          ]
    ]

text_settles : (text : List ℕ) → Settles (told_by text) (λ more. begun_at (joined text more))
text_settles [] = (([], refl), (0x7B ∷ [], λ e. cc))
text_settles (x ∷ xs) = with_settles x xs

pub others_tell : (bytes : List ℕ) → may_become_mark bytes ≡ false → Settles (told_by (first_from (behind_mark bytes))) (λ more. begins_as (bytes ++ more))
unfolding begins_as
others_tell bytes is =
    settles_as (told_by (first_from (behind_mark bytes))) (λ more. begun_at (joined (first_from (behind_mark bytes)) more)) (λ more. begins_as (bytes ++ more))
    (λ more. ap (λ t. begun_at (first_from t)) (mark_more bytes more is) ∙ ap begun_at (first_more (behind_mark bytes) more)) (text_settles (first_from (behind_mark bytes)))

pub mark_tells : (bytes : List ℕ) → may_become_mark bytes ≡ true → Settles Open (λ more. begins_as (bytes ++ more))
unfolding begins_as
mark_tells [] is = (([], refl), (0x7B ∷ [], λ e. cc))
mark_tells (a ∷ []) is =
    subst (λ b. Settles Open (λ more. begins_as (b ∷ more))) (sym (eqb-true a 0xEF is)) (([], refl), (0xBB ∷ 0xBF ∷ 0x7B ∷ [], λ e. cc))
mark_tells (a ∷ (b ∷ [])) is =
    let parts = and_parts (a == 0xEF) (b == 0xBB) is in
    subst (λ x. Settles Open (λ more. begins_as (x ∷ (b ∷ more)))) (sym (eqb-true a 0xEF parts.0))
    (subst (λ y. Settles Open (λ more. begins_as (0xEF ∷ (y ∷ more)))) (sym (eqb-true b 0xBB parts.1)) (([], refl), (0xBF ∷ 0x7B ∷ [], λ e. cc)))
mark_tells (a ∷ (b ∷ (c ∷ rest))) is = cc

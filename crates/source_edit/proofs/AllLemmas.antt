-- Lists of edits.
use Rattle.std.proofs.Common.{◌≡◌, ℕ, ◌+◌, ◌-◌, ◌<◌, ◌≤◌, List, [], ◌∷◌, ◌++◌, length, take, drop, map, get_or, inr, subst, Bool, true, false, nat_lt, refl, sym, ap, ◌∙◌, arith, suc}
use Rattle.std.specs.Bool.{MatchBool}
use Rattle.std.proofs.lemmas.Bool.Decides.{nat_tests}
use Rattle.std.proofs.lemmas.List.{length-append, take_all, drop_more, drop_all}
use Rattle.std.proofs.Math.Seq.{take-suc}
use Rattle.source_edit.specs.Edits.{Change, Editing, change_of, after_edit, after_edits}
use Rattle.source_edit.specs.Causes.{IsAcceptable, AreAcceptable, IsCauseAmong}
use Rattle.source_edit.specs.declared.edit.Edit.{Edit}
use Rattle.source_edit.specs.declared.edit.EditError.{EditError}

pub after_more : (before : Editing) (changes : List Change) (change : Change) → after_edits before (changes ++ change ∷ []) ≡ after_edit (after_edits before changes) change
after_more before [] change = refl
after_more before (first ∷ changes) change = after_more (after_edit before first) changes change

-- a list that ends in one element ends in that alone
pub same_last : {X : Type 0} (xs ys : List X) (x y : X) → xs ++ x ∷ [] ≡ ys ++ y ∷ [] → (xs ≡ ys) × (x ≡ y)
same_last [] [] x y e = (refl, cc)
same_last [] (z ∷ ys) x y e = absurd (omega (arith, ap length e, length-append ys (y ∷ [])))
same_last (z ∷ xs) [] x y e = absurd (omega (arith, ap length e, length-append xs (x ∷ [])))
same_last (z ∷ xs) (w ∷ ys) x y e =
    let rest : xs ++ x ∷ [] ≡ ys ++ y ∷ [] = cc in
    let head : z ≡ w = cc in
    let known = same_last xs ys x y rest in
    (rw (head, known.0) refl, known.1)

pub not_empty : {X : Type 0} (xs : List X) (x : X) → xs ++ x ∷ [] ≡ [] → ⊥
not_empty xs x e = absurd (omega (arith, ap length e, length-append xs (x ∷ [])))

-- going back from an edit leads to where it began
pub back_from : (old new before : Editing) (change : Change) (some : Bool) → MatchBool some (old.history ≡ new.history ++ new.text ∷ []) ((old.history ≡ []) × (new ≡ old)) → old ≡ after_edit before change
    → (some ≡ true) × (new ≡ before)
back_from old new before change true went e =
    let same = same_last new.history before.history new.text before.text (sym went ∙ ap (λ (editing : Editing). editing.history) e) in
    (refl, λ i. record { text = same.1 i; history = same.0 i })
back_from old new before change false went e = absurd (not_empty before.history before.text (sym (ap (λ (editing : Editing). editing.history) e) ∙ went.0))

some_lt : (n : ℕ) → 0 < n → nat_lt 0 n ≡ true
some_lt n h = grind (arith, nat_tests)

none_lt : (n : ℕ) → n ≡ 0 → nat_lt 0 n ≡ false
none_lt n e = grind (arith, nat_tests)

-- whether there was something to go back to
pub said_is : (old new : Editing) (some : Bool) → MatchBool some (old.history ≡ new.history ++ new.text ∷ []) ((old.history ≡ []) × (new ≡ old)) → some ≡ nat_lt 0 (length old.history)
said_is old new true went = sym (some_lt (length old.history) (omega (arith, ap length went, length-append new.history (new.text ∷ []))))
said_is old new false went = sym (none_lt (length old.history) (ap length went.0))

pub latest_is : (old new : Editing) (some : Bool) → MatchBool some (old.history ≡ new.history ++ new.text ∷ []) ((old.history ≡ []) × (new ≡ old)) → 0 < length old.history → old.history ≡ new.history ++ new.text ∷ []
latest_is old new true went h = went
latest_is old new false went h = absurd (omega (arith, ap length went.0, h))

pub nothing_is : (old new : Editing) (some : Bool) → MatchBool some (old.history ≡ new.history ++ new.text ∷ []) ((old.history ≡ []) × (new ≡ old)) → old.history ≡ [] → new ≡ old
nothing_is old new true went e = absurd (not_empty new.history new.text (sym went ∙ e))
nothing_is old new false went e = went.1

-- so does going back from each of a list, one after another
pub back_one : (old new before : Editing) (changes : List Change) (done count : ℕ) (some : Bool) → MatchBool some (old.history ≡ new.history ++ new.text ∷ []) ((old.history ≡ []) × (new ≡ old))
    → length changes ≡ count → done < count → old ≡ after_edits before (take (count - done) changes) → new ≡ after_edits before (take (count - (done + 1)) changes)
back_one old new before changes done count some went size lt e =
    let left = count - (done + 1) in
    let none : Change = record { start = 0; end = 0; insert = [] } in
    let more : count - done ≡ suc left = omega arith in
    let last = get_or changes left none in
    (back_from old new (after_edits before (take left changes)) last some went
    (e ∙ ap (λ n. after_edits before (take n changes)) more ∙ ap (after_edits before) (take-suc changes left none (omega (arith, size))) ∙ after_more before (take left changes) last)).1

pub back_all : (before : Editing) (changes : List Change) (count : ℕ) → length changes ≡ count → take (count - 0) changes ≡ changes
back_all before changes count size = take_all (count - 0) changes (omega (arith, size))

-- what is known when some of the edits were accepted
pub record HasApplied (initial now : Editing) (edits rest : List Change) (place : ℕ) : Type 0 where
  pub accepted : AreAcceptable now.text rest → AreAcceptable initial.text edits
  pub after : after_edits now rest ≡ after_edits initial edits
  pub cause : (error : EditError) → IsCauseAmong place now.text rest error → IsCauseAmong 0 initial.text edits error
  pub back : (changes : List Change) × (length changes ≡ place) × (now ≡ after_edits initial changes)

pub applied_none : (initial : Editing) (edits : List Change) → HasApplied initial initial edits edits 0
applied_none initial edits = record { accepted = λ h. h; after = refl; cause = λ error h. h; back = ([], refl, refl) }

pub applied_more : (initial now next : Editing) (edits rest : List Change) (change : Change) (place : ℕ) → HasApplied initial now edits (change ∷ rest) place → IsAcceptable now.text change → next ≡ after_edit now change
    → HasApplied initial next edits rest (place + 1)
applied_more initial now next edits rest change place known ok e =
    let changes = known.back.0 in
    subst (λ s. HasApplied initial s edits rest (place + 1)) (sym e)
    (record {
      accepted = λ h. known.accepted (ok, h);
      after = known.after;
      cause = λ error h. known.cause error (inr (ok, h));
      back = (changes ++ change ∷ [], omega (arith, length-append changes (change ∷ []), known.back.1), ap (λ s. after_edit s change) known.back.2 ∙ sym (after_more initial changes change));
    })

-- the edits that are left
pub rest_more : (edits : List Edit) (place : ℕ) (d : Edit) → place < length edits → map change_of (drop place edits) ≡ change_of (get_or edits place d) ∷ map change_of (drop (place + 1) edits)
rest_more edits place d h = ap (map change_of) (drop_more edits place d h)

pub rest_none : (edits : List Edit) (place : ℕ) → length edits ≤ place → map change_of (drop place edits) ≡ []
rest_none edits place h = ap (map change_of) (drop_all place edits h)

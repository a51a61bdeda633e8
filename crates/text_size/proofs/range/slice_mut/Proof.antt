-- `slice_mut` lends a run of the bytes on: a walk along its code. Assumes `Logic`.
use mathlib.Core.Path.{◌≡◌, refl, sym, ap, ◌∙◌}
use Prim.Native.Nat.{ℕ, ◌+◌, ◌-◌, ◌*◌, ◌^◌, ◌<◌, ◌≤◌}
use native.Mathlib.Omega.{arith}
use mathlib.Core.List.{List, [], ◌∷◌, ◌++◌}
use lib.ListN.{length, take, drop as drop_list, take-append-drop, length-drop}
use base.Logic.{emp, id⊢}
use base.Fml.{ftrue, flft}
use mir.Syntax.{named}
use contract.Monad.{fact, fact_i}
use contract.Running.{tables}
use types.Kit.{‵, raw, ◌⊛◌, some, later, ◌$◌, ◌∵◌, !, qed, by, move, keep, use1, use2, split, split3, join, fsplit, fjoin, pick, await, rewrite, suffices, frame}
use types.Part.{whole, sub, agg}
use types.Run.{enter, bin, un, addr, stop, fld, no_more, and_then, returns}
use types.ByLocal.{alloc_all, pass_all, free_all, look_at, get, get_in, through, sets}
use denote.Builtin.{u8}
use denote.Exit.{yes, no}
use denote.RattleType.{owns}
use denote.Signature.{plain, mut_slice_of}
use denote.Slice.{MutSlice, Room, slice_val, mut_slice_vals, mut_slice_Tells}
use denote.Steps.{nothing, heard}
use denote.Triple.Entry.{on_entry}
use denote.Triple.Walked.{says, Stays, stay_dropped, walk_of, ends_at, Goes-dropped, Goes-spent_slice}
use borrow.Table.Elements.{at, at_byte, length-take-le}
use Rattle.std.proofs.lemmas.List.{drop-drop}
use Rattle.std.proofs.raw_atomic.Walks.{proved}
use Rattle.text_size.specs.contracts.range.TextRange.{the_row as Range}
use Rattle.text_size.proofs.range.TextRange.TheLaws.{lowers, the_row_laws}
use Rattle.text_size.proofs.RunLent.{run_lent, lends_run}
use Rattle.text_size.specs.contracts.range.slice_mut as f
use Rattle.text_size.proofs.range.slice_mut.Statement.{statement}
use Rattle.text_size.proofs.range.slice_mut.Code as code

-- a list in three parts
three_parts : {X : Type 0} (i j : ℕ) (xs : List X) → i ≤ j → xs ≡ take i xs ++ (take (j - i) (drop_list i xs) ++ drop_list j xs)
three_parts {X} i j xs ordered =
    let there : i + (j - i) ≡ j = omega arith in
    sym (take-append-drop i xs) ∙ ap (λ (l : List X). take i xs ++ l) (sym (take-append-drop (j - i) (drop_list i xs))
    ∙ ap (λ (l : List X). take (j - i) (drop_list i xs) ++ l) (drop-drop (j - i) i xs ∙ ap (λ (k : ℕ). drop_list k xs) there))

module _ (i j : ℕ) (xs : List ℕ) (ordered : i ≤ j) (within : j ≤ length xs) where
  -- the run's length
  run_long : length (take (j - i) (drop_list i xs)) ≡ j - i
  run_long = let left : length (drop_list i xs) ≡ length xs - i = length-drop i xs in length-take-le (j - i) (drop_list i xs) (omega arith)

  -- where it lies
  begins : (o : ℕ) → at o 1 (length (take i xs)) ≡ i + o
  begins o = at_byte o (length (take i xs)) ∙ ap (λ (k : ℕ). k + o) (length-take-le i xs (omega arith))

  module _ (room : Room u8 (length xs)) where
    -- what is at most the length fits a word
    fits : (k : ℕ) → k ≤ length xs → k < 2 ^ 64
    fits k most = let few : length xs < 2 ^ 64 = room.0 in omega arith

    roomy : Room u8 (length (take (j - i) (drop_list i xs)))
    roomy = let few : length xs < 2 ^ 64 = room.0 in let small : length xs * 1 < 2 ^ 63 = room.1 in let long = run_long in (omega arith, omega arith)

abbrev stayed : Stays f.ended.signature.params f.ended.kept
stayed = (stay_dropped (mut_slice_of (0 ∷ []) tt (plain (λ _. u8))) no, (stay_dropped (plain (λ _. Range)) yes, tt))

pub slice_mut_spec : {M : Type 1} → statement M
slice_mut_spec 𝓤 𝓛 𝓜 𝓡 wired =
    let c = f.clauses 𝓛 𝓜.mem 𝓡.returns in let W = walk_of 𝓛 f.ended stayed c in let 𝓣 = tables 𝓤 𝓛.H 𝓜 𝓡 𝓡.env in
    proved 𝓛 f.ended stayed c 𝓜 𝓡 (Goes-spent_slice 𝓛 1 (0 ∷ []) tt (plain (λ _. u8)), (Goes-dropped 𝓛 1 (plain (λ _. Range)) yes (λ κs x w. refl), tt))
    f.Key.name code.function (code.unfolded 𝓤 𝓛.H 𝓜 𝓡 wired)
    (λ κs. (mut_slice_vals, ((λ d. lowers.lowered d ∷ []), tt))) (λ κs. (mut_slice_Tells (named 0) κs.0 u8, (lowers.val_is, tt))) (λ κs qs bounds a _ are.
    let κ = κs.0 in let q = qs.0 in let b = a.0.ref_ptr.0 in let o = a.0.ref_ptr.1 in let γ = a.0.ghost_name in let xs : List ℕ = a.0.now in
    let i : ℕ = a.1.0.0 in let j : ℕ = a.1.0.1 in let m : ℕ = j - i in
    let y : W.Ghost = ((κs, qs, bounds, a, (mut_slice_vals a.0, (lowers.lowered a.1.0 ∷ [], tt))), tt) in
    let room : Room u8 (length xs) = are.0.0.1 in let ordered : i ≤ j = are.1.0.1.0.1 in
    qed 𝓛 (raw (on_entry 𝓛 f.signature κs qs a y.0.4) ∷ raw (fact 𝓤 (j ≤ length xs)) ∷ []) ∵ move ! (1 ∷ []) $ heard ! _ (λ within.
    let run : List ℕ = take m (drop_list i xs) in let fit = fits i j xs ordered within room in
    let fi : i < 2 ^ 64 = fit i (omega arith) in let fj : j < 2 ^ 64 = fit j (omega arith) in let fm : m < 2 ^ 64 = fit m (omega arith) in
    let cut = three_parts i j xs ordered in let on = begins i j xs ordered within o in let roomy = roomy i j xs ordered within room in
    use1 𝓛 ((‵ (flft κ q) ⊛ ‵ ftrue) ⊛ ‵ (owns (MutSlice (named 0) κ u8 ∷ Range ∷ []) a (y.0.4))) (id⊢ 𝓤 _) $ split ! $
    enter ! _ _ _ _ _ $ alloc_all ! (λ l. pass_all ! refl ((tt, (tt, (record { fits = room.0 }, tt))), (((the_row_laws.lawful 𝓛).typed a.1.0 _ are.1.0).0, tt)) $
    -- [the token; what the arguments own]
    sets ! (un ! (get_in ! (fld ! refl (fld ! refl (stop !))) (sub ! 0 refl (sub ! 0 refl (whole !)))) (record { fits = fi })) refl (tt, record { fits = fi }) $
    sets ! (un ! (get_in ! (fld ! refl (fld ! refl (stop !))) (sub ! 0 refl (sub ! 1 refl (whole !)))) (record { fits = fj })) refl (tt, record { fits = fj }) $
    sets ! (bin ! (get_in ! (fld ! refl (stop !)) (sub ! 0 refl (whole !))) (get ! refl) tt) refl (tt, tt) $
    sets ! (bin ! (get ! refl) (get ! refl) ordered) refl (tt, record { fits = fm }) $
    sets ! (addr ! (through ! refl (stop !))) refl (tt, tt) $
    sets ! (agg ! (and_then ! (get ! refl) (and_then ! (get ! refl) (no_more !)))) refl (tt, (tt, (record { fits = fm }, tt))) $
    split ! $ move ! (2 ∷ 0 ∷ []) $ fsplit ! $ move ! (0 ∷ 2 ∷ []) $
    use2 𝓛 (later (some (run_lent 𝓛 u8 (named 0) κ q b o (i + o) γ xs (take i xs) run (drop_list j xs) cut on roomy)))
    (lends_run 𝓛 u8 (named 0) κ q b o (i + o) γ xs (take i xs) run (drop_list j xs) cut on roomy (mut_slice_vals a.0)) $ await ! tt $ pick ! (λ δ.
    returns ! (look_at ! 0 refl) $ free_all ! refl $ keep ! (0 ∷ []) $ split3 ! $
    rewrite ! 0 (λ (k : ℕ). ‵ ((MutSlice (named 0) κ u8).own_val (record { ref_ptr = (b, i + o); ghost_name = δ; now = run }) (slice_val (b, i + o) k ∷ []))) (run_long i j xs ordered within) refl $
    suffices ! _ (ends_at 𝓛 f.ended stayed c y (slice_val (b, i + o) m) (record { ref_ptr = (b, i + o); ghost_name = δ; now = run }) (tt, (tt, tt)) (tt, (tt, tt))) $
    nothing ! $ nothing ! $ fjoin ! $ nothing ! $ fjoin ! $ join ! $ nothing ! $ move ! (2 ∷ 0 ∷ []) $ join ! $ join ! $ frame ! $ frame ! $ says ! (run_long i j xs ordered within) $ by ! (fact_i 𝓤 _ (emp 𝓤) refl)))))

-- `scribble_in` lends a range of its bytes to a function of which nothing is known, and takes them back: a walk along its code. Assumes `Logic`.
use mathlib.Core.Path.{◌≡◌, refl, sym, ap, ◌∙◌}
use Prim.Native.Nat.{ℕ, ◌+◌, ◌-◌, ◌^◌, ◌<◌, ◌≤◌}
use native.Mathlib.Omega.{arith}
use mathlib.Core.List.{List, [], ◌∷◌, ◌++◌}
use lib.ListN.{length, take, drop as drop_list}
use lib.Seq.{drop-append-add, take_at, drop_at}
use borrow.Table.Elements.{length-take-le}
use base.Logic.{emp, id⊢}
use base.Fraction.{full_share}
use base.Fml.{ftrue, flft, fres, GName}
use base.Stored.{coded_list}
use mir.Syntax.{named, erased}
use mir.Val.{Val, vunit}
use contract.Monad.{fact, fact_i}
use contract.Running.{tables}
use types.Kit.{‵, raw, ◌⊛◌, some, given, later, ◌$◌, ◌∵◌, !, qed, by, move, keep, drop, use0, use1, use2, use3, split, split3, join, fsplit, fjoin, feq_i, feq_l, pick, await, learn, rewrite, suffices, frame}
use types.Part.{whole, sub, agg}
use types.Run.{enter, addr, from, hop, stop, fld, no_more, and_then, returns, of_opd, unit_lit}
use types.ByLocal.{alloc_all, pass_all, free_all, look_at, look_in_at, get, get_in, sets, lands_as}
use types.Tokens.{lft_new, lft_end}
use denote.Builtin.{u8, unit}
use denote.Array.{Array}
use denote.Exit.{yes}
use denote.Follow.{follows}
use denote.FollowSlice.{followed_slice, heres_id}
use denote.RattleType.{owns}
use denote.Ref.{MutBor}
use denote.Signature.{plain}
use denote.Slice.{MutSlice, Room, slice_val, mut_slice_vals, mut_slice_Tells, res-finally, finally}
use denote.Steps.{nothing, heard, only}
use denote.Triple.Call.{calls_at}
use denote.Triple.Clauses.{lasts}
use denote.Triple.Entry.{on_entry}
use denote.Triple.Spec.{triple_of}
use denote.Triple.Table.{framed}
use denote.Triple.Walked.{says, Stays, stay_dropped, stay_slice, walk_of, ends_at, Goes-dropped, Goes-slice}
use borrow.Rule.Slice.Lend.{kept_f, sl_relend, sl_relent_backˡ}
use borrow.Table.Owned as bare
use Rattle.std.proofs.raw_atomic.Walks.{proved}
use Rattle.text_size.specs.contracts.range.TextRange.{the_row as Range}
use Rattle.text_size.proofs.range.TextRange.TheLaws.{lowers, the_row_laws}
use Rattle.text_tests.specs.contracts.of_text_size.scribble_in as f
use Rattle.text_tests.proofs.of_text_size.scribble_in.Statement.{statement}
use Rattle.text_tests.proofs.of_text_size.scribble_in.Code as code
use Rattle.text_size.specs.contracts.slice_mut as g
use Rattle.text_size.proofs.slice_mut.Met.{met as slice_mut_met}
use Rattle.text_tests.specs.contracts.of_text_size.scribble as h
use Rattle.text_tests.proofs.of_text_size.scribble.Met.{met as scribble_met}

module _ (i j : ℕ) (xs : List ℕ) (ordered : i ≤ j) (within : j ≤ length xs) where
  few : Room u8 (length xs) → (k : ℕ) → k ≡ j - i → k < 2 ^ 64
  few room k long = let most : length xs < 2 ^ 64 = room.0 in omega arith

  front_long : length (take i xs) ≡ i
  front_long = length-take-le i xs (omega arith)

  -- the bytes before the run
  before : (rest : List ℕ) → take i (take i xs ++ rest) ≡ take i xs
  before rest = take_at (take i xs) rest i front_long

  -- and those behind it
  behind : (ws : List ℕ) → length ws ≡ j - i → drop_list j (take i xs ++ (ws ++ drop_list j xs)) ≡ drop_list j xs
  behind ws long =
      let there : j ≡ length (take i xs) + (j - i) = let front = front_long in omega arith in
      ap (λ (k : ℕ). drop_list k (take i xs ++ (ws ++ drop_list j xs))) there ∙ drop-append-add (take i xs) (ws ++ drop_list j xs) (j - i) ∙ drop_at ws (drop_list j xs) (j - i) long

abbrev stayed : Stays f.ended.signature.params f.ended.kept
stayed = (stay_slice (0 ∷ []) tt (plain (λ _. u8)), (stay_dropped (plain (λ _. Range)) yes, tt))

pub scribble_in_spec : {M : Type 1} → statement M
scribble_in_spec 𝓤 𝓛 𝓜 𝓡 wired =
    let c = f.clauses 𝓛 𝓜.mem 𝓡.returns in let W = walk_of 𝓛 f.ended stayed c in let 𝓣 = tables 𝓤 𝓛.H 𝓜 𝓡 𝓡.env in
    proved 𝓛 f.ended stayed c 𝓜 𝓡 (Goes-slice 𝓛 1 0 tt (plain (λ _. u8)), (Goes-dropped 𝓛 1 (plain (λ _. Range)) yes (λ κs x w. refl), tt))
    f.Key.name code.function (code.unfolded 𝓤 𝓛.H 𝓜 𝓡 wired)
    (λ κs. (mut_slice_vals, ((λ d. lowers.lowered d ∷ []), tt))) (λ κs. (mut_slice_Tells (named 0) κs.0 u8, (lowers.val_is, tt))) (λ κs qs bounds a _ are.
    let κ = κs.0 in let q = qs.0 in let b = a.0.ref_ptr.0 in let o = a.0.ref_ptr.1 in let γ = a.0.ghost_name in let xs : List ℕ = a.0.now in
    let i : ℕ = a.1.0.0 in let j : ℕ = a.1.0.1 in
    let y : W.Ghost = ((κs, qs, bounds, a, (mut_slice_vals a.0, (lowers.lowered a.1.0 ∷ [], tt))), tt) in
    let room : Room u8 (length xs) = are.0.0.1 in let ordered : i ≤ j = are.1.0.1.0.1 in
    qed 𝓛 (raw (on_entry 𝓛 f.signature κs qs a y.0.4) ∷ raw (fact 𝓤 (j ≤ length xs)) ∷ []) ∵ move ! (1 ∷ []) $ heard ! _ (λ within.
    use1 𝓛 ((‵ (flft κ q) ⊛ ‵ ftrue) ⊛ ‵ ((MutSlice (named 0) κ u8).own_val a.0 (mut_slice_vals a.0)) ⊛ ‵ (owns (Range ∷ []) a.1 (y.0.4.1))) (id⊢ 𝓤 _) $ split3 ! $ split ! $ move ! (2 ∷ 0 ∷ []) $
    -- [the slice; the token; nothing; the range]
    enter ! _ _ _ _ _ $ alloc_all ! (λ l. pass_all ! refl ((tt, (tt, (record { fits = room.0 }, tt))), (((the_row_laws.lawful 𝓛).typed a.1.0 _ are.1.0).0, tt)) $
    sets ! (addr ! (from ! (fld ! refl (hop ! (look_in_at ! 1 (sub ! 0 refl (whole !))) (stop !))))) refl (tt, tt) $
    sets ! (agg ! (and_then ! (get ! refl) (and_then ! (get_in ! (fld ! refl (stop !)) (sub ! 1 refl (whole !))) (no_more !)))) refl (tt, (tt, (record { fits = room.0 }, tt))) $
    fsplit ! $ fsplit ! $ drop ! $ fjoin ! $ lft_new ! tt (λ α. move ! (1 ∷ 2 ∷ []) $
    use2 𝓛 (later (some (λ (δ : GName). ‵ ((bare.MutSlice erased (α ∷ []) u8).own_val (record a.0 { ghost_name = δ })) ⊛ (kept_f 𝓛 u8 κ q (α ∷ []) γ δ xs b o)))) (sl_relend 𝓛 u8 κ q (α ∷ []) b o γ xs) $ await ! tt $ pick ! (λ δ. split ! $
    let loan : MutBor (List ℕ) = record a.0 { ghost_name = δ } in
    fsplit ! $ feq_i ! (List Val) (mut_slice_vals loan) (mut_slice_vals loan) refl $ fjoin ! $ fjoin ! $
    -- [the loan; what the lender keeps; the token of α; nothing; the range]
    let G = triple_of 𝓛 g.signature (g.spec 𝓛 𝓜.mem 𝓡.returns) in
    let z : G.Ghost = (((α ∷ [], tt), (full_share, tt), tt, (loan, a.1), (mut_slice_vals loan, y.0.4.1)), tt) in
    move ! (0 ∷ 4 ∷ []) $ join ! $ move ! (2 ∷ 3 ∷ []) $ join ! $ join ! $
    use0 𝓛 (raw (fact 𝓤 (j ≤ length xs))) (fact_i 𝓤 _ (emp 𝓤) within) $ move ! (1 ∷ 0 ∷ []) $ use2 𝓛 (raw (G.pre z)) (id⊢ 𝓤 _) $
    calls_at ! (framed 𝓤 𝓛.H 𝓜 𝓣) G (slice_mut_met 𝓤 𝓛 𝓜 𝓡 (code.calls-text_size::slice_mut 𝓡.env wired)) z
    (and_then ! (get ! refl) (and_then ! (get ! refl) (no_more !))) (λ v.
    use1 𝓛 (later (some (λ (r : MutBor (List ℕ)). ((‵ (flft (α ∷ []) full_share) ⊛ ‵ ftrue) ⊛ ‵ ((MutSlice (named 0) (α ∷ []) u8).own_val r (v ∷ []))) ⊛
    some (λ (us : Unit {0} × (Unit {0} × Unit {0})). ‵ (lasts g.ended z.0.0 z.0.3 us) ⊛ (‵ (follows (Array u8 0) (Array u8 0) δ r.ghost_name (λ ws. take i xs ++ (ws ++ drop_list j xs))) ⊛
    (raw (fact 𝓤 (r.now ≡ take (j - i) (drop_list i xs))) ⊛ raw (fact 𝓤 (length r.now ≡ j - i)))))))) (id⊢ 𝓤 _) $
    await ! tt $ pick ! (λ r. split ! $ split ! $ split ! $
    -- [the token of α; nothing; the part; what the call says; what the lender keeps; ..]
    move ! (3 ∷ []) $ pick ! (λ us. split ! $ drop ! $ split ! $ move ! (1 ∷ []) $ split ! $ drop ! $ heard ! _ (λ long.
    move ! (3 ∷ []) $ fsplit ! $ fsplit ! $ feq_l ! (λ is.
    let fits : length r.now < 2 ^ 64 = few i j xs ordered within room (length r.now) long in
    lands_as ! (ap only is) refl (tt, (tt, (record { fits = fits }, tt))) $
    sets ! (addr ! (from ! (fld ! refl (hop ! (look_in_at ! 3 (sub ! 0 refl (whole !))) (stop !))))) refl (tt, tt) $
    sets ! (agg ! (and_then ! (get ! refl) (and_then ! (get_in ! (fld ! refl (stop !)) (sub ! 1 refl (whole !))) (no_more !)))) refl (tt, (tt, (record { fits = fits }, tt))) $
    feq_i ! (List Val) (mut_slice_vals r) (mut_slice_vals r) refl $ fjoin ! $ fjoin ! $
    -- [the part; how the whole follows; the token of α; nothing; what the lender keeps]
    let G' = triple_of 𝓛 h.signature (h.spec 𝓛 𝓜.mem 𝓡.returns) in
    let z' : G'.Ghost = (((α ∷ [], tt), (full_share, tt), tt, (r, tt), (mut_slice_vals r, tt)), tt) in
    nothing ! $ move ! (1 ∷ 0 ∷ []) $ join ! $ move ! (2 ∷ 3 ∷ []) $ join ! $ join ! $ nothing ! $ move ! (1 ∷ 0 ∷ []) $ use2 𝓛 (raw (G'.pre z')) (id⊢ 𝓤 _) $
    calls_at ! (framed 𝓤 𝓛.H 𝓜 𝓣) G' (scribble_met 𝓤 𝓛 𝓜 𝓡 (code.calls-text_tests::of_text_size::scribble 𝓡.env wired)) z' (and_then ! (get ! refl) (no_more !)) (λ w.
    use1 𝓛 (later (some (λ (u : Unit {0}). ((‵ (flft (α ∷ []) full_share) ⊛ ‵ ftrue) ⊛ ‵ (unit.own_val u (w ∷ []))) ⊛
    some (λ (ws : List ℕ × Unit {0}). ‵ (lasts h.ended z'.0.0 z'.0.3 ws) ⊛ ‵ ftrue)))) (id⊢ 𝓤 _) $
    await ! tt $ pick ! (λ u. split ! $ split ! $ split ! $ lft_end ! tt $ move ! (2 ∷ []) $ feq_l ! (λ is_unit.
    lands_as ! (ap only is_unit) refl (tt, tt) $ move ! (2 ∷ []) $ pick ! (λ ws. split ! $ fsplit ! $ fsplit ! $ fsplit ! $ move ! (1 ∷ []) $ feq_l ! (λ as_long.
    -- [the part's last bytes; .. ; α is over; .. ; how the whole follows; what the lender keeps]
    let written : List ℕ = ws.0 in let now : List ℕ = take i xs ++ (written ++ drop_list j xs) in
    move ! (6 ∷ 0 ∷ []) $ use2 𝓛 (‵ (fres δ ((coded_list u8.coded).code now))) (followed_slice 𝓛 (Array u8 0) u8 (λ zs. take i xs ++ (zs ++ drop_list j xs)) δ r.ghost_name written) $
    rewrite ! 0 (λ (zs : List ℕ). ‵ (fres δ ((coded_list u8.coded).code zs))) (sym (heres_id u8 now)) refl $ use1 𝓛 (‵ (finally u8 δ now)) (res-finally 𝓛 (named 0) κ u8 δ now) $
    move ! (4 ∷ 6 ∷ 0 ∷ []) $ use3 𝓛 (later (given (length now ≡ length xs) (‵ ((bare.MutSlice erased κ u8).own_val (record a.0 { now = now })) ⊛ ‵ (flft κ q)))) (sl_relent_backˡ 𝓛 u8 κ q (α ∷ []) b o γ δ xs now) $
    await ! tt $ learn ! (λ same. split ! $
    sets ! (of_opd ! (unit_lit !)) refl (tt, tt) $ returns ! (look_at ! 0 refl) $ free_all ! refl $ keep ! (0 ∷ 1 ∷ []) $
    fsplit ! $ feq_i ! (List Val) (mut_slice_vals a.0) (slice_val (b, o) (length now) ∷ []) (λ k. slice_val (b, o) (sym same k) ∷ []) $ fjoin ! $ fjoin ! $
    suffices ! _ (ends_at 𝓛 f.ended stayed c y vunit tt (now, (tt, tt)) (same, (tt, tt))) $
    nothing ! $ nothing ! $ fjoin ! $ move ! (1 ∷ 0 ∷ []) $ fjoin ! $ feq_i ! _ (vunit ∷ []) _ refl $ move ! (1 ∷ 0 ∷ []) $ join ! $
    nothing ! $ move ! (2 ∷ 0 ∷ []) $ join ! $ join ! $ frame ! $
    says ! (behind i j xs ordered within written (as_long ∙ long)) $ by ! (fact_i 𝓤 _ (emp 𝓤) (before i j xs ordered within (written ++ drop_list j xs)))))))))))))))))))

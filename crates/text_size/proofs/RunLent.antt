-- A `&mut` to elements is lent on to a run of them, and they end with that run replaced. Assumes `Logic`.
use mathlib.Core.Path.{◌≡◌, refl, sym, ap, ◌∙◌}
use Prim.Native.Nat.{ℕ, ◌+◌}
use native.Mathlib.Omega.{arith}
use mathlib.Core.List.{List, [], ◌∷◌, ◌++◌}
use lib.ListN.{length, length-append}
use seplogic.Ra.Ura.{Ura}
use mir.Syntax.{Lifetime}
use mir.Val.{Val}
use base.Logic.{SProp, ent, sep, ex}
use base.Stored.{coded_list}
use base.Fml.{Lft, GName, Share, flft, fobs, fbor}
use types.Logic.{Logic, sem}
use types.Kit.{Item, ‵, ◌⊛◌, ◌$◌, ◌∵◌, !, qed, move, drop, fsplit, fsplit3, fjoin, updating, await, later, some, use1, use2, group, pick, now, show, done, split3, rewrite, feq_l, feq_i, split, join}
use types.SemTy.{cells, Arr, Body}
use types.Follow.{takes_part}
use types.Mut.{open_ref}
use denote.RattleType.{RattleType}
use denote.Memory.{mem}
use denote.Array.{Array}
use denote.Slice.{MutSlice, Room, slice_val}
use denote.Follow.{follows}
use denote.FollowSlice.{heres_id, slice_of}
use borrow.Table.Elements.{at, cut_app, join_app}

module _ {M : Type 1} {𝓤 : Ura M} (𝓛 : Logic 𝓤) (R : RattleType) (ℓ : Lifetime) (κ : Lft) (q : Share) (b o p : ℕ) (γ : GName) (xs front run back : List R.Denot) (cut : xs ≡ front ++ (run ++ back)) (on : at o (mem R).size (length front) ≡ p) (roomy : Room R (length run)) where
  open 𝓛 use {H, A}

  -- the elements with the run replaced
  abbrev pub around : List R.Denot → List R.Denot
  around ws = front ++ (ws ++ back)

  -- the run under a new name, the token, and what the whole ends as
  abbrev pub run_lent : GName → Item 𝓤
  run_lent δ = ‵ ((MutSlice ℓ κ R).own_val (record { ref_ptr = (b, p); ghost_name = δ; now = run }) (slice_val (b, p) (length run) ∷ [])) ⊛ ‵ (flft κ q) ⊛ ‵ (follows (Array R 0) (Array R 0) γ δ around)

  abbrev RunLent : GName → SProp 𝓤
  RunLent δ = sep 𝓤 (sem 𝓛 ((MutSlice ℓ κ R).own_val (record { ref_ptr = (b, p); ghost_name = δ; now = run }) (slice_val (b, p) (length run) ∷ []))) (sep 𝓤 (A.lft κ q) (sem 𝓛 (follows (Array R 0) (Array R 0) γ δ around)))

  -- the elements beside the run
  abbrev Others : SProp 𝓤
  Others = sep 𝓤 (sem 𝓛 (cells (mem R) front b o)) (sem 𝓛 (cells (mem R) back b (at p (mem R).size (length run))))

  -- what is written in the run's place, as many elements, makes the whole again
  put_back : (ws : List R.Denot) → ent 𝓤 (sep 𝓤 (sem 𝓛 ((Arr (mem R) (length run)).own_at ws b p)) Others) (sem 𝓛 ((Arr (mem R) (length xs)).own_at (around ws) b o))
  put_back ws =
      let whole : length xs ≡ length front + length (run ++ back) = ap length cut ∙ length-append front (run ++ back) in
      let inner : length (run ++ back) ≡ length run + length back = length-append run back in
      let whole_then : length (around ws) ≡ length front + length (ws ++ back) = length-append front (ws ++ back) in
      let inner_then : length (ws ++ back) ≡ length ws + length back = length-append ws back in
      qed 𝓛 (‵ ((Arr (mem R) (length run)).own_at ws b p) ∷ ‵ (cells (mem R) front b o) ∷ ‵ (cells (mem R) back b (at p (mem R).size (length run))) ∷ []) ∵ fsplit ! $ feq_l ! (λ e.
      rewrite ! 2 (λ (k : ℕ). ‵ (cells (mem R) back b (at p (mem R).size k))) (sym e) refl $ move ! (0 ∷ 2 ∷ []) $
      use2 𝓛 (‵ (cells (mem R) (ws ++ back) b p)) (join_app 𝓛 (mem R) ws back b p) $
      rewrite ! 0 (λ (k : ℕ). ‵ (cells (mem R) (ws ++ back) b k)) (sym on) refl $ move ! (1 ∷ 0 ∷ []) $
      use2 𝓛 (‵ (cells (mem R) (around ws) b o)) (join_app 𝓛 (mem R) front (ws ++ back) b o) $
      feq_i ! ℕ (length (around ws)) (length xs) (omega arith) $ fjoin ! $ done !)

  pub lends_run : (vs : List Val) → ent 𝓤 (sep 𝓤 (sem 𝓛 ((MutSlice ℓ κ R).own_val (record { ref_ptr = (b, o); ghost_name = γ; now = xs }) vs)) (A.lft κ q)) (H.⇛ (ex 𝓤 RunLent))
  lends_run vs =
      qed 𝓛 (‵ ((MutSlice ℓ κ R).own_val (record { ref_ptr = (b, o); ghost_name = γ; now = xs }) vs) ∷ ‵ (flft κ q) ∷ []) ∵ updating ! $ fsplit3 ! $ drop ! $
      rewrite ! 0 (λ (l : List R.Denot). ‵ (fobs γ ((coded_list R.coded).code l))) (heres_id R xs) refl $ open_ref ! tt (Arr (mem R) (length xs)) {b = b} {o = o} $ fsplit ! $ drop ! $
      -- the elements in three parts
      rewrite ! 0 (λ (l : List R.Denot). ‵ (cells (mem R) l b o)) cut refl $
      use1 𝓛 (‵ (cells (mem R) front b o) ⊛ ‵ (cells (mem R) (run ++ back) b (at o (mem R).size (length front)))) (cut_app 𝓛 (mem R) front (run ++ back) b o) $ split ! $ move ! (1 ∷ []) $
      rewrite ! 0 (λ (k : ℕ). ‵ (cells (mem R) (run ++ back) b k)) on refl $
      use1 𝓛 (‵ (cells (mem R) run b p) ⊛ ‵ (cells (mem R) back b (at p (mem R).size (length run)))) (cut_app 𝓛 (mem R) run back b p) $ split ! $
      feq_i ! ℕ (length run) (length run) refl $ fjoin ! $ move ! (2 ∷ 1 ∷ []) $ join ! $ move ! (2 ∷ 3 ∷ 4 ∷ 1 ∷ 0 ∷ []) $ group ! 5 $
      use1 𝓛 (later (some (λ (δ : GName). ‵ (fobs δ ((coded_list R.coded).code run)) ⊛ ‵ (fbor κ (Body (Arr (mem R) (length run)) b p δ)) ⊛ ‵ (flft κ q) ⊛ ‵ (follows (Array R 0) (Array R 0) γ δ around))))
      (takes_part 𝓛 (Arr (mem R) (length xs)) (Arr (mem R) (length run)) around κ q b o b p γ Others put_back ((coded_list R.coded).code xs) ((coded_list R.coded).code xs) run) $ await ! tt $ pick ! (λ δ. split3 ! $
      use2 𝓛 (‵ ((MutSlice ℓ κ R).own_val (record { ref_ptr = (b, p); ghost_name = δ; now = run }) (slice_val (b, p) (length run) ∷ []))) (slice_of 𝓛 R ℓ κ b p δ run roomy) $ now ! $ show ! RunLent δ $ done !)

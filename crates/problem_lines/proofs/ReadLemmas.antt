-- One problem at a time.
use Rattle.std.proofs.Common.{◌≡◌, ℕ, zero, suc, ◌<◌, ◌≤◌, List, [], ◌∷◌, ◌++◌, length, map, get_or, Some, None, refl, sym, ap, ◌∙◌, subst, inl, inr, ◌⊎◌, arith, append_assoc, append-nil}
use Rattle.std.specs.List.{All}
use Rattle.std.proofs.lemmas.Bool.{cases_lt}
use Rattle.std.proofs.lemmas.List.{length-append, length-map, get_or_append_left, get_or_at, get_or_push, map_push, length_push, nil_from_length}
use Rattle.oxc_protocol.specs.Info.{InfoParts}
use Rattle.problem_lines.specs.Line.{problem_line, IsInRange}
use Rattle.problem_lines.specs.Lines.{lines_of, IsProblemLine, IsFirstOther, AreRead, AreProblemsOf}
use Rattle.problem_lines.specs.Read.{IsRead}

pub read_more : (ps : List InfoParts) (p : InfoParts) (rest line behind text : List ℕ) → AreRead ps rest text → lines_of rest ≡ line ∷ lines_of behind → IsInRange p × (problem_line p ≡ line) → AreRead (ps ++ p ∷ []) behind text
read_more ps p rest line behind text known next (small, same) =
    record {
      lines = rw (map_push problem_line ps p) (append_assoc (map problem_line ps) (problem_line p ∷ []) (lines_of behind) ∙ ap (λ l. map problem_line ps ++ l ∷ lines_of behind) same ∙ ap (λ l. map problem_line ps ++ l) (sym next) ∙ known.lines);
      in_range = λ k d lt. go k d lt (cases_lt k (length ps));
    }
  where
    go : (k : ℕ) (d : InfoParts) → k < length (ps ++ p ∷ []) → (k < length ps) ⊎ (length ps ≤ k) → IsInRange (get_or (ps ++ p ∷ []) k d)
    go k d lt (inl low) = subst IsInRange (sym (get_or_append_left ps (p ∷ []) d k low)) (known.in_range k d low)
    go k d lt (inr high) =
        let last : length ps ≡ k = omega (arith, length_push ps p) in
        subst IsInRange (sym (get_or_push ps p d k last)) small

not_none : (p : InfoParts) → None ≡ Some p → ⊥
not_none p same = cc

pub read_refused : (ps : List InfoParts) (rest line behind text : List ℕ) → AreRead ps rest text → lines_of rest ≡ line ∷ lines_of behind → IsRead line None → IsFirstOther (lines_of text) (length ps)
read_refused ps rest line behind text known next none =
    let parts : map problem_line ps ++ line ∷ lines_of behind ≡ lines_of text = ap (λ l. map problem_line ps ++ l) (sym next) ∙ known.lines in
    let size : length (map problem_line ps) ≡ length ps = length-map ps problem_line in
    subst (λ lines. IsFirstOther lines (length ps)) parts (record {
      within = omega (arith, length-append (map problem_line ps) (line ∷ lines_of behind), size);
      before = λ k lt. subst IsProblemLine (sym (get_or_append_left (map problem_line ps) (line ∷ lines_of behind) [] k (omega (arith, size)))) (held k lt);
      here = λ it. let there : get_or (map problem_line ps ++ line ∷ lines_of behind) (length ps) [] ≡ line = get_or_at (map problem_line ps) line (lines_of behind) [] (length ps) size in
          not_none it.problem (none.back it.problem it.in_range (it.same ∙ there));
    })
  where
    held : (k : ℕ) → k < length ps → IsProblemLine (get_or (map problem_line ps) k [])
    held k lt = go ps k lt known.in_range
      where
        go : (qs : List InfoParts) (k : ℕ) → k < length qs → All IsInRange qs → IsProblemLine (get_or (map problem_line qs) k [])
        go [] k lt all = absurd (omega arith)
        go (q ∷ qs) zero lt all = record { problem = q; in_range = all 0 q (omega arith); same = refl }
        go (q ∷ qs) (suc k) lt all = go qs k (omega arith) (λ j d low. all (suc j) d (omega arith))

pub read_start : (text : List ℕ) → AreRead [] text text
read_start text = record { lines = refl; in_range = λ k d lt. absurd (omega arith) }

pub read_end : (ps : List InfoParts) (rest text : List ℕ) → AreRead ps rest text → length rest ≡ 0 → AreProblemsOf ps text
unfolding lines_of
read_end ps rest text known empty =
    record { lines = sym (append-nil (map problem_line ps)) ∙ ap (λ l. map problem_line ps ++ lines_of l) (sym (nil_from_length rest empty)) ∙ known.lines; in_range = known.in_range }

-- So many of a list, at most all.
use Rattle.std.proofs.Common.{◌≡◌, ℕ, ◌-◌, ◌<◌, ◌≤◌, ◌==◌, ◌⊎◌, inl, inr, if◌then◌else◌, Bool, true, false, List, [], ◌∷◌, ◌++◌, length, map, take, drop, min, Some, None, Bor, refl, sym, ap, ap₂, ◌∙◌, append_assoc, length-drop, length-take, slice_index, unwrap_or, arith}
use Rattle.std.specs.List.{drop-map}
use Rattle.std.proofs.lemmas.Bool.{cases_lt}
use Rattle.std.proofs.lemmas.List.{drop-append-le, drop-drop, drop_all, take-append-le, take-map, take_all}
use Rattle.tool_lines.specs.Lines.{PieceParts, without_cr}
use Rattle.girzohal_options.specs.declared.Asked.{Asked}
use Rattle.drawn_lines.specs.Lines.{annotates, aside_text, kept_if, kept_text}
use Rattle.drawn_lines.specs.Seam.{span}

within : (count n : ℕ) → ((min count n ≡ count) ⊎ ((min count n ≡ n) × (n ≤ count)))
within count n = go (cases_lt count n)
  where
    go : (count < n) ⊎ (n ≤ count) → (min count n ≡ count) ⊎ ((min count n ≡ n) × (n ≤ count))
    go (inl less) = inl (omega arith)
    go (inr more) = inr (omega arith, more)

pub take_within : {X : Type 0} (count : ℕ) (xs : List X) → take (min count (length xs)) xs ≡ take count xs
take_within count xs = go (within count (length xs))
  where
    go : (min count (length xs) ≡ count) ⊎ ((min count (length xs) ≡ length xs) × (length xs ≤ count)) → take (min count (length xs)) xs ≡ take count xs
    go (inl is) = ap (λ n. take n xs) is
    go (inr is) = ap (λ n. take n xs) is.0 ∙ take_all (length xs) xs (omega arith) ∙ sym (take_all count xs is.1)

pub drop_within : {X : Type 0} (count : ℕ) (xs : List X) → drop (min count (length xs)) xs ≡ drop count xs
drop_within count xs = go (within count (length xs))
  where
    go : (min count (length xs) ≡ count) ⊎ ((min count (length xs) ≡ length xs) × (length xs ≤ count)) → drop (min count (length xs)) xs ≡ drop count xs
    go (inl is) = ap (λ n. drop n xs) is
    go (inr is) = ap (λ n. drop n xs) is.0 ∙ drop_all (length xs) xs (omega arith) ∙ sym (drop_all count xs is.1)

-- a line without a CR at its end is a front of it
cut_by : (line : List ℕ) (b : Bool) → take (length (unwrap_or (if b then Some (take (length line - 1) line) else None) line)) line
    ≡ unwrap_or (if b then Some (take (length line - 1) line) else None) line
cut_by line true = ap (λ n. take n line) (omega (arith, length-take (length line - 1) line))
cut_by line false = take_all (length line) line (omega arith)

pub cut_cr : (line : List ℕ) → take (length (without_cr line)) line ≡ without_cr line
cut_cr line = cut_by line (slice_index line (length line - 1) == 0x0D)

-- the lines of a piece, and then those of the others
pub kept_more : (asked : Asked) (text now : List ℕ) (piece : PieceParts) (front left behind : List (Bor (List ℕ))) (pieces : List PieceParts)
    → front ≡ take piece.lines left → behind ≡ drop piece.lines left → now ≡ text ++ kept_if asked false piece (map (λ line. line.now) front)
    → now ++ kept_text asked (map (λ line. line.now) behind) pieces ≡ text ++ kept_text asked (map (λ line. line.now) left) (piece ∷ pieces)
kept_more asked text now piece front left behind pieces front_is behind_is now_is =
    let first : map (λ (line : Bor (List ℕ)). line.now) front ≡ take piece.lines (map (λ (line : Bor (List ℕ)). line.now) left) =
    ap (map (λ (line : Bor (List ℕ)). line.now)) front_is ∙ sym (take-map (λ (line : Bor (List ℕ)). line.now) piece.lines left) in
    let rest : map (λ (line : Bor (List ℕ)). line.now) behind ≡ drop piece.lines (map (λ (line : Bor (List ℕ)). line.now) left) =
    ap (map (λ (line : Bor (List ℕ)). line.now)) behind_is ∙ sym (drop-map (λ (line : Bor (List ℕ)). line.now) piece.lines left) in
    ap₂ (λ t l. t ++ kept_text asked l pieces) (now_is ∙ ap (λ l. text ++ kept_if asked false piece l) first) rest
    ∙ append_assoc text (kept_if asked false piece (take piece.lines (map (λ (line : Bor (List ℕ)). line.now) left)))
    (kept_text asked (drop piece.lines (map (λ (line : Bor (List ℕ)). line.now) left)) pieces)

-- ---- the lines that are kept of the first pieces, and of those behind them

pub kept_parted : (asked : Asked) (lines more : List (List ℕ)) (front ps : List PieceParts) → span front ≤ length lines
    → kept_text asked (lines ++ more) (front ++ ps) ≡ kept_text asked lines front ++ kept_text asked (drop (span front) lines ++ more) ps
kept_parted asked lines more [] ps within = refl
kept_parted asked lines more (p ∷ front) ps within =
    let left : List (List ℕ) = drop p.lines lines in
    let rest : List ℕ = kept_text asked left front in
    ap₂ (λ run t. kept_if asked false p run ++ t) (take-append-le p.lines lines more (omega (arith, within)))
    (ap (λ ls. kept_text asked ls (front ++ ps)) (drop-append-le p.lines lines more (omega (arith, within)))
    ∙ (kept_parted asked left more front ps (omega (arith, within, length-drop p.lines lines))
    ∙ ap (λ ls. rest ++ kept_text asked (ls ++ more) ps) (drop-drop (span front) p.lines lines)))
    ∙ sym (append_assoc (kept_if asked false p (take p.lines lines)) rest (kept_text asked (drop (span (p ∷ front)) lines ++ more) ps))

pub aside_parted : (asked : Asked) (lines more : List (List ℕ)) (front ps : List PieceParts) → span front ≤ length lines
    → aside_text asked (lines ++ more) (front ++ ps) ≡ aside_text asked lines front ++ aside_text asked (drop (span front) lines ++ more) ps
aside_parted asked lines more front ps within =
    elim (annotates asked.to) as (λ v.
    (if v then kept_text asked (lines ++ more) (front ++ ps) else [])
    ≡ (if v then kept_text asked lines front else []) ++ (if v then kept_text asked (drop (span front) lines ++ more) ps else [])) [
      | true ↦ kept_parted asked lines more front ps within
      | false ↦ refl
    ]

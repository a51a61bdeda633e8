-- What holds of the names that pieces ask for.
use Rattle.std.proofs.Common.{◌≡◌, ℕ, ◌+◌, List, [], ◌∷◌, ◌++◌, map, true, false, if◌then◌else◌, Option, refl, sym, subst, ◌∙◌, ap, length, take, drop, arith}
use Rattle.std.specs.List.{All}
use Rattle.std.proofs.lemmas.List.Elements.{All-nil, All-append}
use Rattle.found_reports.specs.Held.{Held}
use Rattle.found_reports.specs.Found.{Found}
use Rattle.tool_lines.specs.Lines.{PieceParts, is_kept}
use Rattle.line_reports.specs.Names.{asked_names, finding_names, names_in}
use Rattle.line_reports.specs.Pieces.{ReadParts}
use Rattle.line_reports.specs.Reports.{reports_in}
use Rattle.line_reports.proofs.NamesLemmas.{all_front, all_rest, asked_all, asked_append, names_all, names_decide}
use Rattle.line_reports.proofs.PieceLemmas.{drop_on, lines_in}
use Rattle.report_texts.specs.Texts.{first_drawings}
use Rattle.ci_formats.specs.declared.format.CiFormat.TheVariants as ci
use Rattle.report_texts.specs.CiTexts.{ci_text}
use Rattle.girzohal_options.specs.declared.Asked.{Asked}
use Rattle.drawn_lines.specs.Lines.{annotates, columns_of, has_colors, in_place, kept_if, shown_of, still, written}

-- what is told of these names decides what is drawn

abbrev Same : (List ℕ → Held) → (List ℕ → Held) → List ℕ → Type 0
Same told other name = told name ≡ other name

reports_same : (asked : Asked) (told other : List ℕ → Held) (lines : List (List ℕ)) (rs : List ReadParts) → All (Same told other) (asked_names lines rs)
    → reports_in (columns_of asked) told lines rs ≡ reports_in (columns_of asked) other lines rs
reports_same asked told other lines rs all = names_decide (columns_of asked) told other lines rs (names_all (Same told other) lines rs all)

lines_push : (reads : List ReadParts) (read : ReadParts) → lines_in (reads ++ read ∷ []) ≡ lines_in reads + read.piece.lines
lines_push [] read = omega arith
lines_push (a ∷ reads) read = omega (arith, lines_push reads read)

-- one piece more is asked for
asked_push : (P : List ℕ → Type 0) (from lines : List (List ℕ)) (before : List ReadParts) (r : ReadParts) → lines ≡ drop (lines_in before) from
    → All P (asked_names from before) → All P (finding_names (take r.piece.lines lines) r r.piece.begun.finding) → All P (asked_names from (before ++ r ∷ []))
asked_push P from lines before r is all here =
    subst (All P) (sym (asked_append from before (r ∷ [])))
    (All-append P (asked_names from before) (asked_names (drop (lines_in before) from) (r ∷ [])) all
    (subst (λ ls. All P (asked_names ls (r ∷ []))) is (All-append P (finding_names (take r.piece.lines lines) r r.piece.begun.finding) [] here (All-nil P))))

pub lines_on : (from lines : List (List ℕ)) (before : List ReadParts) (r : ReadParts) → lines ≡ drop (lines_in before) from → drop r.piece.lines lines ≡ drop (lines_in (before ++ r ∷ [])) from
lines_on from lines before r is =
    ap (drop r.piece.lines) is ∙ (sym (drop_on (lines_in before) r.piece.lines from) ∙ ap (λ n. drop n from) (sym (lines_push before r)))

drawn_same : (asked : Asked) (told other : List ℕ → Held) (most : Option ℕ) (before : List ReadParts) (from lines shown : List (List ℕ)) (rs : List ReadParts) → lines ≡ drop (lines_in before) from
    → All (Same told other) (asked_names from before) → All (Same told other) (asked_names lines rs) → in_place asked told most before from lines shown rs ≡ in_place asked other most before from lines shown rs
unfolding in_place
drawn_same asked told other most before from lines shown [] is b all = ap (first_drawings asked most) (reports_same asked told other from before b)
drawn_same asked told other most before from lines shown (p ∷ ps) is b all =
    let S : List ℕ → Type 0 = Same told other in
    let A : List Found = reports_in (columns_of asked) told from before in
    let B : List Found = reports_in (columns_of asked) other from before in
    let kept : List ℕ = kept_if asked (has_colors asked.theme) p.piece (take p.piece.lines shown) in
    let behind : List (List ℕ) = drop p.piece.lines lines in
    let later : List (List ℕ) = drop p.piece.lines shown in
    let mine : List (List ℕ) = finding_names (take p.piece.lines lines) p p.piece.begun.finding in
    let here : All S mine = all_front S mine (asked_names behind ps) all in
    let left : All S (asked_names behind ps) = all_rest S mine (asked_names behind ps) all in
    elim (is_kept p.piece.begun.sort) as (λ v.
    (if v then first_drawings asked most A ++ kept ++ in_place asked told (still most (length A)) [] behind behind later ps else in_place asked told most (before ++ p ∷ []) from behind later ps)
    ≡ (if v then first_drawings asked most B ++ kept ++ in_place asked other (still most (length B)) [] behind behind later ps else in_place asked other most (before ++ p ∷ []) from behind later ps)) [
      | true ↦ ap (λ fs. first_drawings asked most fs ++ kept ++ in_place asked told (still most (length fs)) [] behind behind later ps) (reports_same asked told other from before b)
          ∙ ap (λ t. first_drawings asked most B ++ kept ++ t) (drawn_same asked told other (still most (length B)) [] behind behind later ps refl (All-nil S) left)
      | false ↦ drawn_same asked told other most (before ++ p ∷ []) from behind later ps (lines_on from lines before p is) (asked_push S from lines before p is b here) left
    ]

pub agreed_reports : (asked : Asked) (told other : List ℕ → Held) (lines : List (List ℕ)) (rs : List ReadParts) → All (λ name. told name ≡ other name) (names_in lines rs)
    → reports_in (columns_of asked) told lines rs ≡ reports_in (columns_of asked) other lines rs
agreed_reports asked told other lines rs all = names_decide (columns_of asked) told other lines rs all

pub agreed_text : (asked : Asked) (told other : List ℕ → Held) (most : Option ℕ) (lines came : List (List ℕ)) (rs : List ReadParts) → All (λ name. told name ≡ other name) (names_in lines rs)
    → written asked told most lines came rs ≡ written asked other most lines came rs
unfolding written
agreed_text asked told other most lines came rs all =
    let shown : List (List ℕ) = shown_of asked lines came in
    elim (annotates asked.to) as (λ v.
    (if v then ci_text ci.Github asked.raw (reports_in (columns_of asked) told lines rs) else in_place asked told most [] lines lines shown rs)
    ≡ (if v then ci_text ci.Github asked.raw (reports_in (columns_of asked) other lines rs) else in_place asked other most [] lines lines shown rs)) [
      | true ↦ ap (ci_text ci.Github asked.raw) (agreed_reports asked told other lines rs all)
      | false ↦ drawn_same asked told other most [] lines lines shown rs refl (All-nil (Same told other)) (asked_all (Same told other) lines rs all)
    ]

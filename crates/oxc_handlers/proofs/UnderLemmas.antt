-- The gutter under a row by its places.
use Rattle.std.proofs.Common.{◌≡◌, ℕ, ◌+◌, ◌-◌, ◌<◌, ◌≤◌, Bool, true, false, cond, List, [], ◌∷◌, ◌++◌, length, encode_utf8, ltb, refl, sym, ap, ◌∙◌, arith, suc}
use Rattle.std.proofs.lemmas.Bool.Decides.{nat_tests}
use Rattle.oxc_plan.specs.declared.bars.Bar.{Bar}
use Rattle.oxc_handlers.specs.declared.text_lines.LabelRenderMode.{LabelRenderMode}
use Rattle.oxc_handlers.specs.declared.text_lines.LabelRenderMode.TheVariants.{SingleLine, BlockFirst, BlockRest}
use Rattle.oxc_handlers.specs.Setting.{SettingView}
use Rattle.oxc_handlers.specs.Cells.{repeated, cells}
use Rattle.oxc_handlers.specs.Gutters.{bar_piece, below_from, ending, ends}
use Rattle.oxc_handlers.specs.Places.{HasPlacesUnder, char_under, ending_places, first_end, places_under, under_by}
use Rattle.oxc_handlers.proofs.CellsLemmas.{cells_agree, cells_at, cells_between, cells_first, cells_from_to}
use Rattle.oxc_handlers.proofs.GuttersLemmas.{below_some}
use Rattle.oxc_handlers.proofs.PlacesLemmas.{PlainStyles, next_lt, one_plain, run_plain}

end_passed : (bar : Bar) (more : List Bar) → ends bar.kind ≡ false → first_end (bar ∷ more) ≡ first_end more + 1
end_passed bar more pass = rw pass (omega arith)

end_here : (bar : Bar) (more : List Bar) → ends bar.kind ≡ true → first_end (bar ∷ more) ≡ 0
end_here bar more here = rw here refl

still_there : (bar : Bar) (more : List Bar) → ends bar.kind ≡ false → ltb (first_end (bar ∷ more)) (length (bar ∷ more)) ≡ ltb (first_end more) (length more)
still_there bar more pass =
    let size : length (bar ∷ more) ≡ length more + 1 = omega arith in
    ap (λ i. ltb i (length (bar ∷ more))) (end_passed bar more pass) ∙ ap (ltb (first_end more + 1)) size ∙ next_lt (first_end more) (length more)

there_first : (bar : Bar) (more : List Bar) → ends bar.kind ≡ true → ltb (first_end (bar ∷ more)) (length (bar ∷ more)) ≡ true
there_first bar more here =
    let some : ltb 0 (length (bar ∷ more)) ≡ true = grind (arith, nat_tests) in
    ap (λ i. ltb i (length (bar ∷ more))) (end_here bar more here) ∙ some

under_passed : (setting : SettingView) (mode : LabelRenderMode) (place : ℕ) (bar : Bar) (more : List Bar) (p : ℕ) → ends bar.kind ≡ false
    → char_under setting mode place (bar ∷ more) p ≡ char_under setting mode (place + 1) more p
unfolding char_under
under_passed setting mode place bar more p pass =
    let k = first_end more in
    let next : place + (k + 1) ≡ place + 1 + k = omega arith in
    ap (λ there. under_by setting mode (place + first_end (bar ∷ more)) there p) (still_there bar more pass)
    ∙ ap (λ i. under_by setting mode (place + i) (ltb k (length more)) p) (end_passed bar more pass)
    ∙ ap (λ i. under_by setting mode i (ltb k (length more)) p) next

under_first : (setting : SettingView) (mode : LabelRenderMode) (place : ℕ) (bar : Bar) (more : List Bar) → ends bar.kind ≡ false
    → char_under setting mode place (bar ∷ more) place ≡ setting.theme.characters.vbar
unfolding char_under
under_first setting mode place bar more pass =
    let turn = end_passed bar more pass in
    let early : ltb place (place + first_end (bar ∷ more)) ≡ true = grind (arith, nat_tests) in
    rw early refl

under_none : (setting : SettingView) (mode : LabelRenderMode) (place p : ℕ) → place ≤ p → char_under setting mode place [] p ≡ 0x20
unfolding char_under
under_none setting mode place p le = let late : ltb p (place + 0) ≡ false = grind (arith, nat_tests) in rw late refl

-- where the first bar ends
under_ended : (setting : SettingView) (mode : LabelRenderMode) (place : ℕ) (bar : Bar) (more : List Bar) (p : ℕ) → ends bar.kind ≡ true
    → char_under setting mode place (bar ∷ more) p ≡ under_by setting mode place true p
unfolding char_under
under_ended setting mode place bar more p here =
    let same : place + 0 ≡ place = omega arith in
    ap (λ there. under_by setting mode (place + first_end (bar ∷ more)) there p) (there_first bar more here)
    ∙ ap (λ i. under_by setting mode (place + i) true p) (end_here bar more here)
    ∙ ap (λ i. under_by setting mode i true p) same

single_corner : (setting : SettingView) (place : ℕ) → under_by setting SingleLine place true place ≡ setting.theme.characters.lbot
single_corner setting place = grind (arith, nat_tests)

single_line : (setting : SettingView) (place p : ℕ) → place < p → under_by setting SingleLine place true p ≡ setting.theme.characters.hbar
single_line setting place p lt = grind (arith, nat_tests)

block_corner : (setting : SettingView) (place : ℕ) → under_by setting BlockFirst place true place ≡ setting.theme.characters.lbot
block_corner setting place = grind (arith, nat_tests)

block_line : (setting : SettingView) (place p : ℕ) → place < p → under_by setting BlockFirst place true p ≡ setting.theme.characters.hbar
block_line setting place p lt = grind (arith, nat_tests)

rest_space : (setting : SettingView) (place p : ℕ) → place ≤ p → under_by setting BlockRest place true p ≡ 0x20
rest_space setting place p le = let late : ltb p place ≡ false = grind (arith, nat_tests) in rw late refl

-- cells of which the first differs from the others
corner_run : (f : ℕ → List ℕ) (place end : ℕ) (corner line : List ℕ) → place < end → f place ≡ corner → ((p : ℕ) → place < p → f p ≡ line)
    → cells f place (end - place) ≡ corner ++ repeated (end - (place + 1)) line
corner_run f place end corner line lt first later =
    cells_between f place (place + 1) end (omega arith) (omega arith)
    ∙ ap (λ l. l ++ cells f (place + 1) (end - (place + 1))) (cells_at f place (place + 1) refl ∙ first)
    ∙ ap (λ l. corner ++ l) (cells_from_to f (place + 1) end line (omega arith) (λ p low high. later p (omega arith)))

-- the cells from the place of a label that ends on
ended : (setting : SettingView) (mode : LabelRenderMode) (place : ℕ) (bar : Bar) (more : List Bar) → PlainStyles setting → ends bar.kind ≡ true → place < setting.gutter
    → ending setting mode place bar.label ≡ cells (λ p. encode_utf8 (char_under setting mode place (bar ∷ more) p)) place (ending_places mode setting.gutter - place)
unfolding ending
ended setting SingleLine place bar more all here lt =
    let g = setting.gutter in
    let characters = setting.theme.characters in
    let f : ℕ → List ℕ = λ p. encode_utf8 (char_under setting SingleLine place (bar ∷ more) p) in
    let size : g + 3 - (place + 1) ≡ g - place + 2 = omega arith in
    rw (one_plain setting bar.label characters.lbot all, run_plain setting bar.label (g - place + 2) characters.hbar all)
    (sym
    (corner_run f place (g + 3) (encode_utf8 characters.lbot) (encode_utf8 characters.hbar) (omega arith)
    (ap encode_utf8 (under_ended setting SingleLine place bar more place here ∙ single_corner setting place))
    (λ p low. ap encode_utf8 (under_ended setting SingleLine place bar more p here ∙ single_line setting place p low))
    ∙ ap (λ n. encode_utf8 characters.lbot ++ repeated n (encode_utf8 characters.hbar)) size))
ended setting BlockFirst place bar more all here lt =
    let g = setting.gutter in
    let characters = setting.theme.characters in
    let f : ℕ → List ℕ = λ p. encode_utf8 (char_under setting BlockFirst place (bar ∷ more) p) in
    let size : g + 2 - (place + 1) ≡ g - place + 1 = omega arith in
    rw (one_plain setting bar.label characters.lbot all, run_plain setting bar.label (g - place + 1) characters.hbar all)
    (sym
    (corner_run f place (g + 2) (encode_utf8 characters.lbot) (encode_utf8 characters.hbar) (omega arith)
    (ap encode_utf8 (under_ended setting BlockFirst place bar more place here ∙ block_corner setting place))
    (λ p low. ap encode_utf8 (under_ended setting BlockFirst place bar more p here ∙ block_line setting place p low))
    ∙ ap (λ n. encode_utf8 characters.lbot ++ repeated n (encode_utf8 characters.hbar)) size))
ended setting BlockRest place bar more all here lt =
    let g = setting.gutter in
    let f : ℕ → List ℕ = λ p. encode_utf8 (char_under setting BlockRest place (bar ∷ more) p) in
    let size : g + 2 - place ≡ g - place + 2 = omega arith in
    sym
    (cells_from_to f place (g + 2) (encode_utf8 0x20) (omega arith)
    (λ p low high. ap encode_utf8 (under_ended setting BlockRest place bar more p here ∙ rest_space setting place p low))
    ∙ ap (λ n. repeated n (encode_utf8 0x20)) size)

enough : (there : Bool) (mode : LabelRenderMode) (width : ℕ) → width + 2 ≤ cond there (ending_places mode width) (width + 3)
enough true SingleLine width = omega arith
enough true BlockFirst width = omega arith
enough true BlockRest width = omega arith
enough false mode width = omega arith

below_is_end : (setting : SettingView) (mode : LabelRenderMode) (place : ℕ) (bar : Bar) (more : List Bar) → ends bar.kind ≡ true
    → below_from setting mode place (bar ∷ more) ≡ ending setting mode place bar.label
unfolding below_from
below_is_end setting mode place bar more here = rw here refl

below_goes_on : (setting : SettingView) (mode : LabelRenderMode) (place : ℕ) (bar : Bar) (more : List Bar) → ends bar.kind ≡ false
    → below_from setting mode place (bar ∷ more) ≡ bar_piece setting bar.label ++ below_from setting mode (place + 1) more
unfolding below_from
below_goes_on setting mode place bar more pass = rw pass refl

below_places : (setting : SettingView) (mode : LabelRenderMode) (place : ℕ) (bars : List Bar) → PlainStyles setting → place + length bars ≤ setting.gutter
    → below_from setting mode place bars ≡ cells (λ p. encode_utf8 (char_under setting mode place bars p)) place (places_under setting mode bars - place)
unfolding below_from bar_piece
below_places setting mode place [] all fits =
    sym (cells_from_to (λ p. encode_utf8 (char_under setting mode place [] p)) place (setting.gutter + 3) (encode_utf8 0x20) (omega arith) (λ p low high. ap encode_utf8 (under_none setting mode place p low)))
below_places setting mode place (bar ∷ more) all fits =
    let f : ℕ → List ℕ = λ p. encode_utf8 (char_under setting mode place (bar ∷ more) p) in
    elim (ends bar.kind) as (λ v. ends bar.kind ≡ v → below_from setting mode place (bar ∷ more) ≡ cells f place (places_under setting mode (bar ∷ more) - place)) [
      | true ↦ λ e.
          let size : places_under setting mode (bar ∷ more) ≡ ending_places mode setting.gutter = ap (λ there. cond there (ending_places mode setting.gutter) (setting.gutter + 3)) (there_first bar more e) in
          below_is_end setting mode place bar more e
          ∙ ended setting mode place bar more all e (omega arith)
          ∙ ap (λ n. cells f place (n - place)) (sym size)
      | false ↦ λ e.
          let n = places_under setting mode more in
          let vbar = encode_utf8 setting.theme.characters.vbar in
          let same : places_under setting mode (bar ∷ more) ≡ n = ap (λ there. cond there (ending_places mode setting.gutter) (setting.gutter + 3)) (still_there bar more e) in
          let size : n - place ≡ suc (n - (place + 1)) = omega (arith, enough (ltb (first_end more) (length more)) mode setting.gutter, fits) in
          below_goes_on setting mode place bar more e
          ∙ ap (λ l. l ++ below_from setting mode (place + 1) more) (one_plain setting bar.label setting.theme.characters.vbar all)
          ∙ ap (λ l. vbar ++ l) (below_places setting mode (place + 1) more all (omega arith))
          ∙ sym
          (ap (λ k. cells f place (k - place)) same
          ∙ ap (cells f place) size
          ∙ cells_first f place (n - (place + 1))
          ∙ ap (λ l. l ++ cells f (place + 1) (n - (place + 1))) (ap encode_utf8 (under_first setting mode place bar more e))
          ∙ ap (λ l. vbar ++ l)
          (cells_agree f (λ p. encode_utf8 (char_under setting mode (place + 1) more p)) (place + 1) (n - (place + 1)) (λ p low high. ap encode_utf8 (under_passed setting mode place bar more p e))))
    ] refl

pub places_below : (setting : SettingView) (bars : List Bar) → HasPlacesUnder setting bars
places_below setting bars mode all some fits =
    let size : places_under setting mode bars - 0 ≡ places_under setting mode bars = omega arith in
    below_some setting mode bars some
    ∙ below_places setting mode 0 bars all (omega arith)
    ∙ ap (cells (λ p. encode_utf8 (char_under setting mode 0 bars p)) 0) size

-- A gutter by its places.
use Rattle.std.proofs.Common.{◌≡◌, ℕ, ◌+◌, ◌-◌, ◌<◌, ◌≤◌, true, false, List, [], ◌∷◌, ◌++◌, length, encode_utf8, get_or, ltb, refl, sym, ap, ◌∙◌, arith, append_assoc, append-nil, suc}
use Rattle.std.proofs.lemmas.Bool.Decides.{nat_tests}
use Rattle.oxc_plan.specs.declared.bars.Bar.{Bar}
use Rattle.oxc_plan.specs.declared.bars.BarKind.TheVariants.{Passes}
use Rattle.oxc_handlers.specs.declared.theme.Style.TheVariants.{Plain}
use Rattle.oxc_handlers.specs.Setting.{SettingView, highlight}
use Rattle.oxc_handlers.specs.Cells.{repeated, cells}
use Rattle.oxc_handlers.specs.Theme.{styled}
use Rattle.oxc_handlers.specs.Gutters.{run_of, bar_piece, passes, corner, turn, gutter_from}
use Rattle.oxc_handlers.specs.Places.{first_turn, char_by, bar_at, char_from, HasPlaces}
use Rattle.oxc_handlers.proofs.CellsLemmas.{cells_between, cells_from_to, cells_at, cells_agree, cells_first, repeated_first, repeated_none}
use Rattle.oxc_handlers.proofs.GuttersLemmas.{gutter_some}

abbrev pub PlainStyles : SettingView → Type 0
PlainStyles setting = (label : ℕ) → highlight setting.theme label ≡ Plain

pub styled_plain : (text : List ℕ) → styled Plain text ≡ text
unfolding styled
styled_plain text = append-nil text

pub run_plain : (setting : SettingView) (label n c : ℕ) → PlainStyles setting → run_of setting label n c ≡ repeated n (encode_utf8 c)
run_plain setting label n c all = ap (λ style. styled style (repeated n (encode_utf8 c))) (all label) ∙ styled_plain (repeated n (encode_utf8 c))

repeated_once : (text : List ℕ) → repeated 1 text ≡ text
repeated_once text = repeated_first 0 text ∙ ap (λ l. text ++ l) (repeated_none text) ∙ append-nil text

pub one_plain : (setting : SettingView) (label c : ℕ) → PlainStyles setting → run_of setting label 1 c ≡ encode_utf8 c
one_plain setting label c all = run_plain setting label 1 c all ∙ repeated_once (encode_utf8 c)

-- the places of the first bar and of the others, where it passes
turn_passed : (bar : Bar) (more : List Bar) → passes bar.kind ≡ true → first_turn (bar ∷ more) ≡ first_turn more + 1
turn_passed bar more pass = rw pass (omega arith)

turn_here : (bar : Bar) (more : List Bar) → passes bar.kind ≡ false → first_turn (bar ∷ more) ≡ 0
turn_here bar more turns = rw turns refl

pub next_lt : (a b : ℕ) → ltb (a + 1) (b + 1) ≡ ltb a b
next_lt a b = grind (arith, nat_tests)

next_at : {A : Type 0} (x : A) (xs : List A) (i : ℕ) (d : A) → get_or (x ∷ xs) (i + 1) d ≡ get_or xs i d
next_at x xs i d = let next : i + 1 ≡ suc i = omega arith in rw next refl

char_passed : (setting : SettingView) (place : ℕ) (bar : Bar) (more : List Bar) (p : ℕ) → passes bar.kind ≡ true
    → char_from setting place (bar ∷ more) p ≡ char_from setting (place + 1) more p
unfolding char_from
char_passed setting place bar more p pass =
    let k = first_turn more in
    let turn = turn_passed bar more pass in
    let here : place + (k + 1) ≡ place + 1 + k = omega arith in
    let size : length (bar ∷ more) ≡ length more + 1 = omega arith in
    ap (λ i. char_by setting (place + i) (ltb i (length (bar ∷ more))) (corner setting (bar_at (bar ∷ more) i)) p) turn
    ∙ ap (λ i. char_by setting i (ltb (k + 1) (length (bar ∷ more))) (corner setting (bar_at (bar ∷ more) (k + 1))) p) here
    ∙ ap (λ there. char_by setting (place + 1 + k) there (corner setting (bar_at (bar ∷ more) (k + 1))) p) (ap (ltb (k + 1)) size ∙ next_lt k (length more))
    ∙ ap (λ b. char_by setting (place + 1 + k) (ltb k (length more)) (corner setting b) p) (next_at bar more k (record { label = 0; kind = Passes }))

char_first : (setting : SettingView) (place : ℕ) (bar : Bar) (more : List Bar) → passes bar.kind ≡ true → char_from setting place (bar ∷ more) place ≡ setting.theme.characters.vbar
unfolding char_from
char_first setting place bar more pass =
    let turn = turn_passed bar more pass in
    let early : ltb place (place + first_turn (bar ∷ more)) ≡ true = grind (arith, nat_tests) in
    rw early refl

char_none : (setting : SettingView) (place p : ℕ) → place ≤ p → char_from setting place [] p ≡ 0x20
unfolding char_from
char_none setting place p le = let late : ltb p (place + 0) ≡ false = grind (arith, nat_tests) in rw late refl

-- where the first bar turns
char_turned : (setting : SettingView) (place : ℕ) (bar : Bar) (more : List Bar) (p : ℕ) → passes bar.kind ≡ false
    → char_from setting place (bar ∷ more) p ≡ char_by setting place true (corner setting bar) p
unfolding char_from
char_turned setting place bar more p turns =
    let here : place + 0 ≡ place = omega arith in
    let some : ltb 0 (length (bar ∷ more)) ≡ true = grind (arith, nat_tests) in
    ap (λ i. char_by setting (place + i) (ltb i (length (bar ∷ more))) (corner setting (bar_at (bar ∷ more) i)) p) (turn_here bar more turns)
    ∙ ap (λ there. char_by setting (place + 0) there (corner setting bar) p) some
    ∙ ap (λ i. char_by setting i true (corner setting bar) p) here

by_corner : (setting : SettingView) (place c : ℕ) → char_by setting place true c place ≡ c
by_corner setting place c = grind (arith, nat_tests)

by_run : (setting : SettingView) (place c p : ℕ) → place < p → p ≤ setting.gutter → char_by setting place true c p ≡ setting.theme.characters.hbar
by_run setting place c p lt le = grind (arith, nat_tests)

by_arrow : (setting : SettingView) (place c p : ℕ) → place < p → p ≡ setting.gutter + 1 → char_by setting place true c p ≡ setting.theme.characters.rarrow
by_arrow setting place c p lt at = grind (arith, nat_tests)

by_end : (setting : SettingView) (place c p : ℕ) → place < p → setting.gutter + 1 < p → char_by setting place true c p ≡ 0x20
by_end setting place c p lt past = grind (arith, nat_tests)

-- the cells from a corner on
turned : (setting : SettingView) (place : ℕ) (bar : Bar) (more : List Bar) → PlainStyles setting → passes bar.kind ≡ false → place < setting.gutter
    → turn setting place bar ≡ cells (λ p. encode_utf8 (char_from setting place (bar ∷ more) p)) place (setting.gutter + 3 - place)
unfolding turn
turned setting place bar more all turns lt =
    let g = setting.gutter in
    let f : ℕ → List ℕ = λ p. encode_utf8 (char_from setting place (bar ∷ more) p) in
    let c = corner setting bar in
    let characters = setting.theme.characters in
    let by : (p : ℕ) → f p ≡ encode_utf8 (char_by setting place true c p) = λ p. ap encode_utf8 (char_turned setting place bar more p turns) in
    let first : cells f place (place + 1 - place) ≡ encode_utf8 c = cells_at f place (place + 1) refl ∙ by place ∙ ap encode_utf8 (by_corner setting place c) in
    let size : g + 1 - (place + 1) ≡ g - place = omega arith in
    let line_run : cells f (place + 1) (g + 1 - (place + 1)) ≡ repeated (g - place) (encode_utf8 characters.hbar) =
    cells_from_to f (place + 1) (g + 1) (encode_utf8 characters.hbar) (omega arith) (λ p low high. by p ∙ ap encode_utf8 (by_run setting place c p (omega arith) (omega arith))) ∙ ap (λ n. repeated n (encode_utf8 characters.hbar)) size in
    let arrow : cells f (g + 1) (g + 2 - (g + 1)) ≡ encode_utf8 characters.rarrow =
    cells_at f (g + 1) (g + 2) (omega arith) ∙ by (g + 1) ∙ ap encode_utf8 (by_arrow setting place c (g + 1) (omega arith) refl) in
    let last : cells f (g + 2) (g + 3 - (g + 2)) ≡ encode_utf8 0x20 =
    cells_at f (g + 2) (g + 3) (omega arith) ∙ by (g + 2) ∙ ap encode_utf8 (by_end setting place c (g + 2) (omega arith) (omega arith)) in
    rw (one_plain setting bar.label c all, run_plain setting bar.label (g - place) characters.hbar all, one_plain setting bar.label characters.rarrow all, repeated_once (encode_utf8 0x20))
    (sym
    (cells_between f place (place + 1) (g + 3) (omega arith) (omega arith)
    ∙ ap (λ l. l ++ cells f (place + 1) (g + 3 - (place + 1))) first
    ∙ ap (λ l. encode_utf8 c ++ l)
    (cells_between f (place + 1) (g + 1) (g + 3) (omega arith) (omega arith)
    ∙ ap (λ l. l ++ cells f (g + 1) (g + 3 - (g + 1))) line_run
    ∙ ap (λ l. repeated (g - place) (encode_utf8 characters.hbar) ++ l)
    (cells_between f (g + 1) (g + 2) (g + 3) (omega arith) (omega arith)
    ∙ ap (λ l. l ++ cells f (g + 2) (g + 3 - (g + 2))) arrow
    ∙ ap (λ l. encode_utf8 characters.rarrow ++ l) last))
    ∙ simp append_assoc refl))

places_from : (setting : SettingView) (place : ℕ) (bars : List Bar) → PlainStyles setting → place + length bars ≤ setting.gutter
    → gutter_from setting place bars ≡ cells (λ p. encode_utf8 (char_from setting place bars p)) place (setting.gutter + 3 - place)
unfolding gutter_from bar_piece
places_from setting place [] all fits =
    sym (cells_from_to (λ p. encode_utf8 (char_from setting place [] p)) place (setting.gutter + 3) (encode_utf8 0x20) (omega arith) (λ p low high. ap encode_utf8 (char_none setting place p low)))
places_from setting place (bar ∷ more) all fits =
    elim (passes bar.kind) as (λ v. passes bar.kind ≡ v → gutter_from setting place (bar ∷ more) ≡ cells (λ p. encode_utf8 (char_from setting place (bar ∷ more) p)) place (setting.gutter + 3 - place)) [
      | true ↦ λ e.
          let f : ℕ → List ℕ = λ p. encode_utf8 (char_from setting place (bar ∷ more) p) in
          let size : setting.gutter + 3 - place ≡ suc (setting.gutter + 3 - (place + 1)) = omega arith in
          let first : f place ≡ encode_utf8 setting.theme.characters.vbar = ap encode_utf8 (char_first setting place bar more e) in
          let rest = places_from setting (place + 1) more all (omega arith) in
          rw (e, one_plain setting bar.label setting.theme.characters.vbar all, rest)
          (sym
          (ap (cells f place) size
          ∙ cells_first f place (setting.gutter + 3 - (place + 1))
          ∙ ap (λ l. l ++ cells f (place + 1) (setting.gutter + 3 - (place + 1))) first
          ∙ ap (λ l. encode_utf8 setting.theme.characters.vbar ++ l)
          (cells_agree f (λ p. encode_utf8 (char_from setting (place + 1) more p)) (place + 1) (setting.gutter + 3 - (place + 1)) (λ p low high. ap encode_utf8 (char_passed setting place bar more p e)))))
      | false ↦ λ e. rw e (turned setting place bar more all e (omega arith))
    ] refl

pub gutter_places : (setting : SettingView) (bars : List Bar) → HasPlaces setting bars
gutter_places setting bars all some fits =
    let size : setting.gutter + 3 - 0 ≡ setting.gutter + 3 = omega arith in
    gutter_some setting bars some ∙ places_from setting 0 bars all (omega arith) ∙ ap (cells (λ p. encode_utf8 (char_from setting 0 bars p)) 0) size

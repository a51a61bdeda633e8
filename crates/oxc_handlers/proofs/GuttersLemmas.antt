-- Steps of gutters.
use Rattle.std.proofs.Common.{◌≡◌, ℕ, ◌+◌, ◌-◌, ◌<◌, ◌≤◌, true, false, List, ◌++◌, length, drop, get_or, encode_utf8, eqb, refl, sym, ap, ◌∙◌, arith, append_assoc, append-nil}
use Rattle.std.proofs.lemmas.Bool.Decides.{nat_tests}
use Rattle.std.proofs.lemmas.List.{at_drop_more, drop_all}
use Rattle.oxc_plan.specs.declared.bars.Bar.{Bar}
use Rattle.oxc_handlers.specs.declared.text_lines.LabelRenderMode.{LabelRenderMode}
use Rattle.oxc_handlers.specs.Setting.{SettingView}
use Rattle.oxc_handlers.specs.Cells.{repeated}
use Rattle.oxc_handlers.specs.Gutters.{bar_piece, passes, ends, turn, gutter_from, gutter, ending, below_from, gutter_below}

pub gutter_zero : (setting : SettingView) (bars : List Bar) (out : List ℕ) → setting.gutter ≡ 0 → out ≡ out ++ gutter setting bars
unfolding gutter
gutter_zero setting bars out e = rw e (sym (append-nil out))

pub gutter_some : (setting : SettingView) (bars : List Bar) → 0 < setting.gutter → gutter setting bars ≡ gutter_from setting 0 bars
unfolding gutter
gutter_some setting bars some = let e : eqb setting.gutter 0 ≡ false = grind (arith, nat_tests) in rw e refl

pub gutter_more : (setting : SettingView) (place : ℕ) (bars : List Bar) (i : ℕ) (d : Bar) (out : List ℕ) → i < length bars → passes (get_or bars i d).kind ≡ true
    → out ++ bar_piece setting (get_or bars i d).label ++ gutter_from setting (place + 1) (drop (i + 1) bars) ≡ out ++ gutter_from setting place (drop i bars)
unfolding gutter_from
gutter_more setting place bars i d out lt pass =
    append_assoc out _ _ ∙ ap (λ l. out ++ l) (sym (at_drop_more (gutter_from setting place) bars i d lt ∙ rw pass refl))

pub gutter_turns : (setting : SettingView) (place : ℕ) (bars : List Bar) (i : ℕ) (d : Bar) → i < length bars → passes (get_or bars i d).kind ≡ false
    → gutter_from setting place (drop i bars) ≡ turn setting place (get_or bars i d)
unfolding gutter_from
gutter_turns setting place bars i d lt pass = at_drop_more (gutter_from setting place) bars i d lt ∙ rw pass refl

pub gutter_none : (setting : SettingView) (place : ℕ) (bars : List Bar) (i : ℕ) → length bars ≤ i → gutter_from setting place (drop i bars) ≡ repeated (setting.gutter + 3 - place) (encode_utf8 0x20)
unfolding gutter_from
gutter_none setting place bars i le = ap (gutter_from setting place) (drop_all i bars le)

pub below_zero : (setting : SettingView) (mode : LabelRenderMode) (bars : List Bar) (out : List ℕ) → setting.gutter ≡ 0 → out ≡ out ++ gutter_below setting mode bars
unfolding gutter_below
below_zero setting mode bars out e = rw e (sym (append-nil out))

pub below_some : (setting : SettingView) (mode : LabelRenderMode) (bars : List Bar) → 0 < setting.gutter → gutter_below setting mode bars ≡ below_from setting mode 0 bars
unfolding gutter_below
below_some setting mode bars some = let e : eqb setting.gutter 0 ≡ false = grind (arith, nat_tests) in rw e refl

pub below_more : (setting : SettingView) (mode : LabelRenderMode) (place : ℕ) (bars : List Bar) (i : ℕ) (d : Bar) (out : List ℕ) → i < length bars → ends (get_or bars i d).kind ≡ false
    → out ++ bar_piece setting (get_or bars i d).label ++ below_from setting mode (place + 1) (drop (i + 1) bars) ≡ out ++ below_from setting mode place (drop i bars)
unfolding below_from
below_more setting mode place bars i d out lt end =
    append_assoc out _ _ ∙ ap (λ l. out ++ l) (sym (at_drop_more (below_from setting mode place) bars i d lt ∙ rw end refl))

pub below_ends : (setting : SettingView) (mode : LabelRenderMode) (place : ℕ) (bars : List Bar) (i : ℕ) (d : Bar) → i < length bars → ends (get_or bars i d).kind ≡ true
    → below_from setting mode place (drop i bars) ≡ ending setting mode place (get_or bars i d).label
unfolding below_from
below_ends setting mode place bars i d lt end = at_drop_more (below_from setting mode place) bars i d lt ∙ rw end refl

pub below_none : (setting : SettingView) (mode : LabelRenderMode) (place : ℕ) (bars : List Bar) (i : ℕ) → length bars ≤ i → below_from setting mode place (drop i bars) ≡ repeated (setting.gutter + 3 - place) (encode_utf8 0x20)
unfolding below_from
below_none setting mode place bars i le = ap (below_from setting mode place) (drop_all i bars le)

-- a row's gutter, bar by bar, and that of a line under it
pub ruleset row_gutter = (gutter_zero, gutter_some, gutter_more, gutter_turns, gutter_none)

pub ruleset under_gutter = (below_zero, below_some, below_more, below_ends, below_none)

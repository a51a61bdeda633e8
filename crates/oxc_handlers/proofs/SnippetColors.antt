-- A colored snippet without its escapes.
use Rattle.std.proofs.Common.{◌≡◌, ℕ, ◌/◌, ◌%◌, ◌+◌, ◌-◌, Bool, true, false, List, [], ◌∷◌, length, reverse, eqb, Some, None, Option, refl, arith, zero, suc, All, IfSome, cond, not, if◌then◌else◌}
use Rattle.std.specs.Prelude.{decimal, nat_le}
use Rattle.std.specs.Fmt.{digits, digits_onto, digit_glyph}
use Rattle.std.specs.List.{onto_first}
use Rattle.std.specs.Option.{option_map_or}
use Rattle.std.specs.Str.{IsUtf8}
use Rattle.std.proofs.lemmas.Bool.Decides.{nat_tests}
use Rattle.oxc_windows.proofs.ListLemmas.{all_cons}
use Rattle.oxc_plan.specs.declared.hangs.Hang.{Hang}
use Rattle.oxc_plan.specs.Plan.{Ordered, RowPlanView, SnippetView}
use Rattle.oxc_handlers.specs.declared.text_lines.LabelRenderMode.{LabelRenderMode}
use Rattle.oxc_handlers.specs.declared.text_lines.LabelRenderMode.TheVariants.{BlockRest}
use Rattle.oxc_handlers.specs.Theme.{unicode_theme, unicode_nocolor_theme}
use Rattle.oxc_handlers.specs.Setting.{SettingView, text_at}
use Rattle.oxc_handlers.specs.Texts.{shown_text}
use Rattle.oxc_handlers.specs.RowLines.{padded, row_front, row_line, modes_from, first_mode, with_modes, lines_of, label_lines, hang_line, hang_lines, end_line, end_lines, row_lines}
use Rattle.oxc_handlers.specs.Snippet.{setting_of, location, head_text, head, close, drawn_snippet}
use Rattle.oxc_handlers.specs.Colors.{has_no_escape, DiffersInColorsOnly}
use Rattle.oxc_handlers.proofs.ShownBytes.{shown_passes}
use Rattle.oxc_handlers.proofs.StripsColors.{Strips, strips-append, strips-clean, strips-whole, strips-repeated, strips-flat_map, strips-flat_map_all, strips-styled}
use Rattle.oxc_handlers.proofs.LinesColors.{colored, bare, strips-if, strips-spaces, strips-gutter, strips-marks_line, strips-hang_line, strips-end_line, clean-20, clean-0A, clean-3A, clean-5B, clean-5D, clean-2502, clean-256D, clean-2500, clean-2570}

-- a number has digits alone
clean_glyph : (n : ℕ) → eqb (digit_glyph false n) 27 ≡ false
clean_glyph n = grind (arith, nat_tests)

clean_if : (b : Bool) (x y : List ℕ) → has_no_escape x ≡ true → has_no_escape y ≡ true → has_no_escape (if b then x else y) ≡ true
clean_if true x y cx cy = cx
clean_if false x y cx cy = cy

clean_digits : (k n : ℕ) (behind : List ℕ) → has_no_escape behind ≡ true → has_no_escape (digits_onto k 10 false n behind) ≡ true
clean_digits zero n behind clean = clean
clean_digits (suc k) n behind clean =
    let more : has_no_escape (digit_glyph false (n % 10) ∷ behind) ≡ true = rw (clean_glyph (n % 10)) clean in
    clean_if (eqb (n / 10) 0) _ _ more (clean_digits k (n / 10) (digit_glyph false (n % 10) ∷ behind) more)

clean-decimal : (n : ℕ) → Strips (decimal n) (decimal n)
unfolding digits
clean-decimal n = strips-clean (decimal n) (clean_digits 64 n [] refl)

strips-padded : (s : SettingView) (n : ℕ) → Strips (padded (colored s) n) (padded (bare s) n)
unfolding padded
strips-padded s n = strips-styled unicode_theme.styles.linum _ _ (strips-append _ _ _ _ (strips-spaces (s.digits - length (decimal n))) (clean-decimal n))

strips-row_line : (s : SettingView) (row : RowPlanView) → has_no_escape (shown_text s.tab row.row.text) ≡ true → Strips (row_line (colored s) row) (row_line (bare s) row)
unfolding row_line row_front
strips-row_line s row clean =
    strips-append _ _ _ _ (strips-append _ _ _ _ (strips-append _ _ _ _
    (strips-append _ _ _ _ (strips-append _ _ _ _ (strips-append _ _ _ _ (strips-append _ _ _ _ clean-20 (strips-padded s row.row.number)) clean-20) clean-2502) clean-20)
    (strips-gutter s row.bars)) (strips-clean (shown_text s.tab row.row.text) clean)) clean-0A

-- the lines of a text without ESC have none
abbrev Clean : List ℕ → Type 0
Clean text = has_no_escape text ≡ true

all_tail : {X : Type 0} (P : X → Type 0) (x : X) (xs : List X) → All P (x ∷ xs) → All P xs
all_tail P x xs all k d lt = all (suc k) d (omega arith)

clean_onto : (b : ℕ) (parts : List (List ℕ)) → eqb b 0x1B ≡ false → All Clean parts → All Clean (onto_first b parts)
clean_onto b [] other all = all_cons Clean (b ∷ []) [] (rw other refl) all
clean_onto b (part ∷ parts) other all = all_cons Clean (b ∷ part) parts (rw other (all 0 part (omega arith))) (all_tail Clean part parts all)

clean_lines : (text : List ℕ) → Clean text → All Clean (lines_of text)
clean_lines [] clean = all_cons Clean [] [] refl (λ k d lt. absurd (omega arith))
clean_lines (b ∷ text) clean =
    elim (eqb b 0x1B) as (λ v. eqb b 0x1B ≡ v → All Clean (lines_of (b ∷ text))) [
      | true ↦ λ e. let no : false ≡ true = (rw e at clean) in cc
      | false ↦ λ e.
          let rest = clean_lines text (rw e at clean) in
          elim (eqb b 10) as (λ v. All Clean (cond v ([] ∷ lines_of text) (onto_first b (lines_of text)))) [
            | true ↦ all_cons Clean [] (lines_of text) refl rest
            | false ↦ clean_onto b (lines_of text) e rest
          ]
    ] refl

clean_modes : (mode : LabelRenderMode) (lines : List (List ℕ)) → All Clean lines → All {X = LabelRenderMode × List ℕ} (λ p. Clean p.1) (modes_from mode lines)
clean_modes mode [] all k d lt = absurd (omega arith)
clean_modes mode (line ∷ more) all zero d lt = all 0 line (omega arith)
clean_modes mode (line ∷ more) all (suc k) d lt = clean_modes BlockRest more (all_tail Clean line more all) k d (omega arith)

clean_option : (text : Option (List ℕ)) → IfSome text Clean → All {X = LabelRenderMode × List ℕ} (λ p. Clean p.1) (option_map_or (λ t. with_modes (lines_of t)) text [])
clean_option None clean = λ k d lt. absurd (omega arith)
clean_option (Some text) clean = clean_modes (first_mode (length (lines_of text))) (lines_of text) (clean_lines text clean)

clean_text_at : (labels : List Ordered) (i : ℕ) → All (λ l. IfSome l.text Clean) labels → IfSome (text_at labels i) Clean
unfolding text_at
clean_text_at [] i all = tt
clean_text_at (l ∷ labels) zero all = all 0 l (omega arith)
clean_text_at (l ∷ labels) (suc i) all = clean_text_at labels i (all_tail (λ l. IfSome l.text Clean) l labels all)

clean_label : (s : SettingView) (label : ℕ) → All (λ l. IfSome l.text Clean) s.labels → All {X = LabelRenderMode × List ℕ} (λ p. Clean p.1) (label_lines s label)
unfolding label_lines
clean_label s label all = clean_option (text_at s.labels label) (clean_text_at s.labels label all)

strips-hang_lines : (s : SettingView) (row : RowPlanView) (hang : Hang) → All (λ l. IfSome l.text Clean) s.labels → Strips (hang_lines (colored s) row hang) (hang_lines (bare s) row hang)
unfolding hang_lines label_lines
strips-hang_lines s row hang all =
    strips-flat_map_all (λ p. Clean p.1) (hang_line (colored s) row hang) (hang_line (bare s) row hang) (label_lines s hang.label) (clean_label s hang.label all)
    (λ p clean. strips-hang_line s row hang p (strips-clean p.1 clean))

strips-end_lines : (s : SettingView) (row : RowPlanView) (label : ℕ) → All (λ l. IfSome l.text Clean) s.labels → Strips (end_lines (colored s) row label) (end_lines (bare s) row label)
unfolding end_lines label_lines
strips-end_lines s row label all =
    strips-flat_map_all (λ p. Clean p.1) (end_line (colored s) row label) (end_line (bare s) row label) (label_lines s label) (clean_label s label all)
    (λ p clean. strips-end_line s row label p (strips-clean p.1 clean))

abbrev CleanRow : RowPlanView → Type 0
CleanRow row = IsUtf8 row.row.text × Clean row.row.text

strips-row : (s : SettingView) (row : RowPlanView) → All (λ l. IfSome l.text Clean) s.labels → CleanRow row → Strips (row_lines (colored s) row) (row_lines (bare s) row)
unfolding row_lines
strips-row s row all (utf8, clean) =
    strips-append _ _ _ _ (strips-append _ _ _ _ (strips-append _ _ _ _ (strips-row_line s row (shown_passes (λ b. not (eqb b 0x1B)) refl s.tab row.row.text utf8 clean)) (strips-marks_line s row))
    (strips-flat_map (hang_lines (colored s) row) (hang_lines (bare s) row) (reverse row.hangs) (λ hang. strips-hang_lines s row hang all)))
    (strips-flat_map (end_lines (colored s) row) (end_lines (bare s) row) row.ends (λ label. strips-end_lines s row label all))

strips-location : (snippet : SnippetView) → Strips (location snippet) (location snippet)
unfolding location
strips-location snippet = strips-append _ _ _ _ (strips-append _ _ _ _ (clean-decimal snippet.head_line) clean-3A) (clean-decimal snippet.head_column)

strips-head_text : (s : SettingView) (snippet : SnippetView) (name : Option (List ℕ)) → IfSome name Clean → Strips (head_text (colored s) snippet name) (head_text (bare s) snippet name)
unfolding head_text
strips-head_text s snippet (Some name) clean =
    strips-append _ _ _ _ (strips-append _ _ _ _ (strips-append _ _ _ _ (strips-append _ _ _ _ clean-5B (strips-styled unicode_theme.styles.link _ _ (strips-clean name clean))) clean-3A) (strips-location snippet)) clean-5D
strips-head_text s snippet None clean =
    strips-if (nat_le 2 (length snippet.rows)) _ _ _ _
    (strips-append _ _ _ _ (strips-append _ _ _ _ clean-5B (strips-location snippet)) clean-5D)
    (strips-repeated 3 _ _ clean-2500)

strips-head : (s : SettingView) (snippet : SnippetView) (name : Option (List ℕ)) → IfSome name Clean → Strips (head (colored s) snippet name) (head (bare s) snippet name)
unfolding head
strips-head s snippet name clean =
    strips-append _ _ _ _ (strips-append _ _ _ _ (strips-append _ _ _ _ (strips-append _ _ _ _ (strips-spaces (s.digits + 2)) clean-256D) clean-2500) (strips-head_text s snippet name clean)) clean-0A

strips-close : (s : SettingView) → Strips (close (colored s)) (close (bare s))
unfolding close
strips-close s =
    strips-append _ _ _ _ (strips-append _ _ _ _ (strips-append _ _ _ _ (strips-spaces (s.digits + 2)) clean-2570) (strips-repeated 4 _ _ clean-2500)) clean-0A

pub snippet_unstyled : (tab : ℕ) (labels : List Ordered) (name : Option (List ℕ)) (snippet : SnippetView) → DiffersInColorsOnly tab labels name snippet
unfolding drawn_snippet
snippet_unstyled tab labels name snippet plain =
    let s : SettingView = setting_of unicode_theme tab labels snippet in
    strips-whole (drawn_snippet unicode_theme tab labels name snippet) (drawn_snippet unicode_nocolor_theme tab labels name snippet)
    (strips-append _ _ _ _ (strips-append _ _ _ _ (strips-head s snippet name plain.file)
    (strips-flat_map_all CleanRow (row_lines (colored s)) (row_lines (bare s)) snippet.rows plain.rows (λ row ok. strips-row s row plain.texts ok)))
    (strips-close s))

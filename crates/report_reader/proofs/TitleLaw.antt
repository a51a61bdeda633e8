-- A title of one line, drawn under the plain theme.
use Rattle.std.proofs.Common.{◌≡◌, ℕ, ◌-◌, ◌==◌, true, false, List, [], ◌∷◌, ◌++◌, length, slice_index, encode_utf8, if◌then◌else◌, refl, sym, ap, subst, ◌∙◌, arith, suc}
use Rattle.std.specs.Str.{IsUtf8}
use Rattle.oxc_protocol.specs.declared.protocol.Severity.{Severity}
use Rattle.oxc_protocol.specs.declared.protocol.Severity.TheVariants.{Error, Warning, Advice}
use Rattle.oxc_handlers.specs.Report as drawn
use Rattle.oxc_handlers.specs.Report.{Plan, severity_style, title, title_indent}
use Rattle.oxc_handlers.specs.Theme.{none_theme, styled}
use Rattle.report_reader.specs.ReadsBack.{IsLine, filled_title}
use Rattle.report_reader.specs.Shown as seen
use Rattle.report_reader.specs.Title.{kept, without_last_spaces}
use Rattle.report_reader.specs.WellFormed.{ends_in_space}
use Rattle.report_reader.proofs.PlainTheme.{newline, styled_plain}
use Rattle.report_reader.proofs.TitleLemmas.{one_line}
use Rattle.report_reader.proofs.TitleWords.{has_no_last}

style_is : (severity : Severity) (text : List ℕ) → styled (severity_style none_theme severity) text ≡ text
unfolding severity_style
style_is Error text = styled_plain text
style_is Warning text = styled_plain text
style_is Advice text = styled_plain text

indent_is : (severity : Severity) → title_indent none_theme severity (drawn.icon none_theme severity) ≡ 0x20 ∷ 0x20 ∷ seen.icon severity ∷ 0x20 ∷ []
unfolding title_indent severity_style drawn.icon styled lib.Utf8.encode
indent_is Error = refl
indent_is Warning = refl
indent_is Advice = refl

line_is : (severity : Severity) (text : List ℕ) → title_indent none_theme severity (drawn.icon none_theme severity) ++ without_last_spaces (styled (severity_style none_theme severity) text) ≡ seen.title_line severity (without_last_spaces text)
unfolding seen.title_line
line_is severity text =
    ap (λ t. title_indent none_theme severity (drawn.icon none_theme severity) ++ without_last_spaces t) (style_is severity text)
    ∙ ap (λ indent. indent ++ without_last_spaces text) (indent_is severity)

filled_is : (width : ℕ) (plan : Plan) → IsUtf8 plan.title → IsLine (filled_title width plan) → filled_title width plan ≡ seen.title_line plan.severity (without_last_spaces plan.title)
filled_is width plan utf8 line =
    one_line (width - 2) (title_indent none_theme plan.severity (drawn.icon none_theme plan.severity)) (title_indent none_theme plan.severity none_theme.characters.vbar)
    (styled (severity_style none_theme plan.severity) plan.title) (subst IsUtf8 (sym (style_is plan.severity plan.title)) utf8) line
    ∙ line_is plan.severity plan.title

pub title_is : (width : ℕ) (plan : Plan) → IsUtf8 plan.title → IsLine (filled_title width plan) → title none_theme width plan ≡ seen.title_line plan.severity (without_last_spaces plan.title) ++ 0x0A ∷ []
unfolding title
title_is width plan utf8 line = rw newline (ap (λ l. l ++ 0x0A ∷ []) (filled_is width plan utf8 line))

pub title_line_is : (width : ℕ) (plan : Plan) → IsUtf8 plan.title → IsLine (filled_title width plan) → IsLine (without_last_spaces plan.title)
unfolding seen.title_line
title_line_is width plan utf8 line =
    has_no_last 0x0A (0x20 ∷ 0x20 ∷ seen.icon plan.severity ∷ 0x20 ∷ []) (without_last_spaces plan.title) (subst IsLine (filled_is width plan utf8 line) line)

kept_ends : (b : ℕ) (rest : List ℕ) → ends_in_space rest ≡ false → ends_in_space (kept b rest) ≡ false
kept_ends b [] ends =
    elim (b == 0x20) as (λ v. (b == 0x20) ≡ v → ends_in_space (if v then [] else b ∷ []) ≡ false) [
      | true ↦ λ e. refl
      | false ↦ λ e. e
    ] refl
kept_ends b (c ∷ text) ends =
    let next : length (b ∷ c ∷ text) - 1 ≡ suc (length (c ∷ text) - 1) = omega arith in
    ap (λ n. slice_index (b ∷ c ∷ text) n == 0x20) next ∙ ends

pub ends_well : (text : List ℕ) → ends_in_space (without_last_spaces text) ≡ false
unfolding without_last_spaces
ends_well [] = refl
ends_well (b ∷ text) = kept_ends b (without_last_spaces text) (ends_well text)

-- A title that is one line, written straight behind what stands.
use Rattle.std.proofs.Common.{◌≡◌, ℕ, ◌+◌, ◌-◌, ◌≤◌, List, ◌++◌, length, take, drop, refl, sym, ap, subst, ◌∙◌, arith, append_assoc, length-append, take_at, drop_at, IsUtf8, IsCharBoundary}
use Rattle.std.proofs.lemmas.Str.{IsCharBoundary-from_take, IsUtf8-drop}
use Rattle.textwrap.specs.Filled.{filled}
use Rattle.textwrap.specs.OneLine.{FitsOnLine}
use Rattle.textwrap.proofs.OneLine.{fits_is_line}

-- a text may be cut where what stood before ended
pub cut_behind : (before more text : List ℕ) → IsUtf8 before → IsUtf8 text → text ≡ before ++ more → IsCharBoundary text (length before)
cut_behind before more text utf8_before utf8 e =
    let front : take (length before) text ≡ before = ap (λ l. take (length before) l) e ∙ take_at before more (length before) refl in
    IsCharBoundary-from_take text (length before) utf8 (omega (arith, ap length e, length-append before more)) (subst IsUtf8 (sym front) utf8_before)

more_utf8 : (before more text : List ℕ) → IsUtf8 before → IsUtf8 text → text ≡ before ++ more → IsUtf8 more
more_utf8 before more text utf8_before utf8 e =
    let rest : drop (length before) text ≡ more = ap (λ l. drop (length before) l) e ∙ drop_at before more (length before) refl in
    subst IsUtf8 rest (IsUtf8-drop text (length before) utf8 (cut_behind before more text utf8_before utf8 e))

pub titled : (done fronted text out lf : List ℕ) (width : ℕ) (first later title : List ℕ) → IsUtf8 done → IsUtf8 fronted → IsUtf8 text
    → fronted ≡ done ++ first → text ≡ fronted ++ title → FitsOnLine (width - (length fronted - length done)) (drop (length fronted) text) → out ≡ text ++ lf
    → out ≡ done ++ (filled width first later title ++ lf)
titled done fronted text out lf width first later title utf8_done utf8_fronted utf8 is_fronted is_text fit is_out =
    let rest : drop (length fronted) text ≡ title = ap (λ l. drop (length fronted) l) is_text ∙ drop_at fronted title (length fronted) refl in
    let size : length fronted - length done ≡ length first = omega (arith, ap length is_fronted, length-append done first) in
    let fits : FitsOnLine (width - length first) title = subst (λ l. FitsOnLine (width - length first) l) rest (subst (λ n. FitsOnLine (width - n) (drop (length fronted) text)) size fit) in
    let line = fits_is_line width first later title (more_utf8 done first fronted utf8_done utf8_fronted is_fronted) (more_utf8 fronted title text utf8_fronted utf8 is_text) fits in
    is_out
    ∙ ap (λ l. l ++ lf) (is_text ∙ ap (λ l. l ++ title) is_fronted ∙ append_assoc done first title ∙ ap (λ l. done ++ l) (sym line))
    ∙ append_assoc done (filled width first later title) lf

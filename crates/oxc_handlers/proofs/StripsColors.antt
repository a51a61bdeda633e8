-- Texts that become others without their escapes.
use Rattle.std.proofs.Common.{◌≡◌, ℕ, ◌%◌, true, false, List, [], ◌∷◌, ◌++◌, replicate, get_or, eqb, refl, sym, ap, ◌∙◌, arith, append_assoc, append-nil, zero, suc, All}
use Rattle.std.specs.List.{concat, flat_map, range_with_len}
use Rattle.oxc_handlers.specs.declared.theme.Style.{Style}
use Rattle.oxc_handlers.specs.declared.theme.Style.TheVariants.{Plain, Error, Warning, Info, Link, LineNumber, Highlight1, Highlight2, Highlight3}
use Rattle.oxc_handlers.specs.Theme.{prefix_of, reset_of, styled, unicode_theme, unicode_nocolor_theme}
use Rattle.oxc_handlers.specs.Setting.{highlight}
use Rattle.oxc_handlers.specs.Cells.{repeated, cells}
use Rattle.oxc_handlers.specs.Colors.{unstyled, unstyled_from, has_no_escape}

-- whatever follows, a text becomes another
abbrev pub Strips : List ℕ → List ℕ → Type 0
Strips text bare = (rest : List ℕ) → unstyled (text ++ rest) ≡ bare ++ unstyled rest

pub strips-nil : Strips [] []
strips-nil rest = refl

pub strips-append : (a b c d : List ℕ) → Strips a b → Strips c d → Strips (a ++ c) (b ++ d)
strips-append a b c d ab cd rest =
    ap unstyled (append_assoc a c rest) ∙ ab (c ++ rest) ∙ ap (λ l. b ++ l) (cd rest) ∙ sym (append_assoc b d (unstyled rest))

pub strips-whole : (a b : List ℕ) → Strips a b → unstyled a ≡ b
unfolding unstyled_from
strips-whole a b strips = ap unstyled (sym (append-nil a)) ∙ strips [] ∙ append-nil b

pub strips-clean : (a : List ℕ) → has_no_escape a ≡ true → Strips a a
unfolding unstyled_from
strips-clean [] clean rest = refl
strips-clean (b ∷ a) clean rest =
    elim (eqb b 0x1B) as (λ v. eqb b 0x1B ≡ v → unstyled (b ∷ a ++ rest) ≡ b ∷ a ++ unstyled rest) [
      | true ↦ λ e. let no : false ≡ true = (rw e at clean) in cc
      | false ↦ λ e. rw e (ap (λ l. b ∷ l) (strips-clean a (rw e at clean) rest))
    ] refl

pub strips-repeated : (n : ℕ) (a b : List ℕ) → Strips a b → Strips (repeated n a) (repeated n b)
unfolding repeated
strips-repeated zero a b ab = strips-nil
strips-repeated (suc n) a b ab = strips-append a b (concat (replicate n a)) (concat (replicate n b)) ab (strips-repeated n a b ab)

pub strips-flat_map : {X : Type 0} (f g : X → List ℕ) (xs : List X) → ((x : X) → Strips (f x) (g x)) → Strips (flat_map f xs) (flat_map g xs)
strips-flat_map f g [] each = strips-nil
strips-flat_map f g (x ∷ xs) each = strips-append (f x) (g x) (flat_map f xs) (flat_map g xs) (each x) (strips-flat_map f g xs each)

pub strips-flat_map_all : {X : Type 0} (P : X → Type 0) (f g : X → List ℕ) (xs : List X) → All P xs → ((x : X) → P x → Strips (f x) (g x)) → Strips (flat_map f xs) (flat_map g xs)
strips-flat_map_all P f g [] all each = strips-nil
strips-flat_map_all P f g (x ∷ xs) all each =
    strips-append (f x) (g x) (flat_map f xs) (flat_map g xs) (each x (all 0 x (omega arith)))
    (strips-flat_map_all P f g xs (λ k d lt. all (suc k) d (omega arith)) each)

pub strips-cells : (f g : ℕ → List ℕ) (a n : ℕ) → ((c : ℕ) → Strips (f c) (g c)) → Strips (cells f a n) (cells g a n)
unfolding cells
strips-cells f g a n each = strips-flat_map f g (range_with_len a n) each

-- what a style adds is taken out
prefix_out : (style : Style) → Strips (prefix_of style) []
unfolding unstyled_from
prefix_out Plain rest = refl
prefix_out Error rest = refl
prefix_out Warning rest = refl
prefix_out Info rest = refl
prefix_out Link rest = refl
prefix_out LineNumber rest = refl
prefix_out Highlight1 rest = refl
prefix_out Highlight2 rest = refl
prefix_out Highlight3 rest = refl

reset_out : (style : Style) → Strips (reset_of style) []
unfolding unstyled_from
reset_out Plain rest = refl
reset_out Error rest = refl
reset_out Warning rest = refl
reset_out Info rest = refl
reset_out Link rest = refl
reset_out LineNumber rest = refl
reset_out Highlight1 rest = refl
reset_out Highlight2 rest = refl
reset_out Highlight3 rest = refl

pub strips-styled : (style : Style) (a b : List ℕ) → Strips a b → Strips (styled style a) (styled Plain b)
unfolding styled
strips-styled style a b ab =
    strips-append (prefix_of style ++ a) ([] ++ b) (reset_of style) [] (strips-append (prefix_of style) [] a b (prefix_out style) ab) (reset_out style)

highlight_plain : (i : ℕ) → get_or unicode_nocolor_theme.styles.highlights i Plain ≡ Plain
highlight_plain zero = refl
highlight_plain (suc zero) = refl
highlight_plain (suc (suc zero)) = refl
highlight_plain (suc (suc (suc i))) = refl

pub strips-highlight : (label : ℕ) (a b : List ℕ) → Strips a b → Strips (styled (highlight unicode_theme label) a) (styled (highlight unicode_nocolor_theme label) b)
unfolding highlight
strips-highlight label a b ab =
    rw (highlight_plain (label % 3)) (strips-styled (get_or unicode_theme.styles.highlights (label % 3) Plain) a b ab)

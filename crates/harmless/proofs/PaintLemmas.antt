-- Lines that keep their paint.
use Rattle.std.proofs.Common.{◌≡◌, ℕ, Bool, true, false, ◌||◌, ◌==◌, if◌then◌else◌, List, [], ◌∷◌, ◌++◌, map, refl, sym, subst, codes, ap, ap₂, ◌∙◌}
use Rattle.std.proofs.lemmas.Bool.{ne_eqb, or_parts}
use Rattle.std.specs.List.{list_any}
use Rattle.std.specs.Str.{IsUtf8, chars, encode_utf8_all}
use Rattle.harmless.specs.declared.Kind.TheVariants.{Prose}
use Rattle.harmless.specs.Harmless.{harmless, harmless_char, is_high_control, is_layout, is_low_control, turns_direction}
use Rattle.harmless.specs.Paint.{harmless_line, is_escape, painted_from, paint_len, with_end}

-- a text without ESC has no paint
plain_from : (cs : List ℕ) → list_any is_escape cs ≡ false → painted_from 0 cs ≡ map (λ c. harmless_char Prose c) cs
unfolding painted_from
plain_from [] none = refl
plain_from (c ∷ cs) none =
    let parts = or_parts (is_escape c) (list_any is_escape cs) none in
    rw parts.0 (ap (λ rest. harmless_char Prose c ∷ rest) (plain_from cs parts.1))

-- no harmless character is an ESC
unpainted : (c : ℕ) → is_escape (harmless_char Prose c) ≡ false
unfolding harmless_char
unpainted c = go (is_layout Prose c) refl (is_low_control c) refl (is_high_control c) (turns_direction c)
  where
    go : (layout : Bool) → is_layout Prose c ≡ layout → (low : Bool) → is_low_control c ≡ low → (high turns : Bool)
        → is_escape (if layout then c else if low then 0x3F else if high then 0xBF else if turns then 0xFFFD else c) ≡ false
    go true is low says high turns = ne_eqb c 0x1B (λ e. let no : false ≡ true = subst (λ d. is_layout Prose d ≡ true) e is in cc)
    go false is true says high turns = refl
    go false is false says true turns = refl
    go false is false says false true = refl
    go false is false says false false = ne_eqb c 0x1B (λ e. let no : true ≡ false = subst (λ d. is_low_control d ≡ false) e says in cc)

all_unpainted : (cs : List ℕ) → list_any is_escape (map (λ c. harmless_char Prose c) cs) ≡ false
all_unpainted [] = refl
all_unpainted (c ∷ cs) = rw (unpainted c) (all_unpainted cs)

pub plain_line : (line : List ℕ) → list_any is_escape (chars line) ≡ false → harmless Prose line ≡ harmless_line line
unfolding harmless harmless_line
plain_line line none =
    let cs = map (λ c. harmless_char Prose c) (chars line) in
    ap encode_utf8_all (sym (ap with_end (plain_from (chars line) none) ∙ ap (λ b. if b then cs ++ 0x1B ∷ codes "[0m" else cs) (all_unpainted (chars line))))

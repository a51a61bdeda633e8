-- Steps of a drawn text.
use Rattle.std.proofs.Common.{◌≡◌, ℕ, ◌+◌, ◌≤◌, List, [], ◌∷◌, ◌++◌, fold, length, refl, sym, ap, ◌∙◌, arith, append_assoc, append-nil}
use Rattle.std.specs.Prelude.{encode_utf8}
use Rattle.std.specs.List.{flat_map}
use Rattle.std.specs.Str.{chars, IsUtf8}
use Rattle.std.proofs.lemmas.Str.{chars_past_char, encodes-chars, length-le-encodes}
use Rattle.oxc_plan.specs.declared.columns.Pen.{Pen}
use Rattle.oxc_plan.specs.Width.{with_lead, led, moved}
use Rattle.oxc_handlers.specs.Texts.{shown_char, shown_from}
-- the pen over a character, and the room that is left for it
pub use Rattle.oxc_plan.proofs.WidthLemmas.{char_step, one_char_less, few_chars}

pub shown_none : (tab : ℕ) (pen : Pen) (out : List ℕ) → out ++ shown_from tab pen [] ≡ out
unfolding shown_from
shown_none tab pen out = append-nil out

shown_first : (tab : ℕ) (pen : Pen) (p : ℕ × ℕ) (more : List (ℕ × ℕ)) → shown_from tab pen (p ∷ more) ≡ shown_char tab pen p.1 ++ shown_from tab (moved tab pen p) more
unfolding shown_from
shown_first tab pen p more = refl

pub shown_append : (tab : ℕ) (pen : Pen) (xs ys : List (ℕ × ℕ)) → shown_from tab pen (xs ++ ys) ≡ shown_from tab pen xs ++ shown_from tab (fold (moved tab) pen xs) ys
unfolding shown_from
shown_append tab pen [] ys = refl
shown_append tab pen (x ∷ xs) ys =
    ap (λ l. shown_char tab pen x.1 ++ l) (shown_append tab (moved tab pen x) xs ys)
    ∙ sym (append_assoc (shown_char tab pen x.1) (shown_from tab (moved tab pen x) xs) (shown_from tab (fold (moved tab) (moved tab pen x) xs) ys))

-- one character more
pub shown_step : (out : List ℕ) (tab : ℕ) (pen : Pen) (lead c : ℕ) (bytes rest : List ℕ) → IsUtf8 bytes → bytes ≡ encode_utf8 c ++ rest
    → out ++ shown_char tab pen c ++ shown_from tab (moved tab pen (lead, c)) (with_lead 0 (chars rest)) ≡ out ++ shown_from tab pen (with_lead lead (chars bytes))
shown_step out tab pen lead c bytes rest utf8 e =
    append_assoc out _ _
    ∙ ap (λ l. out ++ l) (sym (shown_first tab pen (lead, c) (with_lead 0 (chars rest))) ∙ ap (λ cs. shown_from tab pen (with_lead lead cs)) (sym (chars_past_char bytes rest c utf8 e)))

-- one cluster more
pub shown_cluster : (out : List ℕ) (tab : ℕ) (pen : Pen) (cluster : List ℕ) (clusters : List (List ℕ))
    → out ++ shown_from tab pen (led cluster) ++ shown_from tab (fold (moved tab) pen (led cluster)) (flat_map led clusters) ≡ out ++ shown_from tab pen (flat_map led (cluster ∷ clusters))
shown_cluster out tab pen cluster clusters =
    append_assoc out _ _ ∙ ap (λ l. out ++ l) (sym (shown_append tab pen (led cluster) (flat_map led clusters)))

-- a text, cluster by cluster
pub ruleset clusters_one_by_one = (shown_cluster, shown_none)

-- One step over a character, and one over a cluster.
use Rattle.std.proofs.Common.{◌≡◌, ℕ, ◌+◌, ◌≤◌, Bool, List, ◌∷◌, ◌++◌, length, fold, sym, ap, arith}
use Rattle.std.specs.Prelude.{encode_utf8}
use Rattle.std.specs.List.{flat_map}
use Rattle.std.specs.Str.{chars, IsUtf8}
use Rattle.std.proofs.lemmas.Bool.Decides.{nat_tests}
use Rattle.std.proofs.lemmas.List.Sums.{fold-append}
use Rattle.std.proofs.lemmas.Str.{chars_past_char, length-le-encodes, encodes-chars}
use Rattle.oxc_plan.specs.declared.columns.Pen.{Pen}
use Rattle.oxc_plan.specs.Width.{advance_of, with_lead, led, moved}

pub char_step : (tab : ℕ) (pen : Pen) (lead c : ℕ) (bytes rest : List ℕ) → IsUtf8 bytes → bytes ≡ encode_utf8 c ++ rest
    → fold (moved tab) (moved tab pen (lead, c)) (with_lead 0 (chars rest)) ≡ fold (moved tab) pen (with_lead lead (chars bytes))
char_step tab pen lead c bytes rest utf8 e = ap (λ cs. fold (moved tab) pen (with_lead lead cs)) (sym (chars_past_char bytes rest c utf8 e))

pub one_char_less : (c : ℕ) (bytes rest : List ℕ) → IsUtf8 bytes → bytes ≡ encode_utf8 c ++ rest → length (chars bytes) ≡ length (chars rest) + 1
one_char_less c bytes rest utf8 e = omega (arith, ap length (chars_past_char bytes rest c utf8 e))

pub advance_of-le : (tab : ℕ) (in_escape : Bool) (column lead c : ℕ) → tab ≤ 16 → advance_of tab in_escape column lead c ≤ lead + 16
advance_of-le tab in_escape column lead c most = grind (arith, nat_tests)

pub few_chars : (bytes : List ℕ) → IsUtf8 bytes → length (chars bytes) ≤ length bytes
few_chars bytes utf8 = omega (arith, length-le-encodes (chars bytes), ap length (encodes-chars bytes utf8))

pub cluster_step : (tab : ℕ) (pen : Pen) (cluster : List ℕ) (clusters : List (List ℕ))
    → fold (moved tab) (fold (moved tab) pen (led cluster)) (flat_map led clusters) ≡ fold (moved tab) pen (flat_map led (cluster ∷ clusters))
cluster_step tab pen cluster clusters = sym (fold-append (moved tab) pen (led cluster) (flat_map led clusters))

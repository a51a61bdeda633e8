-- Characters of a row, one after another.
use Rattle.std.proofs.Common.{◌≡◌, ℕ, ◌+◌, ◌<◌, ◌≤◌, List, [], ◌∷◌, ◌++◌, length, refl, sym, ap, ◌∙◌, subst, arith}
use lib.Utf8.{encode}
use Rattle.std.specs.Str.{IsUtf8, chars}
use Rattle.std.proofs.lemmas.Bool.{le-leb, lt-leb}
use Rattle.std.proofs.lemmas.Str.{chars_past_char}
use Rattle.json_reports.specs.declared.cells.Cells.{Cells}
use Rattle.json_reports.specs.Cells.{passed, width}

pub passed_go : (cells : Cells) (count at c w : ℕ) (bytes rest : List ℕ) → IsUtf8 bytes → bytes ≡ encode c ++ rest → w ≡ width cells at c → at + w ≤ count
    → passed cells count at (chars bytes) ≡ passed cells count (at + w) (chars rest) + 1
unfolding passed
passed_go cells count at c w bytes rest utf8 is wide fits =
    ap (passed cells count at) (chars_past_char bytes rest c utf8 is)
    ∙ subst (λ k. passed cells count at (c ∷ chars rest) ≡ passed cells count (at + k) (chars rest) + 1) (sym wide)
    (let fit : at + width cells at c ≤ count = subst (λ k. at + k ≤ count) wide fits in rw (le-leb (at + width cells at c) count fit) refl)

pub passed_stop : (cells : Cells) (count at c w : ℕ) (bytes rest : List ℕ) → IsUtf8 bytes → bytes ≡ encode c ++ rest → w ≡ width cells at c → count < at + w
    → passed cells count at (chars bytes) ≡ 0
unfolding passed
passed_stop cells count at c w bytes rest utf8 is wide past =
    ap (passed cells count at) (chars_past_char bytes rest c utf8 is)
    ∙ (let over : count < at + width cells at c = subst (λ k. count < at + k) wide past in rw (lt-leb (at + width cells at c) count over) refl)

passed_none : (cells : Cells) (count at : ℕ) → passed cells count at (chars []) ≡ 0
unfolding passed chars
passed_none cells count at = refl

pub passed_end : (cells : Cells) (count at : ℕ) (bytes : List ℕ) → length bytes ≡ 0 → passed cells count at (chars bytes) ≡ 0
passed_end cells count at [] none = passed_none cells count at
passed_end cells count at (b ∷ bytes) none = absurd (omega (arith, none))

-- Files behind others.
use Rattle.std.proofs.Common.{◌≡◌, ℕ, ◌+◌, ◌++◌, List, length, drop, ap, ap₂, ◌∙◌, arith, length-append}
use Rattle.std.proofs.Math.Seq.{drop-append_seam}
use Rattle.found_reports.specs.Found.{NamedHeld}

-- files that were added are the last ones
pub own_behind : (old own files : List NamedHeld) (first : ℕ) → files ≡ old ++ own → first + length own ≡ length files → drop first files ≡ own
own_behind old own files first is sum =
    let e : first ≡ length old = omega (arith, length-append old own, ap length is, sum) in
    ap₂ (λ n xs. drop n xs) e is ∙ drop-append_seam old own

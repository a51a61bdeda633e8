-- The rows of what is shown of a source are told by the index of its text.
use Rattle.std.proofs.Common.{◌≡◌, ℕ, zero, suc, Bool, List, [], Some, length, map, refl, sym, ap, ◌∙◌, subst}
use Rattle.std.specs.Prelude.{slice_get}
use Rattle.std.proofs.lemmas.Option.{same_Some}
use Rattle.oxc_windows.specs.Breaks.{breaks_before, breaks_of}
use Rattle.oxc_windows.specs.Rows.{row_of, row_start}
use Rattle.oxc_protocol.specs.Source.{Fits}
use Rattle.found_reports.specs.Held.{Held, held_text}
use Rattle.found_reports.specs.Listed.{held_by}
use Rattle.found_reports.specs.declared.sources.Source.{Source}
use Rattle.shown_reports.specs.Shown.{shown_source}
use Rattle.shown_reports.specs.Sources.{HasRowsOf, shown_by}
use Rattle.shown_reports.specs.Standing.{KeepsHeld}

-- a source that has no text has one row
pub no_row : (offset : ℕ) → 0 ≡ row_of (breaks_of []) offset
unfolding breaks_of breaks_before row_of
no_row offset = refl

pub no_start : (row : ℕ) → 0 ≡ row_start (length {A = ℕ} []) (breaks_of []) row
unfolding breaks_of breaks_before row_start
no_start zero = refl
no_start (suc n) = refl

-- what is shown of a source has the rows of what is held of it
pub rows_shown : (raw : Bool) (entry : Source) (held : Held) (shown : List ℕ) → held ≡ held_by entry → shown ≡ shown_by raw entry → Fits shown → KeepsHeld raw (held_by entry) → HasRowsOf held shown
rows_shown raw entry held shown is are fits keeps =
    subst (λ h. HasRowsOf h shown) (sym is)
    (record { short = fits; len = ap length are ∙ keeps.places.length_kept; breaks = ap breaks_of are ∙ keeps.rows })

pub held_there : (entries : List Source) (place : ℕ) (entry : Source) (held : Held) → Some (held_by entry) ≡ slice_get (map held_by entries) place
    → Some held ≡ slice_get (map held_by entries) place → held ≡ held_by entry
held_there entries place entry held is are = same_Some held (held_by entry) (are ∙ sym is)

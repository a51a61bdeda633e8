-- The files that reports are on, each once.
use Rattle.std.proofs.Common.{◌≡◌, ℕ, ◌==◌, true, false, List, [], ◌∷◌, ◌++◌, map, if◌then◌else◌, refl, sym, ap, ap₂, ◌∙◌}
use Rattle.std.specs.Bool.{Decides}
use Rattle.std.specs.List.{fold, list_any}
use Rattle.std.proofs.lemmas.Bool.{false≢true}
use Rattle.std.proofs.lemmas.Bool.Decides.{Decides-and, Decides-eqb, Decides-like}
use Rattle.std.proofs.lemmas.List.{map-append}
use Rattle.std.proofs.lemmas.List.Sums.{fold_push}
use Rattle.std.proofs.lemmas.Slice.Eq.{bytes_eq-Decides}
use Rattle.found_reports.specs.Files.{file_on, files_of, same_file, same_held, why_number, with_file}
use Rattle.found_reports.specs.Found.{Found, NamedHeld}
use Rattle.found_reports.specs.Held.{Held, holds, lacks}
use Rattle.found_reports.specs.declared.sources.Lack.{Lack}
use Rattle.found_reports.specs.declared.sources.Lack.TheVariants.{Missing, Outside, NoFile, TooLong, NoText, Unreadable}

-- ---- files that are the same

why_of : ℕ → Lack
why_of n = if n == 0 then Missing else (if n == 1 then Outside else (if n == 2 then NoFile else (if n == 3 then TooLong else (if n == 4 then NoText else Unreadable))))

why_back : (why : Lack) → why_of (why_number why) ≡ why
unfolding why_of
why_back Missing = refl
why_back Outside = refl
why_back NoFile = refl
why_back TooLong = refl
why_back NoText = refl
why_back Unreadable = refl

pub same_why : (why other : Lack) → why_number why ≡ why_number other → why ≡ other
same_why why other e = sym (why_back why) ∙ (ap why_of e ∙ why_back other)

held_decides : (held other : Held) → Decides (same_held held other) (held ≡ other)
held_decides (holds text) (holds other) = Decides-like (same_held (holds text) (holds other)) (ap holds) (λ e. cc) (bytes_eq-Decides text other)
held_decides (lacks why) (lacks other) = Decides-like (same_held (lacks why) (lacks other)) (λ e. ap lacks (same_why why other e)) (λ e. cc) (Decides-eqb (why_number why) (why_number other))
held_decides (holds text) (lacks other) = (λ e. absurd (false≢true e), λ e. absurd (cc))
held_decides (lacks why) (holds other) = (λ e. absurd (false≢true e), λ e. absurd (cc))

pub file_decides : (file other : NamedHeld) → Decides (same_file file other) (file ≡ other)
file_decides file other =
    Decides-like (same_file file other) (λ e. ap₂ (λ name held. record { name = name; held = held }) e.0 e.1) (λ e. (ap (λ (it : NamedHeld). it.name) e, ap (λ (it : NamedHeld). it.held) e))
    (Decides-and _ _ (bytes_eq-Decides file.name other.name) (held_decides file.held other.held))

-- ---- each once

pub file_there : (files : List NamedHeld) (file : NamedHeld) → list_any (same_file file) files ≡ true → with_file files file ≡ files
unfolding with_file
file_there files file there = rw there refl

pub file_new : (files : List NamedHeld) (file : NamedHeld) → list_any (same_file file) files ≡ false → with_file files file ≡ files ++ file ∷ []
unfolding with_file
file_new files file new = rw new refl

pub files_none : files_of [] ≡ []
unfolding files_of
files_none = refl

pub files_push : (found : List Found) (report : Found) → files_of (found ++ report ∷ []) ≡ with_file (files_of found) (file_on report)
unfolding files_of
files_push found report = ap (fold with_file []) (map-append file_on found (report ∷ [])) ∙ fold_push with_file [] (map file_on found) (file_on report)

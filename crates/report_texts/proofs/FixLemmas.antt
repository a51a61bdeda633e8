-- The exact edits that are written.
use Rattle.std.proofs.Common.{◌≡◌, ◌≢◌, ℕ, Bool, true, false, List, [], ◌∷◌, length, map, Option, Some, None, refl, sym, ap, ◌∙◌, ◌&&◌, arith}
use Rattle.std.specs.Prelude.{String, string_bytes, is_none, option_map, if◌then◌else◌}
use Rattle.std.specs.declared.alloc.Global.{Global}
use Rattle.std.specs.List.{list_all}
use Rattle.std.specs.Str.{bytes_eq}
use Rattle.harmless.specs.Harmless.{changed_source, harmless_source}
use Rattle.found_reports.specs.Fixes.{ChangeParts, change_view}
use Rattle.found_reports.specs.declared.fixes.RowChange.{RowChange}
use Rattle.report_texts.specs.Fixes.{are_written, is_written, stays, written_fixes}

-- ---- a test of each of a list

pub one_fails : {A B : Type 0} (test : B → Bool) (f : A → B) (x : A) (rest all : List A) → test (f x) ≡ false
    → list_all test (map f (x ∷ rest)) ≡ list_all test (map f all) → false ≡ list_all test (map f all)
one_fails test f x rest all fails same = sym (ap (λ b. b && list_all test (map f rest)) fails) ∙ same

pub one_passes : {A B : Type 0} (test : B → Bool) (f : A → B) (x : A) (rest all : List A) → test (f x) ≡ true
    → list_all test (map f (x ∷ rest)) ≡ list_all test (map f all) → list_all test (map f rest) ≡ list_all test (map f all)
one_passes test f x rest all passes same = sym (ap (λ b. b && list_all test (map f rest)) passes) ∙ same

-- ---- edits

pub none_written : (raw : Bool) (changes : List RowChange) → length changes ≡ 0 → false ≡ is_written raw (map change_view changes)
none_written raw [] none = refl
none_written raw (change ∷ changes) none = absurd (omega (arith, none))

pub some_written : (raw : Bool) (changes : List RowChange) → length changes ≢ 0
    → list_all (stays raw) (map change_view changes) ≡ is_written raw (map change_view changes)
some_written raw [] some = absurd (some refl)
some_written raw (change ∷ changes) some = refl

unchanged_by : (text : List ℕ) (same : Bool) (changed : Option (String Global)) → option_map string_bytes changed ≡ (if same then None else Some text) → is_none changed ≡ same
unchanged_by text true None is = refl
unchanged_by text false None is = cc
unchanged_by text true (Some changed) is = cc
unchanged_by text false (Some changed) is = refl

pub unchanged : (text : List ℕ) (changed : Option (String Global)) → option_map string_bytes changed ≡ changed_source text
    → is_none changed ≡ bytes_eq (harmless_source text) text
unchanged text changed is = unchanged_by (harmless_source text) (bytes_eq (harmless_source text) text) changed is

pub all_fixes : (raw : Bool) (fixes : List (List ChangeParts)) → true ≡ are_written raw fixes → fixes ≡ written_fixes raw fixes
all_fixes raw fixes are = rw (sym are) refl

pub no_fixes : (raw : Bool) (fixes : List (List ChangeParts)) → false ≡ are_written raw fixes → [] ≡ written_fixes raw fixes
no_fixes raw fixes arent = rw (sym arent) refl

pub ruleset written_or_not = (one_fails, one_passes, none_written, some_written)

pub ruleset all_or_none = (one_fails, one_passes, all_fixes, no_fixes)

-- How many reports there were, of some and of others.
use Rattle.std.proofs.Common.{◌≡◌, ◌+◌, ◌||◌, Bool, true, false, cond, List, [], ◌++◌, refl, sym, ap, ◌∙◌, arith}
use Rattle.std.specs.List.{count_by}
use Rattle.std.proofs.lemmas.List.{length-append}
use Rattle.std.proofs.lemmas.List.Sums.{sum_by-append}
use Rattle.std.proofs.lemmas.List.Folds.{list_any-append}
use Rattle.oxc_protocol.specs.declared.protocol.Severity.TheVariants.{Advice, Warning, Error}
use Rattle.found_reports.specs.Found.{Found}
use Rattle.finding_summaries.specs.Counted.{counts_of, is_of, reaches, severity_of}
use Rattle.girzohal_options.specs.declared.Asked.{Asked}
use Rattle.drawn_lines.specs.Counts.{count_of, count_with, counts_with, no_count}
use Rattle.drawn_lines.specs.declared.count.Count.{Count}

count_append : {X : Type 0} (p : X → Bool) (xs ys : List X) → count_by p (xs ++ ys) ≡ count_by p xs + count_by p ys
count_append p xs ys = sum_by-append (λ x. cond (p x) 1 0) xs ys

counts_append : (fore bs : List Found) → counts_of (fore ++ bs) ≡ counts_with (counts_of fore) (counts_of bs)
unfolding counts_of
counts_append fore bs = rw (count_append (λ it. is_of Error (severity_of it)) fore bs, count_append (λ it. is_of Warning (severity_of it)) fore bs, count_append (λ it. is_of Advice (severity_of it)) fore bs) refl

pub counted_append : (asked : Asked) (fore bs : List Found) → count_of asked (fore ++ bs) ≡ count_with (count_of asked fore) (count_of asked bs)
counted_append asked fore bs =
    rw (length-append fore bs, counts_append fore bs, list_any-append (λ it. reaches asked.fail_on (severity_of it)) fore bs) refl

pub none_counted : (asked : Asked) → count_of asked [] ≡ no_count
unfolding counts_of
none_counted asked = refl

or_assoc : (a b c : Bool) → ((a || b) || c) ≡ (a || (b || c))
or_assoc true b c = refl
or_assoc false b c = refl

with_assoc : (a b c : Count) → count_with (count_with a b) c ≡ count_with a (count_with b c)
with_assoc a b c =
    let total : a.total + b.total + c.total ≡ a.total + (b.total + c.total) = omega arith in
    let errors : a.counts.errors + b.counts.errors + c.counts.errors ≡ a.counts.errors + (b.counts.errors + c.counts.errors) = omega arith in
    let warnings : a.counts.warnings + b.counts.warnings + c.counts.warnings ≡ a.counts.warnings + (b.counts.warnings + c.counts.warnings) = omega arith in
    let notes : a.counts.notes + b.counts.notes + c.counts.notes ≡ a.counts.notes + (b.counts.notes + c.counts.notes) = omega arith in
    rw (total, errors, warnings, notes, or_assoc a.reached b.reached c.reached) refl

-- no reports and others
pub with_none : (b : Count) → count_with no_count b ≡ b
with_none b =
    let total : 0 + b.total ≡ b.total = omega arith in
    let errors : 0 + b.counts.errors ≡ b.counts.errors = omega arith in
    let warnings : 0 + b.counts.warnings ≡ b.counts.warnings = omega arith in
    let notes : 0 + b.counts.notes ≡ b.counts.notes = omega arith in
    rw (total, errors, warnings, notes) refl

-- some, those of a list, and those of the next
pub counted_next : (asked : Asked) (before : Count) (fore bs : List Found)
    → count_with (count_with before (count_of asked fore)) (count_of asked bs) ≡ count_with before (count_of asked (fore ++ bs))
counted_next asked before fore bs = with_assoc before (count_of asked fore) (count_of asked bs) ∙ ap (count_with before) (sym (counted_append asked fore bs))

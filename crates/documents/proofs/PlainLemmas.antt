-- What is written has no float, and isn't nested deep.
use Rattle.std.proofs.Common.{◌≡◌, ℕ, suc, ◌≤◌, List, [], ◌∷◌, map, Bool, true, false, true≢false, ◌||◌, if◌then◌else◌, codes, Option, Some, None, Ordering, Less, Equal, Greater, nat_cmp, refl, arith}
use Rattle.std.specs.Cmp.Lexicographic.{slice_cmp}
use Rattle.std.specs.Ordering.{match_ordering}
use Rattle.serde_json.specs.Data.{Data, string, array, object, Items, Members, no_members, member, put, depth, items_depth, members_depth}
use Rattle.serde_json.specs.View.{items_of}
use Rattle.serde_json.specs.Written.{has_float, items_have_float, members_have_float}
use Rattle.codespan.specs.Texts.{NamedText}
use Rattle.oxc_protocol.specs.declared.protocol.Severity.{Severity}
use Rattle.oxc_protocol.specs.declared.protocol.Severity.TheVariants.{Advice, Warning, Error}
use Rattle.oxc_protocol.specs.Parts.{OxcParts}
use Rattle.render_files.specs.declared.places.LabelPlace.{LabelPlace}
use Rattle.render_files.specs.declared.places.LabelPlace.TheVariants.{Rows, Bytes}
use Rattle.render_files.specs.Given.{GivenLabel, GivenReport}
use Rattle.documents.specs.Written.{document_value, file_value, label_value, labels_value, place_members, primary_value, put_some, report_value, said_members, severity_value, text_value, version_value, whole_number}
use Rattle.documents.proofs.KeyLemmas.{either_false}

-- no float in it, and arrays and objects nest so deep at most
pub record IsPlain (most : ℕ) (it : Data) : Type 0 where
  pub whole : has_float it ≡ false
  pub shallow : depth it ≤ most

pub record ArePlainItems (most : ℕ) (its : Items) : Type 0 where
  pub whole : items_have_float its ≡ false
  pub shallow : items_depth its ≤ most

pub record ArePlain (most : ℕ) (ms : Members) : Type 0 where
  pub whole : members_have_float ms ≡ false
  pub shallow : members_depth ms ≤ most

-- ---- members

plain_put_at : (o : Ordering) (most : ℕ) (k l : List ℕ) (d e : Data) (ms : Members) → IsPlain most d → IsPlain most e → ArePlain most ms
    → ArePlain most (put k d ms)
    → ArePlain most (match_ordering o (member k d (member l e ms)) (member l d ms) (member l e (put k d ms)))
plain_put_at Less most k l d e ms new first rest more = record {
  whole = rw (new.whole, first.whole) rest.whole;
  shallow = omega (arith, new.shallow, first.shallow, rest.shallow);
}
plain_put_at Equal most k l d e ms new first rest more = record {
  whole = rw new.whole rest.whole;
  shallow = omega (arith, new.shallow, rest.shallow);
}
plain_put_at Greater most k l d e ms new first rest more = record {
  whole = rw first.whole more.whole;
  shallow = omega (arith, first.shallow, more.shallow);
}

plain_none : (most : ℕ) → ArePlain most no_members
plain_none most = record { whole = refl; shallow = omega arith }

pub plain_put : (most : ℕ) (k : List ℕ) (d : Data) (ms : Members) → IsPlain most d → ArePlain most ms → ArePlain most (put k d ms)
plain_put most k d no_members new rest = record { whole = rw new.whole refl; shallow = omega (arith, new.shallow) }
plain_put most k d (member l e ms) new rest =
    let parts = either_false (has_float e) (members_have_float ms) rest.whole in
    let first : IsPlain most e = record { whole = parts.0; shallow = omega (arith, rest.shallow) } in
    let others : ArePlain most ms = record { whole = parts.1; shallow = omega (arith, rest.shallow) } in
    plain_put_at (slice_cmp nat_cmp k l) most k l d e ms new first others (plain_put most k d ms new others)

IsPlainOption : ℕ → Option Data → Type 0
IsPlainOption most None = Unit {0}
IsPlainOption most (Some d) = IsPlain most d

plain_put_some : (most : ℕ) (k : List ℕ) (o : Option Data) (ms : Members) → IsPlainOption most o → ArePlain most ms → ArePlain most (put_some k o ms)
unfolding IsPlainOption
plain_put_some most k None ms new rest = rest
plain_put_some most k (Some d) ms new rest = plain_put most k d ms new rest

-- ---- values

pub plain_object : (most : ℕ) (ms : Members) → ArePlain most ms → IsPlain (suc most) (object ms)
plain_object most ms are = record { whole = are.whole; shallow = omega (arith, are.shallow) }

plain_array : (most : ℕ) (its : Items) → ArePlainItems most its → IsPlain (suc most) (array its)
plain_array most its are = record { whole = are.whole; shallow = omega (arith, are.shallow) }

plain_items : {A : Type 0} (most : ℕ) (f : A → Data) → ((x : A) → IsPlain most (f x)) → (xs : List A) → ArePlainItems most (items_of (map f xs))
plain_items most f each [] = record { whole = refl; shallow = omega arith }
plain_items most f each (x ∷ xs) =
    let first = each x in
    let rest = plain_items most f each xs in
    record { whole = rw first.whole rest.whole; shallow = omega (arith, first.shallow, rest.shallow) }

plain_text : (most : ℕ) (it : Option (List ℕ)) → IsPlainOption most (text_value it)
unfolding IsPlainOption
plain_text most None = tt
plain_text most (Some bytes) = record { whole = refl; shallow = omega arith }

plain_severity : (most : ℕ) (it : Severity) → IsPlainOption most (severity_value it)
unfolding IsPlainOption
plain_severity most Advice = record { whole = refl; shallow = omega arith }
plain_severity most Warning = record { whole = refl; shallow = omega arith }
plain_severity most Error = tt

plain_primary : (most : ℕ) (it : Bool) → IsPlainOption most (primary_value it)
unfolding IsPlainOption
plain_primary most true = record { whole = refl; shallow = omega arith }
plain_primary most false = tt

plain_place : (it : LabelPlace) → ArePlain 1 (place_members it)
plain_place (Rows start end) = record { whole = refl; shallow = omega arith }
plain_place (Bytes start end) = record { whole = refl; shallow = omega arith }

plain_label : (it : GivenLabel) → IsPlain 2 (label_value it)
unfolding label_value
plain_label it =
    let texted = put_some (codes "text") (text_value it.text) (place_members it.place) in
    plain_object 1 (put_some (codes "primary") (primary_value it.primary) texted)
    (plain_put_some 1 (codes "primary") (primary_value it.primary) texted (plain_primary 1 it.primary)
    (plain_put_some 1 (codes "text") (text_value it.text) (place_members it.place) (plain_text 1 it.text) (plain_place it.place)))

plain_labels : (its : List GivenLabel) → IsPlainOption 3 (labels_value its)
unfolding IsPlainOption
plain_labels [] = tt
plain_labels (it ∷ its) = plain_array 2 (items_of (map label_value (it ∷ its))) (plain_items 2 label_value plain_label (it ∷ its))

plain_said : (most : ℕ) (it : OxcParts) (ms : Members) → ArePlain most ms → ArePlain most (said_members it ms)
unfolding said_members
plain_said most it ms are =
    plain_put_some most _ _ _ (plain_text most it.url)
    (plain_put_some most _ _ _ (plain_text most it.note)
    (plain_put_some most _ _ _ (plain_text most it.help)
    (plain_put_some most _ _ _ (plain_text most it.code.number)
    (plain_put_some most _ _ _ (plain_text most it.code.scope)
    (plain_put_some most _ _ _ (plain_severity most it.severity)
    (plain_put most _ _ _ (record { whole = refl; shallow = omega arith }) are))))))

plain_report : (it : GivenReport) → IsPlain 4 (report_value it)
unfolding report_value
plain_report it =
    let filed = put (codes "file") (whole_number it.file) no_members in
    let labelled = put_some (codes "labels") (labels_value it.labels) filed in
    plain_object 3 (said_members it.diagnostic labelled)
    (plain_said 3 it.diagnostic labelled
    (plain_put_some 3 (codes "labels") (labels_value it.labels) filed (plain_labels it.labels)
    (record { whole = refl; shallow = omega arith })))

plain_file : (it : NamedText) → IsPlain 1 (file_value it)
unfolding file_value
plain_file it = record { whole = refl; shallow = omega arith }

plain_version : (most : ℕ) (it : Bool) → IsPlainOption most (if it then None else Some (whole_number 2))
unfolding IsPlainOption
plain_version most true = tt
plain_version most false = record { whole = refl; shallow = omega arith }

plain_document : (files : List NamedText) (reports : List GivenReport) → IsPlain 6 (document_value files reports)
unfolding document_value
plain_document files reports =
    let listed = put (codes "files") (array (items_of (map file_value files))) no_members in
    let reported = put (codes "reports") (array (items_of (map report_value reports))) listed in
    plain_object 5 (put_some (codes "version") (version_value reports) reported)
    (plain_put_some 5 (codes "version") (version_value reports) reported (plain_version 5 _)
    (plain_put 5 (codes "reports") (array (items_of (map report_value reports))) listed (plain_array 4 _ (plain_items 4 report_value plain_report reports))
    (plain_put 5 (codes "files") (array (items_of (map file_value files))) no_members
    (record { whole = (plain_items 1 file_value plain_file files).whole; shallow = omega (arith, (plain_items 1 file_value plain_file files).shallow) })
    (plain_none 5))))

pub no_float : (files : List NamedText) (reports : List GivenReport) → has_float (document_value files reports) ≡ false
no_float files reports = (plain_document files reports).whole

pub shallow : (files : List NamedText) (reports : List GivenReport) → depth (document_value files reports) ≤ 127
shallow files reports = omega (arith, (plain_document files reports).shallow)

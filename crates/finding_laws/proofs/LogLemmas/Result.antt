-- A result that was written has no fault, and is read as what is meant.
use Rattle.std.proofs.Common.{◌≡◌, ℕ, ◌^◌, ◌<◌, ◌≤◌, List, [], ◌∷◌, map, codes, Option, Some, None, option_map, refl, arith}
use Rattle.std.specs.Prelude.{IfSome}
use Rattle.std.specs.List.{All}
use Rattle.std.proofs.lemmas.List.Elements.{All-head, All-tail}
use Rattle.json.specs.Tree.{HasNumbers, depth}
use Rattle.json.proofs.Printed.Decimals.{IsNumber-decimal}
use Rattle.serde_json.specs.Data.{Data, string, array, object, item, no_items, no_members, put}
use Rattle.serde_json.specs.Written.{outline}
use Rattle.oxc_protocol.specs.declared.protocol.Severity.{Severity}
use Rattle.sarif_log.specs.declared.form.Kind.TheVariants.{Object}
use Rattle.sarif_log.specs.declared.form.Shape.TheVariants as shape
use Rattle.sarif_log.specs.Form.{keys_of, kind_under}
use Rattle.sarif_log.specs.Faults.{fault_in}
use Rattle.sarif_log.specs.Log.{LogResult, baseline_state_at, fixes_of, level_at, list_at, location_of, locations_of, log_result_of, message_of, result_kind_at, rule_ref_of, suppressions_of, text_at, texts_at, whole_at}
use Rattle.documents.specs.Written.{put_some, text_value, whole_number}
use Rattle.sarif_writing.specs.Written.{level_text, message_value, some_array}
use Rattle.finding_laws.specs.Logs.Meant.{level_meant, no_rule_ref, text_message}
use Rattle.finding_laws.proofs.LogLemmas.List.{Fits, items_fit, items_numbers, items_read, items_shallow}
use Rattle.numerals.proofs.NumeralLemmas.{number_in_decimal}
use Rattle.finding_laws.proofs.LogLemmas.Number.{level_back, level_fits}

-- a result of these parts
abbrev pub result_with : List Data → Data → Option ℕ → Option (List ℕ) → List ℕ → Severity → Data
result_with others head index number message severity =
    object (put_some (codes "relatedLocations") (some_array others)
    (put (codes "locations") (array (item head no_items))
    (put_some (codes "ruleIndex") (option_map whole_number index)
    (put_some (codes "ruleId") (text_value number)
    (put (codes "message") (message_value message) (put (codes "level") (string (level_text severity)) no_members))))))

abbrev pub IsPlace : Data → Type 0
IsPlace it = Fits shape.Location 3 it

abbrev pub IsSmallPlace : Option ℕ → Type 0
IsSmallPlace index = IfSome index (λ n. n < 2 ^ 64)

result_faultless : (others : List Data) (head : Data) (index : Option ℕ) (number : Option (List ℕ)) (message : List ℕ) (severity : Severity)
    → IsPlace head → All IsPlace others → IsSmallPlace index → fault_in (Object shape.Result) (outline (result_with others head index number message severity)) ≡ None
unfolding fault_in keys_of kind_under message_value
result_faultless [] head None None message severity fits all small = rw (level_fits severity, fits.faultless) refl
result_faultless [] head None (Some number) message severity fits all small = rw (level_fits severity, fits.faultless) refl
result_faultless [] head (Some place) None message severity fits all small = rw (level_fits severity, fits.faultless, number_in_decimal place small) refl
result_faultless [] head (Some place) (Some number) message severity fits all small = rw (level_fits severity, fits.faultless, number_in_decimal place small) refl
result_faultless (it ∷ its) head None None message severity fits all small = rw (level_fits severity, fits.faultless, (All-head IsPlace it its all).faultless, items_fit shape.Location 3 1 its (All-tail IsPlace it its all)) refl
result_faultless (it ∷ its) head None (Some number) message severity fits all small = rw (level_fits severity, fits.faultless, (All-head IsPlace it its all).faultless, items_fit shape.Location 3 1 its (All-tail IsPlace it its all)) refl
result_faultless (it ∷ its) head (Some place) None message severity fits all small = rw (level_fits severity, fits.faultless, (All-head IsPlace it its all).faultless, items_fit shape.Location 3 1 its (All-tail IsPlace it its all), number_in_decimal place small) refl
result_faultless (it ∷ its) head (Some place) (Some number) message severity fits all small = rw (level_fits severity, fits.faultless, (All-head IsPlace it its all).faultless, items_fit shape.Location 3 1 its (All-tail IsPlace it its all), number_in_decimal place small) refl

result_numbers : (others : List Data) (head : Data) (index : Option ℕ) (number : Option (List ℕ)) (message : List ℕ) (severity : Severity)
    → IsPlace head → All IsPlace others → IsSmallPlace index → HasNumbers (outline (result_with others head index number message severity))
unfolding message_value
result_numbers [] head None None message severity fits all small = (tt, ((fits.numbers, tt), ((tt, tt), tt)))
result_numbers [] head None (Some number) message severity fits all small = (tt, ((fits.numbers, tt), ((tt, tt), (tt, tt))))
result_numbers [] head (Some place) None message severity fits all small = (tt, ((fits.numbers, tt), ((tt, tt), (IsNumber-decimal place small, tt))))
result_numbers [] head (Some place) (Some number) message severity fits all small = (tt, ((fits.numbers, tt), ((tt, tt), (tt, (IsNumber-decimal place small, tt)))))
result_numbers (it ∷ its) head None None message severity fits all small = (tt, ((fits.numbers, tt), ((tt, tt), (items_numbers shape.Location 3 (it ∷ its) all, tt))))
result_numbers (it ∷ its) head None (Some number) message severity fits all small = (tt, ((fits.numbers, tt), ((tt, tt), (items_numbers shape.Location 3 (it ∷ its) all, (tt, tt)))))
result_numbers (it ∷ its) head (Some place) None message severity fits all small = (tt, ((fits.numbers, tt), ((tt, tt), (items_numbers shape.Location 3 (it ∷ its) all, (IsNumber-decimal place small, tt)))))
result_numbers (it ∷ its) head (Some place) (Some number) message severity fits all small = (tt, ((fits.numbers, tt), ((tt, tt), (items_numbers shape.Location 3 (it ∷ its) all, (tt, (IsNumber-decimal place small, tt))))))

result_shallow : (others : List Data) (head : Data) (index : Option ℕ) (number : Option (List ℕ)) (message : List ℕ) (severity : Severity)
    → IsPlace head → All IsPlace others → depth (outline (result_with others head index number message severity)) ≤ 5
unfolding message_value
result_shallow [] head None None message severity fits all = omega (arith, fits.shallow)
result_shallow [] head None (Some number) message severity fits all = omega (arith, fits.shallow)
result_shallow [] head (Some place) None message severity fits all = omega (arith, fits.shallow)
result_shallow [] head (Some place) (Some number) message severity fits all = omega (arith, fits.shallow)
result_shallow (it ∷ its) head None None message severity fits all = omega (arith, fits.shallow, items_shallow shape.Location 3 (it ∷ its) all)
result_shallow (it ∷ its) head None (Some number) message severity fits all = omega (arith, fits.shallow, items_shallow shape.Location 3 (it ∷ its) all)
result_shallow (it ∷ its) head (Some place) None message severity fits all = omega (arith, fits.shallow, items_shallow shape.Location 3 (it ∷ its) all)
result_shallow (it ∷ its) head (Some place) (Some number) message severity fits all = omega (arith, fits.shallow, items_shallow shape.Location 3 (it ∷ its) all)

pub result_fits : (others : List Data) (head : Data) (index : Option ℕ) (number : Option (List ℕ)) (message : List ℕ) (severity : Severity)
    → IsPlace head → All IsPlace others → IsSmallPlace index → Fits shape.Result 5 (result_with others head index number message severity)
result_fits others head index number message severity fits all small =
    record {
      faultless = result_faultless others head index number message severity fits all small;
      numbers = result_numbers others head index number message severity fits all small;
      shallow = result_shallow others head index number message severity fits all;
    }

-- what is read of it
abbrev pub result_read : List Data → Data → Option ℕ → Option (List ℕ) → List ℕ → Severity → LogResult
result_read others head index number message severity =
    record {
      rule_id = number;
      rule_index = index;
      rule = no_rule_ref;
      level = Some (level_meant severity);
      kind = None;
      message = text_message message;
      locations = location_of (Some (outline head)) ∷ [];
      related = map (λ it. location_of (Some (outline it))) others;
      suppressions = [];
      baseline = None;
      fixes = [];
    }

pub result_back : (others : List Data) (head : Data) (index : Option ℕ) (number : Option (List ℕ)) (message : List ℕ) (severity : Severity)
    → IsSmallPlace index → log_result_of (Some (outline (result_with others head index number message severity))) ≡ result_read others head index number message severity
unfolding log_result_of baseline_state_at fixes_of level_at list_at locations_of message_of result_kind_at rule_ref_of suppressions_of text_at texts_at whole_at message_value
result_back [] head None None message severity small = rw (level_back severity) refl
result_back [] head None (Some number) message severity small = rw (level_back severity) refl
result_back [] head (Some place) None message severity small = rw (level_back severity, number_in_decimal place small) refl
result_back [] head (Some place) (Some number) message severity small = rw (level_back severity, number_in_decimal place small) refl
result_back (it ∷ its) head None None message severity small = rw (level_back severity, items_read location_of its) refl
result_back (it ∷ its) head None (Some number) message severity small = rw (level_back severity, items_read location_of its) refl
result_back (it ∷ its) head (Some place) None message severity small = rw (level_back severity, items_read location_of its, number_in_decimal place small) refl
result_back (it ∷ its) head (Some place) (Some number) message severity small = rw (level_back severity, items_read location_of its, number_in_decimal place small) refl

-- The parts of a log that was written have no fault, and are read as what is meant.
use Rattle.std.proofs.Common.{◌≡◌, ℕ, ◌^◌, ◌<◌, ◌≤◌, List, codes, Option, Some, None, option_map, refl, arith}
use Rattle.json.specs.Tree.{HasNumbers, depth}
use Rattle.json.proofs.Printed.Decimals.{IsNumber-decimal}
use Rattle.serde_json.specs.Data.{Data, object, member, no_members, put}
use Rattle.serde_json.specs.Written.{outline}
use Rattle.codespan.specs.Texts.{NamedText, text_of}
use Rattle.oxc_span.specs.Label.{Label, label_end}
use Rattle.source_location.specs.declared.SourceLocation.{SourceLocation}
use Rattle.source_location.specs.Locations as places
use Rattle.sarif_log.specs.declared.form.Kind.TheVariants.{Object}
use Rattle.sarif_log.specs.declared.form.Shape.TheVariants as shape
use Rattle.sarif_log.specs.Form.{keys_of, kind_under}
use Rattle.sarif_log.specs.Faults.{fault_in}
use Rattle.sarif_log.specs.Log.{artifact_location_of, artifact_of, level_at, location_of, members_at, message_of, named_messages_of, region_of, rule_of, text_at, texts_at, whole_at}
use Rattle.documents.specs.Written.{put_some}
use Rattle.sarif_writing.specs.Rules.{rule_value}
use Rattle.sarif_writing.specs.Written.{artifact_value, file_location, label_location, message_value, reference_value, region_place, region_value}
use Rattle.finding_laws.specs.Logs.Meant.{artifact_meant, file_meant, label_meant, message_meant, reference_meant, region_meant, rule_said}
use Rattle.finding_laws.proofs.LogLemmas.List.{Fits}
use Rattle.numerals.proofs.NumeralLemmas.{number_in_decimal}

-- a row and a column of 64 bits
pub record AreSmall (it : SourceLocation) : Type 0 where
  pub row : it.row < 2 ^ 64
  pub column : it.column < 2 ^ 64

-- ---- places

abbrev spot : List NamedText → ℕ → SourceLocation → SourceLocation → Data
spot files file start end =
    object (member (codes "artifactLocation") (reference_value files file)
    (member (codes "region") (region_value start end) no_members))

spot_faultless : (files : List NamedText) (file : ℕ) (start end : SourceLocation) → file < 2 ^ 64 → AreSmall start → AreSmall end
    → fault_in (Object shape.Physical) (outline (spot files file start end)) ≡ None
unfolding fault_in keys_of kind_under reference_value region_value
spot_faultless files file start end small from upto =
    rw (number_in_decimal file small, number_in_decimal end.column upto.column, number_in_decimal end.row upto.row, number_in_decimal start.column from.column, number_in_decimal start.row from.row) refl

spot_numbers : (files : List NamedText) (file : ℕ) (start end : SourceLocation) → file < 2 ^ 64 → AreSmall start → AreSmall end
    → HasNumbers (outline (spot files file start end))
unfolding reference_value region_value
spot_numbers files file start end small from upto = (
  (IsNumber-decimal file small, (tt, tt)),
  ((IsNumber-decimal end.column upto.column, (IsNumber-decimal end.row upto.row, (IsNumber-decimal start.column from.column, (IsNumber-decimal start.row from.row, tt)))), tt),
)

-- ---- labels

-- what is said somewhere
abbrev located : Option (List ℕ) → Data → Data
located text place = object (put_some (codes "message") (option_map message_value text) (put (codes "physicalLocation") place no_members))

located_faultless : (text : Option (List ℕ)) (place : Data) → fault_in (Object shape.Physical) (outline place) ≡ None
    → fault_in (Object shape.Location) (outline (located text place)) ≡ None
unfolding fault_in keys_of kind_under message_value
located_faultless None place fits = rw fits refl
located_faultless (Some text) place fits = rw fits refl

located_numbers : (text : Option (List ℕ)) (place : Data) → HasNumbers (outline place) → HasNumbers (outline (located text place))
unfolding message_value
located_numbers None place has = (has, tt)
located_numbers (Some text) place has = ((tt, tt), (has, tt))

located_shallow : (text : Option (List ℕ)) (place : Data) → depth (outline place) ≤ 2 → depth (outline (located text place)) ≤ 3
unfolding message_value
located_shallow None place shallow = omega (arith, shallow)
located_shallow (Some text) place shallow = omega (arith, shallow)

spot_shallow : (files : List NamedText) (file : ℕ) (start end : SourceLocation) → depth (outline (spot files file start end)) ≤ 2
unfolding reference_value region_value
spot_shallow files file start end = omega arith

located_back : (text : Option (List ℕ)) (files : List NamedText) (file : ℕ) (start end : SourceLocation) → file < 2 ^ 64 → AreSmall start → AreSmall end
    → location_of (Some (outline (located text (spot files file start end))))
    ≡ record { artifact = reference_meant files file; region = Some (region_meant start end); message = message_meant text }
unfolding location_of artifact_location_of region_of message_of text_at texts_at whole_at reference_value region_value message_value
located_back None files file start end small from upto =
    rw (number_in_decimal file small, number_in_decimal end.column upto.column, number_in_decimal end.row upto.row, number_in_decimal start.column from.column, number_in_decimal start.row from.row) refl
located_back (Some text) files file start end small from upto =
    rw (number_in_decimal file small, number_in_decimal end.column upto.column, number_in_decimal end.row upto.row, number_in_decimal start.column from.column, number_in_decimal start.row from.row) refl

-- both ends of a label have rows and columns of 64 bits
pub record IsSmall (text : List ℕ) (it : Label) : Type 0 where
  pub start : AreSmall (places.location_of text it.offset)
  pub end : AreSmall (places.location_of text (label_end it))

pub label_fits : (files : List NamedText) (file : ℕ) (it : Label) → file < 2 ^ 64 → IsSmall (text_of files file) it → Fits shape.Location 3 (label_location files file it)
unfolding label_location region_place
label_fits files file it small ends =
    let start = places.location_of (text_of files file) it.offset in
    let end = places.location_of (text_of files file) (label_end it) in
    record {
      faultless = located_faultless it.text (spot files file start end) (spot_faultless files file start end small ends.start ends.end);
      numbers = located_numbers it.text (spot files file start end) (spot_numbers files file start end small ends.start ends.end);
      shallow = located_shallow it.text (spot files file start end) (spot_shallow files file start end);
    }

pub label_back : (files : List NamedText) (file : ℕ) (it : Label) → file < 2 ^ 64 → IsSmall (text_of files file) it
    → location_of (Some (outline (label_location files file it))) ≡ label_meant files file it
unfolding label_location region_place label_meant
label_back files file it small ends =
    located_back it.text files file (places.location_of (text_of files file) it.offset) (places.location_of (text_of files file) (label_end it)) small ends.start ends.end

-- ---- files

file_faultless : (files : List NamedText) (file : ℕ) → file < 2 ^ 64 → fault_in (Object shape.Location) (outline (file_location files file)) ≡ None
unfolding fault_in keys_of kind_under file_location reference_value
file_faultless files file small = rw (number_in_decimal file small) refl

file_numbers : (files : List NamedText) (file : ℕ) → file < 2 ^ 64 → HasNumbers (outline (file_location files file))
unfolding file_location reference_value
file_numbers files file small = (((IsNumber-decimal file small, (tt, tt)), tt), tt)

file_shallow : (files : List NamedText) (file : ℕ) → depth (outline (file_location files file)) ≤ 3
unfolding file_location reference_value
file_shallow files file = omega arith

pub file_fits : (files : List NamedText) (file : ℕ) → file < 2 ^ 64 → Fits shape.Location 3 (file_location files file)
file_fits files file small = record { faultless = file_faultless files file small; numbers = file_numbers files file small; shallow = file_shallow files file }

pub file_back : (files : List NamedText) (file : ℕ) → file < 2 ^ 64 → location_of (Some (outline (file_location files file))) ≡ file_meant files file
unfolding location_of artifact_location_of region_of message_of text_at texts_at whole_at file_location reference_value file_meant
file_back files file small = rw (number_in_decimal file small) refl

artifact_faultless : (it : NamedText) → fault_in (Object shape.Artifact) (outline (artifact_value it)) ≡ None
unfolding fault_in keys_of kind_under artifact_value
artifact_faultless it = refl

artifact_numbers : (it : NamedText) → HasNumbers (outline (artifact_value it))
unfolding artifact_value
artifact_numbers it = ((tt, tt), ((tt, tt), tt))

artifact_shallow : (it : NamedText) → depth (outline (artifact_value it)) ≤ 2
unfolding artifact_value
artifact_shallow it = omega arith

pub artifact_fits : (it : NamedText) → Fits shape.Artifact 2 (artifact_value it)
artifact_fits it = record { faultless = artifact_faultless it; numbers = artifact_numbers it; shallow = artifact_shallow it }

pub artifact_back : (it : NamedText) → artifact_of (Some (outline (artifact_value it))) ≡ artifact_meant it
unfolding artifact_of artifact_location_of text_at whole_at artifact_value
artifact_back it = refl

-- ---- rules

rule_faultless : (number url : Option (List ℕ)) → fault_in (Object shape.Rule) (outline (rule_value number url)) ≡ None
unfolding fault_in keys_of kind_under rule_value
rule_faultless number None = refl
rule_faultless number (Some url) = refl

rule_numbers : (number url : Option (List ℕ)) → HasNumbers (outline (rule_value number url))
unfolding rule_value
rule_numbers number None = (tt, tt)
rule_numbers number (Some url) = (tt, (tt, tt))

rule_shallow : (number url : Option (List ℕ)) → depth (outline (rule_value number url)) ≤ 1
unfolding rule_value
rule_shallow number None = omega arith
rule_shallow number (Some url) = omega arith

pub rule_fits : (number url : Option (List ℕ)) → Fits shape.Rule 1 (rule_value number url)
rule_fits number url = record { faultless = rule_faultless number url; numbers = rule_numbers number url; shallow = rule_shallow number url }

pub rule_back : (number url : Option (List ℕ)) → rule_of (Some (outline (rule_value number url))) ≡ rule_said number url
unfolding rule_of text_at level_at members_at named_messages_of rule_value
rule_back number None = refl
rule_back number (Some url) = refl

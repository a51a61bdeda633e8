-- What begins at a problem's line is the problem.
use Rattle.std.proofs.Common.{◌≡◌, ℕ, ◌+◌, ◌^◌, ◌<◌, ◌==◌, ◌&&◌, Bool, true, false, if◌then◌else◌, List, [], ◌∷◌, ◌++◌, length, drop, Option, Some, None, refl, ap, ◌∙◌, arith}
use Rattle.std.specs.Prelude.{nat_lt}
use Rattle.std.specs.List.{slice_index, list_all}
use Rattle.std.specs.Option.{is_none, option_map, option_and_then, option_or}
use Rattle.std.proofs.lemmas.Bool.Decides.{nat_tests}
use Rattle.line_shapes.specs.declared.bytes.Kind.TheVariants.{Blank, InRule}
use Rattle.line_shapes.specs.declared.name.NameKind.TheVariants.{Any}
use Rattle.line_shapes.specs.declared.part.Part.{Part}
use Rattle.line_shapes.specs.declared.part.Part.TheVariants.{AnyBlanks, Byte, Blanks, Rule, Level as ALevel}
use Rattle.line_shapes.specs.declared.tables.Manner.{Manner}
use Rattle.line_shapes.specs.declared.tables.Manner.TheVariants.{Plain, Ruled}
use Rattle.line_shapes.specs.Bytes.{is_in}
use Rattle.line_shapes.specs.Name.{is_name}
use Rattle.line_shapes.specs.Part.{Seen, before, behind, fit}
use Rattle.line_shapes.specs.Place.{Place, place}
use Rattle.line_shapes.specs.Said.{code_behind, said, whole}
use Rattle.line_shapes.proofs.PartLemmas.{no_run}
use Rattle.oxc_protocol.specs.declared.protocol.Severity.{Severity as OwnSeverity}
use Rattle.oxc_protocol.specs.declared.protocol.Severity.TheVariants.{Error as AnError, Warning as AWarning, Advice as AnAdvice}
use Rattle.tool_lines.specs.declared.lines.Sort.TheVariants.{Inline}
use Rattle.tool_lines.specs.Lines.{FindingParts, bare, begun, begun_of, coded_below, finding_from, inline, inline_sort, is_heading, is_placing, is_ruled, is_tag, parted, spoken, tag_behind, tagged, text_below, told, whole_among}
use Rattle.tool_lines.specs.Speaks.{speaks}
use Rattle.tool_lines.proofs.PlainLemmas.{not_announced, not_heading}
use Rattle.problem_lines.specs.Line.{severity_name}
use Rattle.finding_laws.specs.Problems.Plain.{has_no_colon}
use Rattle.finding_laws.specs.Problems.Read.{severity_meant}
use Rattle.finding_laws.proofs.ProblemLemmas.PlaceBack.{line_of, numbers_text, place_back, places_found}
use Rattle.finding_laws.proofs.ProblemLemmas.SaidBack.{IsSayable, after_level, bracket_behind, coded_found, coded_text, meant_coded, meant_uncoded, no_bracket_behind, said_coded, said_uncoded, uncoded_found, uncoded_text}

-- ---- the message doesn't stand below

row_not : (row : List Part) (more : List (List Part)) (s : Seen) → whole row s ≡ None → whole_among (row ∷ more) s ≡ whole_among more s
row_not row more s none = ap (λ o. option_or o (whole_among more s)) none

not_empty : (n : ℕ) → nat_lt 0 n ≡ true → (n == 0) ≡ false
not_empty n some = grind (arith, nat_tests)

any_blanks_taken : (message : List ℕ) (s : Seen) → is_in Blank (slice_index message 0) ≡ false → fit (AnyBlanks ∷ []) (record s { rest = 0x20 ∷ message }) ≡ Some (record s { rest = message })
any_blanks_taken message s none = ap (λ n. Some (behind (1 + n) (record s { rest = 0x20 ∷ message }))) (no_run Blank message none)

level_alone : (severity : OwnSeverity) (message : List ℕ) (s : Seen) → IsSayable message → whole (ALevel ∷ (Byte 0x3A ∷ (AnyBlanks ∷ []))) (record s { rest = uncoded_text severity message }) ≡ None
level_alone severity message s plain =
    after_level severity message (Byte 0x3A ∷ (AnyBlanks ∷ [])) s
    ∙ (ap (λ o. option_and_then (λ (found : Seen). if length found.rest == 0 then Some found else None) o)
    (any_blanks_taken message (record s { severity = Some (severity_meant severity); aside = false }) plain.no_blank)
    ∙ ap (λ v. if v then Some (record s { rest = message; severity = Some (severity_meant severity); aside = false }) else None) (not_empty (length message) plain.some))

no_code_first : (severity : OwnSeverity) (text : List ℕ) (parts : List Part) (s : Seen) → whole (Byte 0x5B ∷ parts) (record s { rest = severity_name severity ++ text }) ≡ None
no_code_first AnError text parts s = refl
no_code_first AWarning text parts s = refl
no_code_first AnAdvice text parts s = refl

abbrev second_bare : List Part
second_bare = Rule ∷ (Byte 0x5D ∷ (AnyBlanks ∷ []))

abbrev bare_rows : List (List Part)
bare_rows = (ALevel ∷ (Byte 0x3A ∷ (AnyBlanks ∷ []))) ∷ ((ALevel ∷ (Byte 0x3A ∷ (Blanks ∷ (Byte 0x5B ∷ second_bare)))) ∷ ((Byte 0x5B ∷ second_bare) ∷ []))

bare_uncoded : (name : List ℕ) (severity : OwnSeverity) (message : List ℕ) (s : Seen) → IsSayable message → bare (record { name = name; found = record s { rest = uncoded_text severity message } }) ≡ None
unfolding bare
bare_uncoded name severity message s plain =
    ap (option_map (λ found. finding_from name found Plain))
    (row_not (ALevel ∷ (Byte 0x3A ∷ (AnyBlanks ∷ []))) (drop 1 bare_rows) (record s { rest = uncoded_text severity message }) (level_alone severity message s plain)
    ∙ (row_not (ALevel ∷ (Byte 0x3A ∷ (Blanks ∷ (Byte 0x5B ∷ second_bare)))) (drop 2 bare_rows) (record s { rest = uncoded_text severity message }) (no_bracket_behind severity message second_bare s plain)
    ∙ row_not (Byte 0x5B ∷ second_bare) [] (record s { rest = uncoded_text severity message }) (no_code_first severity (0x3A ∷ 0x20 ∷ message) second_bare s)))

bare_coded : (name : List ℕ) (severity : OwnSeverity) (code message : List ℕ) (s : Seen) → bare (record { name = name; found = record s { rest = coded_text severity code message } }) ≡ None
unfolding bare
bare_coded name severity code message s =
    ap (option_map (λ found. finding_from name found Plain))
    (row_not (ALevel ∷ (Byte 0x3A ∷ (AnyBlanks ∷ []))) (drop 1 bare_rows) (record s { rest = coded_text severity code message }) (bracket_behind severity code message (Byte 0x3A ∷ (AnyBlanks ∷ [])) s)
    ∙ (row_not (ALevel ∷ (Byte 0x3A ∷ (Blanks ∷ (Byte 0x5B ∷ second_bare)))) (drop 2 bare_rows) (record s { rest = coded_text severity code message }) (bracket_behind severity code message (Byte 0x3A ∷ (Blanks ∷ (Byte 0x5B ∷ second_bare))) s)
    ∙ row_not (Byte 0x5B ∷ second_bare) [] (record s { rest = coded_text severity code message }) (no_code_first severity (0x5B ∷ (code ++ 0x5D ∷ (0x3A ∷ (0x20 ∷ message)))) second_bare s)))

no_tag : (message : List ℕ) → (slice_index message 0 == 0x5B) ≡ false → is_tag message ≡ false
no_tag [] none = refl
no_tag (x ∷ []) none = refl
no_tag (x ∷ (y ∷ rest)) none = ap (λ v. v && tag_behind (y ∷ rest)) none

abbrev below_of : Place → Option (Seen × Manner) → Option FindingParts
below_of place o = option_and_then (λ it. if is_ruled it.1 && tagged it.0 then Some (finding_from place.name (record it.0 { message = None }) Plain) else None) o

below_uncoded : (place : Place) (found : Seen) → said place.found ≡ Some (found, Plain) → coded_below place ≡ None
unfolding coded_below
below_uncoded place found e = ap (below_of place) e

below_coded : (place : Place) (found : Seen) → said place.found ≡ Some (found, Ruled) → tagged found ≡ false → coded_below place ≡ None
unfolding coded_below
below_coded place found e none = ap (below_of place) e ∙ ap (λ v. if v then Some (finding_from place.name (record found { message = None }) Plain) else None) none

-- ---- it stands behind the place

abbrev spoken_of : List ℕ → Place → Option (Seen × Manner) → Option FindingParts
spoken_of line place o = option_and_then (λ it. if speaks line place it.0 it.1 then Some (finding_from place.name it.0 it.1) else None) o

spoken_plain : (line : List ℕ) (place : Place) (found : Seen) → said place.found ≡ Some (found, Plain) → spoken line place ≡ Some (finding_from place.name found Plain)
unfolding spoken
spoken_plain line place found e = ap (spoken_of line place) e

spoken_ruled : (line : List ℕ) (place : Place) (found : Seen) → said place.found ≡ Some (found, Ruled) → spoken line place ≡ Some (finding_from place.name found Ruled)
unfolding spoken
spoken_ruled line place found e = ap (spoken_of line place) e

told_is : (more : Bool) (line : List ℕ) (place : Place) (finding : FindingParts) → bare place ≡ None → coded_below place ≡ None → spoken line place ≡ Some finding → told more line place ≡ Some finding
told_is false line place finding no_bare no_below is = is
told_is true line place finding no_bare no_below is =
    ap (λ o. option_or o (option_or (coded_below place) (spoken line place))) no_bare ∙ (ap (λ o. option_or o (spoken line place)) no_below ∙ is)

inline_is : (line : List ℕ) (next : Option (List ℕ)) (p : Place) (finding : FindingParts) → place line ≡ Some p → told (text_below next) line p ≡ Some finding → inline [] line next ≡ Some finding
inline_is line next p finding here is =
    ap (λ o. option_or (option_and_then (told (text_below next) line) o) (parted line)) here ∙ ap (λ o. option_or o (parted line)) is

begun_is : (line : List ℕ) (next : Option (List ℕ)) (finding : FindingParts) → is_placing next ≡ false → finding.place.found.apart ≡ false → inline [] line next ≡ Some finding
    → begun [] line next ≡ record { sort = Inline; finding = Some finding }
unfolding begun
begun_is line next finding away near is =
    ap (λ o. begun_of o (is_heading line next) (inline [] line next)) (not_announced line next away)
    ∙ (ap (λ v. begun_of None v (inline [] line next)) (not_heading line next away) ∙ (ap (λ o. begun_of None false o) is ∙ ap (λ v. record { sort = inline_sort v; finding = Some finding }) near))

-- ---- the line

-- what is asked of a name
pub record IsNameable (name : List ℕ) : Type 0 where
  pub is : is_name Any name (length name) ≡ true
  pub no_colon : has_no_colon name ≡ true
  pub no_bracket : (slice_index name 0 == 0x5B) ≡ false

pub severity_first : (severity : OwnSeverity) (text : List ℕ) → is_in Blank (slice_index (severity_name severity ++ text) 0) ≡ false
severity_first AnError text = refl
severity_first AWarning text = refl
severity_first AnAdvice text = refl

pub uncoded_back : (name message : List ℕ) (severity : OwnSeverity) (l c m d : ℕ) (next : Option (List ℕ)) → IsNameable name → IsSayable message → is_none (code_behind false message) ≡ true
    → l < 2 ^ 32 → c < 2 ^ 32 → m < 2 ^ 32 → d < 2 ^ 32 → is_placing next ≡ false
    → begun [] (line_of name (numbers_text l c m d (uncoded_text severity message))) next
    ≡ record {
      sort = Inline;
      finding = Some (record {
        place = record { name = name; found = uncoded_found severity message (places_found l c m d (before [])) };
        says = record { severity = severity_meant severity; aside = false; code = None; message = message };
      });
    }
uncoded_back name message severity l c m d next nameable plain none low_l low_c low_m low_d away =
    let text : List ℕ = uncoded_text severity message in
    let line : List ℕ = line_of name (numbers_text l c m d text) in
    let p : Place = record { name = name; found = places_found l c m d (before text) } in
    let found : Seen = uncoded_found severity message (places_found l c m d (before text)) in
    let here : place line ≡ Some p = place_back name l c m d text nameable.no_colon nameable.is nameable.no_bracket low_l low_c low_m low_d (severity_first severity (0x3A ∷ 0x20 ∷ message)) in
    let says : said p.found ≡ Some (found, Plain) = said_uncoded severity message p.found plain in
    let is : told (text_below next) line p ≡ Some (finding_from name found Plain) =
    told_is (text_below next) line p (finding_from name found Plain) (bare_uncoded name severity message p.found plain) (below_uncoded p found says) (spoken_plain line p found says) in
    begun_is line next (finding_from name found Plain) away refl (inline_is line next p (finding_from name found Plain) here is)
    ∙ ap (λ words. record { sort = Inline; finding = Some (record { place = record { name = name; found = found }; says = words }) }) (meant_uncoded severity message text l c m d plain none)

pub coded_back : (name code message : List ℕ) (severity : OwnSeverity) (l c m d : ℕ) (next : Option (List ℕ)) → IsNameable name → IsSayable message → nat_lt 0 (length code) ≡ true → list_all (is_in InRule) code ≡ true
    → l < 2 ^ 32 → c < 2 ^ 32 → m < 2 ^ 32 → d < 2 ^ 32 → is_placing next ≡ false
    → begun [] (line_of name (numbers_text l c m d (coded_text severity code message))) next
    ≡ record {
      sort = Inline;
      finding = Some (record {
        place = record { name = name; found = coded_found severity code message (places_found l c m d (before [])) };
        says = record { severity = severity_meant severity; aside = false; code = Some code; message = message };
      });
    }
coded_back name code message severity l c m d next nameable plain some all low_l low_c low_m low_d away =
    let text : List ℕ = coded_text severity code message in
    let line : List ℕ = line_of name (numbers_text l c m d text) in
    let p : Place = record { name = name; found = places_found l c m d (before text) } in
    let found : Seen = coded_found severity code message (places_found l c m d (before text)) in
    let here : place line ≡ Some p =
    place_back name l c m d text nameable.no_colon nameable.is nameable.no_bracket low_l low_c low_m low_d (severity_first severity (0x5B ∷ (code ++ 0x5D ∷ (0x3A ∷ (0x20 ∷ message))))) in
    let says : said p.found ≡ Some (found, Ruled) = said_coded severity code message p.found plain some all in
    let is : told (text_below next) line p ≡ Some (finding_from name found Ruled) =
    told_is (text_below next) line p (finding_from name found Ruled) (bare_coded name severity code message p.found) (below_coded p found says (no_tag message plain.no_bracket)) (spoken_ruled line p found says) in
    begun_is line next (finding_from name found Ruled) away refl (inline_is line next p (finding_from name found Ruled) here is)
    ∙ ap (λ words. record { sort = Inline; finding = Some (record { place = record { name = name; found = found }; says = words }) }) (meant_coded severity code message text l c m d plain)

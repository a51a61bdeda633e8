-- The cases of an element, and of a part of a content.
use Rattle.std.proofs.Common.{◌≡◌, ◌∙◌, ℕ, zero, suc, ◌+◌, ◌-◌, ◌<◌, List, [], ◌∷◌, ◌++◌, length, codes, Bool, true, false, if◌then◌else◌, Option, Some, None, option_and_then, option_map, ap, arith, refl, sym}
use Rattle.json.specs.Json.{Json}
use Rattle.xml_values.specs.declared.marks.Class.TheVariants.{Until}
use Rattle.xml_values.specs.Marks.{after, named, past, run}
use Rattle.xml_values.specs.Tag.{Attribute, attributes_of}
use Rattle.xml_values.specs.Element.{Parts, Reading, Step, child_step, content, content_step, element, element_json, empty_or, ended, end_step, inside, may_hold, open_step, opened, passed, passed_step, past_end, said, section, section_step, started, text_step, with_child}

from_name : ℕ → List ℕ × List ℕ → Option ((List ℕ × Json) × List ℕ)
from_name depth it = option_and_then (started (element depth) it.0) (attributes_of it.1)

-- ---- an element

pub no_depth : (depth : ℕ) (rest : List ℕ) → depth ≡ 0 → element depth rest ≡ None
unfolding element
no_depth depth rest none = ap (λ d. element d rest) none

element_one : (depth : ℕ) (rest : List ℕ) → 0 < depth → element depth rest ≡ option_and_then (from_name (depth - 1)) (named rest)
unfolding element from_name
element_one zero rest some = absurd (omega arith)
element_one (suc d) rest some =
    let same : d ≡ suc d - 1 = omega arith in
    ap (λ k. option_and_then (from_name k) (named rest)) same

pub unnamed : (depth : ℕ) (rest : List ℕ) → 0 < depth → named rest ≡ None → element depth rest ≡ None
unnamed depth rest some none = element_one depth rest some ∙ ap (option_and_then (from_name (depth - 1))) none

named_one : (depth : ℕ) (rest name from : List ℕ) → 0 < depth → named rest ≡ Some (name, from) → element depth rest ≡ option_and_then (started (element (depth - 1)) name) (attributes_of from)
unfolding from_name
named_one depth rest name from some is = element_one depth rest some ∙ ap (option_and_then (from_name (depth - 1))) is

pub no_attributes : (depth : ℕ) (rest name from : List ℕ) → 0 < depth → named rest ≡ Some (name, from) → attributes_of from ≡ None → element depth rest ≡ None
no_attributes depth rest name from some is none = named_one depth rest name from some is ∙ ap (option_and_then (started (element (depth - 1)) name)) none

tag_read : (depth : ℕ) (rest name from : List ℕ) (found : List Attribute) (r : List ℕ) → 0 < depth → named rest ≡ Some (name, from) → attributes_of from ≡ Some (found, r)
    → element depth rest ≡ empty_or (element (depth - 1)) name (opened found) r (after (codes "/>") r)
tag_read depth rest name from found r some is has = named_one depth rest name from some is ∙ ap (option_and_then (started (element (depth - 1)) name)) has

pub empty_tag : (depth : ℕ) (rest name from : List ℕ) (found : List Attribute) (r more : List ℕ) → 0 < depth → named rest ≡ Some (name, from) → attributes_of from ≡ Some (found, r)
    → after (codes "/>") r ≡ Some more → element depth rest ≡ Some ((name, element_json (opened found)), more)
empty_tag depth rest name from found r more some is has closes =
    tag_read depth rest name from found r some is has ∙ ap (empty_or (element (depth - 1)) name (opened found) r) closes

open_tag : (depth : ℕ) (rest name from : List ℕ) (found : List Attribute) (r : List ℕ) → 0 < depth → named rest ≡ Some (name, from) → attributes_of from ≡ Some (found, r)
    → after (codes "/>") r ≡ None → element depth rest ≡ inside (element (depth - 1)) name (opened found) (after (codes ">") r)
open_tag depth rest name from found r some is has closes =
    tag_read depth rest name from found r some is has ∙ ap (empty_or (element (depth - 1)) name (opened found) r) closes

pub no_tag_end : (depth : ℕ) (rest name from : List ℕ) (found : List Attribute) (r : List ℕ) → 0 < depth → named rest ≡ Some (name, from) → attributes_of from ≡ Some (found, r)
    → after (codes "/>") r ≡ None → after (codes ">") r ≡ None → element depth rest ≡ None
no_tag_end depth rest name from found r some is has closes none =
    open_tag depth rest name from found r some is has closes ∙ ap (inside (element (depth - 1)) name (opened found)) none

content_read : (depth : ℕ) (rest name from : List ℕ) (found : List Attribute) (r inner : List ℕ) → 0 < depth → named rest ≡ Some (name, from) → attributes_of from ≡ Some (found, r)
    → after (codes "/>") r ≡ None → after (codes ">") r ≡ Some inner
    → element depth rest ≡ option_and_then (ended name) (content (element (depth - 1)) (length inner + 1) (opened found) inner)
content_read depth rest name from found r inner some is has closes opens =
    open_tag depth rest name from found r some is has closes ∙ ap (inside (element (depth - 1)) name (opened found)) opens

pub no_content : (depth : ℕ) (rest name from : List ℕ) (found : List Attribute) (r inner : List ℕ) → 0 < depth → named rest ≡ Some (name, from) → attributes_of from ≡ Some (found, r)
    → after (codes "/>") r ≡ None → after (codes ">") r ≡ Some inner → content (element (depth - 1)) (length inner + 1) (opened found) inner ≡ None → element depth rest ≡ None
no_content depth rest name from found r inner some is has closes opens none =
    content_read depth rest name from found r inner some is has closes opens ∙ ap (option_and_then (ended name)) none

at_end : (depth : ℕ) (rest name from : List ℕ) (found : List Attribute) (r inner : List ℕ) (parts : Parts) (end : List ℕ) → 0 < depth → named rest ≡ Some (name, from) → attributes_of from ≡ Some (found, r)
    → after (codes "/>") r ≡ None → after (codes ">") r ≡ Some inner → content (element (depth - 1)) (length inner + 1) (opened found) inner ≡ Some (parts, end)
    → element depth rest ≡ option_map (λ more. ((name, element_json parts), more)) (past_end name end)
at_end depth rest name from found r inner parts end some is has closes opens whole =
    content_read depth rest name from found r inner some is has closes opens ∙ ap (option_and_then (ended name)) whole

pub no_end_tag : (depth : ℕ) (rest name from : List ℕ) (found : List Attribute) (r inner : List ℕ) (parts : Parts) (end : List ℕ) → 0 < depth → named rest ≡ Some (name, from) → attributes_of from ≡ Some (found, r)
    → after (codes "/>") r ≡ None → after (codes ">") r ≡ Some inner → content (element (depth - 1)) (length inner + 1) (opened found) inner ≡ Some (parts, end)
    → past_end name end ≡ None → element depth rest ≡ None
no_end_tag depth rest name from found r inner parts end some is has closes opens whole none =
    at_end depth rest name from found r inner parts end some is has closes opens whole ∙ ap (option_map (λ more. ((name, element_json parts), more))) none

pub whole_element : (depth : ℕ) (rest name from : List ℕ) (found : List Attribute) (r inner : List ℕ) (parts : Parts) (end more : List ℕ) → 0 < depth → named rest ≡ Some (name, from) → attributes_of from ≡ Some (found, r)
    → after (codes "/>") r ≡ None → after (codes ">") r ≡ Some inner → content (element (depth - 1)) (length inner + 1) (opened found) inner ≡ Some (parts, end)
    → past_end name end ≡ Some more → element depth rest ≡ Some ((name, element_json parts), more)
whole_element depth rest name from found r inner parts end more some is has closes opens whole ends =
    at_end depth rest name from found r inner parts end some is has closes opens whole ∙ ap (option_map (λ more. ((name, element_json parts), more))) ends

-- a document type is no element, and neither is an end tag
pub no_document_type : (depth : ℕ) (rest : List ℕ) → element depth (0x21 ∷ rest) ≡ None
unfolding element
no_document_type zero rest = refl
no_document_type (suc depth) rest = refl

-- ---- a part of a content

part_one : (el : Reading) (parts : Parts) (rest : List ℕ) → content_step el parts rest ≡ passed_step el parts rest (passed rest)
unfolding content_step
part_one el parts rest = refl

pub part_passed : (el : Reading) (parts : Parts) (rest more : List ℕ) → passed rest ≡ Some more → content_step el parts rest ≡ Some (false, parts, more)
part_passed el parts rest more is = part_one el parts rest ∙ ap (passed_step el parts rest) is

part_solid : (el : Reading) (parts : Parts) (rest : List ℕ) → passed rest ≡ None → content_step el parts rest ≡ section_step el parts rest (section rest)
part_solid el parts rest none = part_one el parts rest ∙ ap (passed_step el parts rest) none

pub part_section : (el : Reading) (parts later : Parts) (rest text more : List ℕ) → passed rest ≡ None → section rest ≡ Some (text, more) → later ≡ said parts (parts.text ++ text)
    → content_step el parts rest ≡ Some (false, later, more)
part_section el parts later rest text more none is pushed =
    part_solid el parts rest none ∙ ap (section_step el parts rest) is ∙ ap (λ p. Some (false, p, more)) (sym pushed)

part_tag : (el : Reading) (parts : Parts) (rest : List ℕ) → passed rest ≡ None → section rest ≡ None → content_step el parts rest ≡ end_step el parts rest (after (codes "</") rest)
part_tag el parts rest none bare = part_solid el parts rest none ∙ ap (section_step el parts rest) bare

pub part_end : (el : Reading) (parts : Parts) (rest more : List ℕ) → passed rest ≡ None → section rest ≡ None → after (codes "</") rest ≡ Some more → content_step el parts rest ≡ Some (true, parts, more)
part_end el parts rest more none bare is = part_tag el parts rest none bare ∙ ap (end_step el parts rest) is

part_open : (el : Reading) (parts : Parts) (rest : List ℕ) → passed rest ≡ None → section rest ≡ None → after (codes "</") rest ≡ None
    → content_step el parts rest ≡ open_step el parts rest (after (codes "<") rest)
part_open el parts rest none bare goes = part_tag el parts rest none bare ∙ ap (end_step el parts rest) goes

pub part_child : (el : Reading) (parts : Parts) (rest from : List ℕ) → passed rest ≡ None → section rest ≡ None → after (codes "</") rest ≡ None → after (codes "<") rest ≡ Some from
    → content_step el parts rest ≡ child_step parts (el from)
part_child el parts rest from none bare goes opens = part_open el parts rest none bare goes ∙ ap (open_step el parts rest) opens

pub part_text : (el : Reading) (parts : Parts) (rest : List ℕ) → passed rest ≡ None → section rest ≡ None → after (codes "</") rest ≡ None → after (codes "<") rest ≡ None
    → content_step el parts rest ≡ text_step parts (run (Until 0x3C) rest) (past (Until 0x3C) rest)
part_text el parts rest none bare goes opens = part_open el parts rest none bare goes ∙ ap (open_step el parts rest) opens

holding : Parts → List ℕ × Json → List ℕ → Bool → Step
holding parts it more may = if may then Some (false, with_child parts it, more) else None

pub no_child : (el : Reading) (parts : Parts) (rest from : List ℕ) → passed rest ≡ None → section rest ≡ None → after (codes "</") rest ≡ None → after (codes "<") rest ≡ Some from
    → el from ≡ None → content_step el parts rest ≡ None
no_child el parts rest from none bare goes opens wrong = part_child el parts rest from none bare goes opens ∙ ap (child_step parts) wrong

pub full : (el : Reading) (parts : Parts) (rest from name : List ℕ) (value : Json) (more : List ℕ) → passed rest ≡ None → section rest ≡ None → after (codes "</") rest ≡ None → after (codes "<") rest ≡ Some from
    → el from ≡ Some ((name, value), more) → may_hold parts name ≡ false → content_step el parts rest ≡ None
unfolding holding
full el parts rest from name value more none bare goes opens is never =
    part_child el parts rest from none bare goes opens ∙ ap (child_step parts) is ∙ ap (holding parts (name, value) more) never

pub one_child : (el : Reading) (parts later : Parts) (rest from name : List ℕ) (value : Json) (more : List ℕ) → passed rest ≡ None → section rest ≡ None → after (codes "</") rest ≡ None → after (codes "<") rest ≡ Some from
    → el from ≡ Some ((name, value), more) → may_hold parts name ≡ true → later ≡ with_child parts (name, value)
    → content_step el parts rest ≡ Some (false, later, more)
unfolding holding
one_child el parts later rest from name value more none bare goes opens is may pushed =
    part_child el parts rest from none bare goes opens ∙ ap (child_step parts) is ∙ ap (holding parts (name, value) more) may ∙ ap (λ p. Some (false, p, more)) (sym pushed)

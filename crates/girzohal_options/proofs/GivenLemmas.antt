-- What is given by one argument after another.
use Rattle.std.proofs.Common.{◌≡◌, ℕ, Bool, true, false, List, [], ◌∷◌, ◌++◌, ◌||◌, ◌+◌, ◌<◌, ◌≤◌, length, get_or, drop, map, option_map, codes, is_some, Option, Some, None, refl, ap, sym, subst, append_assoc, append-nil, ◌∙◌}
use Rattle.std.specs.List.{list_any}
use Rattle.std.specs.Option.{option_copied, option_or}
use Rattle.escapes.specs.Cuts.{number_of}
use Rattle.line_shapes.specs.Shape.{ShapeParts}
use Rattle.girzohal_options.specs.Given.{Takes, first_wrong, given_with, last, last_text, last_unique, nothing, shapes_in, shapes_under, wrong, wrong_in}
use Rattle.girzohal_options.specs.Said.{Said, file_named, said, value_under}
use Rattle.girzohal_options.specs.Shapes.{own_parts}
use Rattle.girzohal_options.specs.Values.{color_named, filter_named, first_named, form_named, level_named, max_row_named, output_named, severity_named, tabs_named, unit_named, width_named}
use Rattle.girzohal_options.specs.declared.given.Fault.{Fault}
use Rattle.girzohal_options.specs.declared.items.Item.{Item}
use Rattle.girzohal_options.specs.declared.given.Given.{Given as GivenValues}
use Rattle.girzohal_options.specs.declared.table.Program.{Program}
use Rattle.girzohal_options.specs.declared.given.Taken.{Taken}
use Rattle.std.proofs.lemmas.List.{at_drop_more, drop_all}
pub use Rattle.base_lemmas.proofs.Choices.{option_or-none as nothing_before}

or_assoc : {A : Type 0} (a b c : Option A) → option_or a (option_or b c) ≡ option_or (option_or a b) c
or_assoc None b c = refl
or_assoc (Some x) b c = refl

named_before : (it rest before : Bool) → (rest || (it || false || before)) ≡ (it || rest || before)
named_before true true before = refl
named_before true false before = refl
named_before false true before = refl
named_before false false before = refl

given_more : (before : GivenValues) (it : Said) (rest : List Said) → given_with (given_with before (it ∷ [])) rest ≡ given_with before (it ∷ rest)
unfolding given_with
given_more before it rest = simp (or_assoc, nothing_before, named_before) refl

given_none : (before : GivenValues) → before ≡ given_with before []
unfolding given_with
given_none before = refl

-- what is given by arguments alone
abbrev pub given_by : List Said → GivenValues
given_by all = record {
  from = last form_named (codes "--from") all;
  to = last output_named (codes "--to") all;
  columns = last unit_named (codes "--columns") all;
  first_column = last first_named (codes "--first-column") all;
  color = last color_named (codes "--color") all;
  width = last width_named (codes "--width") all;
  tabs = last tabs_named (codes "--tabs") all;
  max_findings = last number_of (codes "--max-findings") all;
  max_row = last max_row_named (codes "--max-row") all;
  fail_on = last level_named (codes "--fail-on") all;
  filter_mode = last filter_named (codes "--filter-mode") all;
  strip = last number_of (codes "--strip") all;
  severity = last severity_named (codes "--severity") all;
  unique = last_unique all;
  file = list_any (λ it. is_some (file_named it)) all || false;
}

pub given_alone : (all : List Said) → given_with nothing all ≡ given_by all
unfolding given_with
given_alone all = simp (nothing_before) refl

shapes_more : (before this rest : List ShapeParts) → (before ++ (this ++ [])) ++ rest ≡ before ++ (this ++ rest)
shapes_more before this rest = ap (λ l. before ++ l ++ rest) (append-nil this) ∙ append_assoc before this rest

takes_more : (before mid after : Taken) (it : Said) (rest : List Said) → Takes before (it ∷ []) mid → Takes mid rest after → Takes before (it ∷ rest) after
takes_more before mid after it rest one more = record {
  given_is = more.given_is ∙ ap (λ g. given_with g rest) one.given_is ∙ given_more before.given it rest;
  tool_is = more.tool_is ∙ ap (option_or (last_text (codes "--tool") rest)) one.tool_is
      ∙ or_assoc (last_text (codes "--tool") rest) (last_text (codes "--tool") (it ∷ [])) (option_copied before.tool);
  root_is = more.root_is ∙ ap (option_or (last_text (codes "--root") rest)) one.root_is
      ∙ or_assoc (last_text (codes "--root") rest) (last_text (codes "--root") (it ∷ [])) (option_copied before.root);
  changed_is = more.changed_is ∙ ap (option_or (last_text (codes "--changed") rest)) one.changed_is
      ∙ or_assoc (last_text (codes "--changed") rest) (last_text (codes "--changed") (it ∷ [])) (option_copied before.changed);
  baseline_is = more.baseline_is ∙ ap (option_or (last_text (codes "--baseline") rest)) one.baseline_is
      ∙ or_assoc (last_text (codes "--baseline") rest) (last_text (codes "--baseline") (it ∷ [])) (option_copied before.baseline);
  json_is = more.json_is ∙ ap (option_or (last_text (codes "--json-shapes") rest)) one.json_is
      ∙ or_assoc (last_text (codes "--json-shapes") rest) (last_text (codes "--json-shapes") (it ∷ [])) (option_copied before.json_shapes);
  shapes_are = more.shapes_are ∙ ap (λ s. s ++ shapes_in rest) one.shapes_are ∙ shapes_more (map own_parts before.shapes.items) (shapes_under (value_under (codes "--shape") it)) (shapes_in rest);
}

-- the items so far are taken
pub record StillTakes (program : Program) (start now : Taken) (all rest : List Said) : Type 0 where
  pub fault : first_wrong program now.given rest ≡ first_wrong program start.given all
  pub taken : (after : Taken) → Takes now rest after → Takes start all after

pub none_taken : (program : Program) (start : Taken) (all : List Said) → StillTakes program start start all all
none_taken program start all = record { fault = refl; taken = λ after takes. takes }

one_taken : (program : Program) (start now next : Taken) (all rest : List Said) (it : Said) → StillTakes program start now all (it ∷ rest) → None ≡ wrong_in program now.given it
    → Takes now (it ∷ []) next → StillTakes program start next all rest
one_taken program start now next all rest it still right takes = record {
  fault = ap (λ g. first_wrong program g rest) takes.given_is ∙ ap (λ w. option_or w (first_wrong program (given_with now.given (it ∷ [])) rest)) right ∙ still.fault;
  taken = λ after more. still.taken after (takes_more now next after it rest takes more);
}

pub item_taken : (program : Program) (start now next : Taken) (items : List Item) (at : ℕ) (item none : Item) (fault : Option Fault) → at < length items → item ≡ get_or items at none
    → StillTakes program start now (map said items) (map said (drop at items)) → fault ≡ None → option_map wrong fault ≡ wrong_in program now.given (said item) → Takes now (said item ∷ []) next
    → StillTakes program start next (map said items) (map said (drop (at + 1) items))
item_taken program start now next items at item none fault within is_item still right is takes =
    let here : map said (drop at items) ≡ said item ∷ map said (drop (at + 1) items) = at_drop_more (map said) items at none within ∙ ap (λ it. said it ∷ map said (drop (at + 1) items)) (sym is_item) in
    one_taken program start now next (map said items) (map said (drop (at + 1) items)) (said item) (subst (StillTakes program start now (map said items)) here still)
    (ap (option_map wrong) (sym right) ∙ is) takes

nothing_more : (now : Taken) → Takes now [] now
nothing_more now = record {
  given_is = given_none now.given;
  tool_is = refl;
  root_is = refl;
  changed_is = refl;
  baseline_is = refl;
  json_is = refl;
  shapes_are = sym (append-nil (map own_parts now.shapes.items));
}

pub all_taken : (program : Program) (start now : Taken) (items : List Item) (at : ℕ) → length items ≤ at → StillTakes program start now (map said items) (map said (drop at items)) → Takes start (map said items) now
all_taken program start now items at past still =
    let left : map said (drop at items) ≡ [] = ap (map said) (drop_all at items past) in
    (subst (StillTakes program start now (map said items)) left still).taken now (nothing_more now)

-- The first fault of a value, in reading order.
use Rattle.std.specs.Prelude.{ℕ, ◌+◌, List, [], ◌∷◌, ◌++◌, Bool, true, false, ◌&&◌, ◌||◌, if◌then◌else◌, Option, Some, None, option_map, find, map, codes}
use Rattle.std.specs.List.{list_any}
use Rattle.std.specs.Option.{is_some, is_none, option_or}
use Rattle.std.specs.Str.{bytes_eq}
use Rattle.json.specs.Json.{Json, null, boolean, number, string, array, object, Items, no_items, item, Members, no_members, member}
use Rattle.json.specs.Find.{get}
use Rattle.sarif_log.specs.declared.form.Kind.{Kind}
use Rattle.sarif_log.specs.declared.form.Kind.TheVariants.{Any, Text, Word, Whole, Texts, Object, Objects, Named}
use Rattle.sarif_log.specs.declared.form.Words.{Words}
use Rattle.sarif_log.specs.declared.form.Words.TheVariants as words
use Rattle.sarif_log.specs.declared.form.Shape.{Shape}
use Rattle.sarif_log.specs.declared.form.Shape.TheVariants as shape
use Rattle.sarif_log.specs.declared.faults.Fault as code
use Rattle.sarif_log.specs.declared.faults.Step as code_step
use Rattle.sarif_log.specs.declared.faults.Step.TheVariants as steps
use Rattle.numerals.specs.Numerals.{number_in}
use Rattle.sarif_log.specs.Form.{Key, keys_of, kind_under}

-- a step into a value
pub data Step : Type 0 where
  key : List ℕ → Step
  index : ℕ → Step

-- where a value isn't of its kind, from the inside out
pub record Fault : Type 0 where
  pub steps : List Step
  pub wanted : Kind

abbrev pub here : Kind → Fault
here kind = record { steps = []; wanted = kind }

abbrev pub within : Step → Fault → Fault
within step fault = record { steps = fault.steps ++ step ∷ []; wanted = fault.wanted }

abbrev pub unless : Bool → Kind → Option Fault
unless fits kind = if fits then None else Some (here kind)

-- ---- single values

unfoldable pub words_of : Words → List (List ℕ)
words_of words.Version = codes "2.1.0" ∷ []
words_of words.Level = codes "none" ∷ codes "note" ∷ codes "warning" ∷ codes "error" ∷ []
words_of words.ResultKind = codes "notApplicable" ∷ codes "pass" ∷ codes "fail" ∷ codes "review" ∷ codes "open" ∷ codes "informational" ∷ []
words_of words.ColumnKind = codes "utf16CodeUnits" ∷ codes "unicodeCodePoints" ∷ []
words_of words.BaselineState = codes "new" ∷ codes "unchanged" ∷ codes "updated" ∷ codes "absent" ∷ []
words_of words.Status = codes "accepted" ∷ codes "underReview" ∷ codes "rejected" ∷ []

unfoldable pub is_word : Words → List ℕ → Bool
is_word set text = list_any (λ word. bytes_eq word text) (words_of set)

abbrev pub takes_text : Kind → List ℕ → Bool
takes_text Any text = true
takes_text Text text = true
takes_text (Word set) text = is_word set text
takes_text Whole text = false
takes_text Texts text = false
takes_text (Object s) text = false
takes_text (Objects s) text = false
takes_text (Named s) text = false

abbrev pub takes_number : Kind → List ℕ → Bool
takes_number Any text = true
takes_number Text text = false
takes_number (Word set) text = false
takes_number Whole text = is_some (number_in text) || bytes_eq text (codes "-1")
takes_number Texts text = false
takes_number (Object s) text = false
takes_number (Objects s) text = false
takes_number (Named s) text = false

abbrev pub is_any : Kind → Bool
is_any Any = true
is_any Text = false
is_any (Word set) = false
is_any Whole = false
is_any Texts = false
is_any (Object s) = false
is_any (Objects s) = false
is_any (Named s) = false

-- where the standard allows null
abbrev pub is_nullable : Shape → Bool
is_nullable shape.Run = true
is_nullable shape.Result = true
is_nullable _ = false

abbrev pub takes_null : Kind → Bool
takes_null Any = true
takes_null Text = false
takes_null (Word set) = false
takes_null Whole = false
takes_null Texts = false
takes_null (Object s) = false
takes_null (Objects s) = is_nullable s
takes_null (Named s) = false

-- ---- arrays and objects

-- what the items of an array are, if the kind takes an array
abbrev pub item_kind : Kind → Option Kind
item_kind Any = None
item_kind Text = None
item_kind (Word set) = None
item_kind Whole = None
item_kind Texts = Some Text
item_kind (Object s) = None
item_kind (Objects s) = Some (Object s)
item_kind (Named s) = None

abbrev pub array_fault : Kind → Option Kind → (Kind → Option Fault) → Option Fault
array_fault kind None each = unless (is_any kind) kind
array_fault kind (Some inner) each = each inner

-- what the members of an object are
abbrev pub member_kind : Kind → List ℕ → Kind
member_kind Any name = Any
member_kind Text name = Any
member_kind (Word set) name = Any
member_kind Whole name = Any
member_kind Texts name = Any
member_kind (Object s) name = kind_under s name
member_kind (Objects s) name = Any
member_kind (Named s) name = Object s

-- a key that must be there, and isn't
abbrev pub missing_key : List Key → Json → Option Key
missing_key keys it = find (λ key. key.must && is_none (get key.name it)) keys

abbrev pub missing : Shape → Json → Option Fault
missing s it = option_map (λ k. within (key k.name) (here k.kind)) (missing_key (keys_of s) it)

abbrev pub object_fault : Kind → Option Fault → Json → Option Fault
object_fault Any each it = None
object_fault Text each it = Some (here Text)
object_fault (Word set) each it = Some (here (Word set))
object_fault Whole each it = Some (here Whole)
object_fault Texts each it = Some (here Texts)
object_fault (Object s) each it = option_or each (missing s it)
object_fault (Objects s) each it = Some (here (Objects s))
object_fault (Named s) each it = each

-- ---- the fault

unfoldable mutual
  pub fault_in : Kind → Json → Option Fault
  fault_in kind null = unless (takes_null kind) kind
  fault_in kind (boolean b) = unless (is_any kind) kind
  fault_in kind (number text) = unless (takes_number kind text) kind
  fault_in kind (string text) = unless (takes_text kind text) kind
  fault_in kind (array items) = array_fault kind (item_kind kind) (λ inner. items_fault inner 0 items)
  fault_in kind (object members) = object_fault kind (members_fault kind members) (object members)

  pub items_fault : Kind → ℕ → Items → Option Fault
  items_fault kind at no_items = None
  items_fault kind at (item value rest) = option_or (option_map (within (index at)) (fault_in kind value)) (items_fault kind (at + 1) rest)

  pub members_fault : Kind → Members → Option Fault
  members_fault kind no_members = None
  members_fault kind (member name value rest) = option_or (option_map (within (key name)) (fault_in (member_kind kind name) value)) (members_fault kind rest)

-- ---- the code's faults

abbrev pub step_view : code_step.Step → Step
step_view (steps.Key name) = key name.now
step_view (steps.Index at) = index at

abbrev pub fault_view : code.Fault → Fault
fault_view fault = record { steps = map step_view fault.steps.items; wanted = fault.wanted }

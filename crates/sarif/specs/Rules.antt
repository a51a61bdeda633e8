-- Which rule a result is of, and what a message says.
use Rattle.std.specs.Prelude.{ℕ, zero, suc, ◌+◌, ◌-◌, ◌==◌, Bool, true, false, List, [], ◌∷◌, find, take, length, if◌then◌else◌, Option, Some, None, option_map, option_and_then, unwrap_or, slice_get, slice_index}
use Rattle.std.specs.Option.{option_or}
use Rattle.std.specs.Str.{bytes_eq}
use Rattle.sarif_log.specs.Log.{Component, LogResult, Message, NamedMessage, Rule, RuleRef, Tool}
use Rattle.sarif.specs.Fill.{filled}

-- a text that isn't empty
abbrev pub some_text : Option (List ℕ) → Option (List ℕ)
some_text None = None
some_text (Some []) = None
some_text (Some (byte ∷ bytes)) = Some (byte ∷ bytes)

-- ---- rules

abbrev pub driver_or : Tool → Option ℕ → Option Component
driver_or tool None = Some tool.driver
driver_or tool (Some at) = slice_get tool.extensions at

-- the component that a reference names: one of the extensions, or the driver where it names none
unfoldable pub component_of : Tool → RuleRef → Option Component
component_of tool it = driver_or tool it.extension

abbrev pub is_text : Option (List ℕ) → List ℕ → Bool
is_text None text = false
is_text (Some other) text = bytes_eq other text

-- the first rule with this id
unfoldable pub rule_with : List Rule → List ℕ → Option Rule
rule_with rules id = find (λ rule. is_text rule.id id) rules

-- the rule whose id is the beginning of an id before one of its slashes, the last of the first `end` bytes that has a rule
unfoldable pub rule_before : List Rule → List ℕ → ℕ → Option Rule
rule_before rules id zero = None
rule_before rules id (suc end) =
    if slice_index id end == 0x2F then option_or (rule_with rules (take end id)) (rule_before rules id end) else rule_before rules id end

-- the rule of an id: its own, else that of its longest beginning before a slash; an empty id has none
unfoldable pub rule_named : List Rule → Option (List ℕ) → Option Rule
rule_named rules None = None
rule_named rules (Some []) = None
rule_named rules (Some (byte ∷ bytes)) =
    option_or (rule_with rules (byte ∷ bytes)) (rule_before rules (byte ∷ bytes) (length (byte ∷ bytes)))

-- by its number, else by its id
abbrev pub rule_at : List Rule → Option ℕ → Option (List ℕ) → Option Rule
rule_at rules None id = rule_named rules id
rule_at rules (Some at) id = slice_get rules at

unfoldable pub rule_in : Option Component → Option ℕ → Option (List ℕ) → Option Rule
rule_in None at id = None
rule_in (Some component) at id = rule_at component.rules at id

-- ---- messages

-- where messages are looked up by their ids
pub record Strings : Type 0 where
  pub rule : Option Rule
  pub component : Option Component

-- the message of a name: the last one counts
unfoldable pub message_named : List NamedMessage → List ℕ → Option Message
message_named [] name = None
message_named (it ∷ rest) name = option_or (message_named rest name) (if bytes_eq it.name name then Some it.message else None)

abbrev pub rule_message : Option Rule → List ℕ → Option Message
rule_message None name = None
rule_message (Some rule) name = message_named rule.messages name

abbrev pub component_message : Option Component → List ℕ → Option Message
component_message None name = None
component_message (Some component) name = message_named component.messages name

-- the text of the rule's message of this id, else of the component's
unfoldable pub text_named : Strings → List ℕ → Option (List ℕ)
text_named strings id = option_and_then (λ it. it.text) (option_or (rule_message strings.rule id) (component_message strings.component id))

-- the message's own text, else that of its id
abbrev pub text_or : Strings → Option (List ℕ) → Option (List ℕ) → Option (List ℕ)
text_or strings (Some text) id = Some text
text_or strings None id = option_and_then (text_named strings) id

-- what a message says, with its arguments in it; none without a text
unfoldable pub text_of : Strings → Message → Option (List ℕ)
text_of strings it = option_map (λ text. filled text it.arguments) (text_or strings it.text it.id)

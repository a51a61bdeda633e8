-- What contracts see of values that are lent.
use Rattle.std.specs.Prelude.{ℕ, List, Option, option_map}
use Rattle.std.specs.Borrow.{Bor}
use Rattle.sarif_log.specs.declared.log.Component as code_component
use Rattle.sarif_log.specs.declared.log.Message as code_message
use Rattle.sarif_log.specs.declared.log.Rule as code_rule
use Rattle.sarif_log.specs.Log.{Component, Message, Rule, component_view, message_view, rule_view}
use Rattle.sarif.specs.Rules.{Strings}
use Rattle.sarif.specs.declared.rules.Strings as code_strings

abbrev pub borrowed : Option (Bor (List ℕ)) → Option (List ℕ)
borrowed it = option_map (λ text. text.now) it

abbrev pub component_seen : Option (Bor code_component.Component) → Option Component
component_seen it = option_map (λ lent. component_view lent.now) it

abbrev pub rule_seen : Option (Bor code_rule.Rule) → Option Rule
rule_seen it = option_map (λ lent. rule_view lent.now) it

abbrev pub message_seen : Option (Bor code_message.Message) → Option Message
message_seen it = option_map (λ lent. message_view lent.now) it

abbrev pub strings_view : code_strings.Strings → Strings
strings_view it = record { rule = rule_seen it.rule; component = component_seen it.component }

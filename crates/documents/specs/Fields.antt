-- What was found under the keys of an object, and of a report that says something.
use Rattle.std.specs.Prelude.{◌≡◌, ℕ, List, [], ◌&&◌, Bool, true, String, Option, option_map, option_and_then, unwrap_or}
use Rattle.std.specs.declared.alloc.Global.{Global}
use Rattle.std.specs.Option.{is_some}
use Rattle.serde_json.specs.Data.{Data}
use Rattle.serde_json.specs.Find.{get_member}
use Rattle.serde_json.specs.View.{view, members_view}
use Rattle.serde_json.specs.declared.value.Value.{Value}
use Rattle.oxc_protocol.specs.Parts.{OxcParts}
use Rattle.oxc_protocol.specs.declared.protocol.Severity.TheVariants.{Error}
use Rattle.documents.specs.Kinds.{is_allowed, text, some_text, severity}
use Rattle.documents.specs.declared.fields.Found.{Found}
use Rattle.documents.specs.declared.fields.SaidFields.{SaidFields}

abbrev pub found : Found → Option Data
found it = option_map view it.value

-- what was found is what stands under the key, if anything does
abbrev pub Finds : List (String Global × Value) → List ℕ → Found → Type 0
Finds entries key it = found it ≡ get_member key (members_view entries)

-- each key allows what was found, and there is no other key
abbrev pub are_said : SaidFields → Bool
are_said it =
    is_some (option_and_then text (found it.message))
    && (is_allowed severity (found it.severity)
    && (is_allowed some_text (found it.scope)
    && (is_allowed some_text (found it.number)
    && (is_allowed text (found it.help)
    && (is_allowed text (found it.note)
    && (is_allowed text (found it.url) && true))))))
    && it.are_all

abbrev pub said : SaidFields → OxcParts
said it =
    record {
      message = unwrap_or (option_and_then text (found it.message)) [];
      severity = unwrap_or (option_and_then severity (found it.severity)) Error;
      code = record { scope = option_and_then some_text (found it.scope); number = option_and_then some_text (found it.number) };
      help = option_and_then text (found it.help);
      note = option_and_then text (found it.note);
      url = option_and_then text (found it.url);
      labels = [];
    }

use Rattle.std.specs.Prelude.{string_bytes}
use Rattle.oxc_span.specs.Views.{text_bytes}
use Rattle.oxc_protocol.specs.Code.{CodeParts}
use Rattle.oxc_protocol.specs.Parts.{OxcParts}
use Rattle.oxc_protocol.specs.declared.code.OxcCode.{OxcCode}
use Rattle.oxc_protocol.specs.declared.diagnostic.OxcDiagnosticInner.{OxcDiagnosticInner}

-- the parts of a code, as bytes
abbrev pub code_parts : OxcCode → CodeParts
code_parts c = record { scope = text_bytes c.scope; number = text_bytes c.number }

-- the parts of a diagnostic that its fields hold
abbrev pub inner_parts : OxcDiagnosticInner → OxcParts
inner_parts i = record { message = string_bytes i.message; labels = i.labels.items; help = text_bytes i.help; note = text_bytes i.note; severity = i.severity; code = code_parts i.code; url = text_bytes i.url }

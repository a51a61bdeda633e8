use Rattle.std.specs.Prelude.{ℕ, List, Option, Some, None, string_bytes}
use Rattle.std.specs.declared.string.String.{String}
use Rattle.oxc_span.specs.Label.{Label}
use Rattle.oxc_span.specs.declared.labeled_span.LabeledSpan.TheInside.{Inside}

-- the bytes of a text that may be missing
abbrev pub text_bytes : {A : Type 0} → Option (String A) → Option (List ℕ)
text_bytes (Some s) = Some (string_bytes s)
text_bytes None = None

-- what the fields of a label say
abbrev pub label_view : Inside → Label
label_view l = record { text = text_bytes l.label; offset = l.offset; len = l.len; primary = l.primary }

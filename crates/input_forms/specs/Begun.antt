-- What an input begins as.
use Rattle.std.specs.Prelude.{ℕ, nat_eq, List, [], ◌∷◌, drop, codes, ◌==◌, ◌||◌, Bool, if◌then◌else◌}
use Rattle.std.specs.List.{starts_with}
use Rattle.input_forms.specs.declared.begun.Begun.{Begun}
use Rattle.input_forms.specs.declared.begun.Begun.TheVariants.{Object, OtherJson, Xml, Lines}

-- one byte order mark is skipped
abbrev pub behind_mark : List ℕ → List ℕ
behind_mark bytes = if starts_with nat_eq bytes (0xEF ∷ 0xBB ∷ 0xBF ∷ []) then drop 3 bytes else bytes

-- a space, a tab, a CR or an LF
abbrev pub is_blank : ℕ → Bool
is_blank byte = byte == 0x20 || (byte == 0x09 || (byte == 0x0D || byte == 0x0A))

-- a text from its first byte on that is no blank
abbrev pub first_from : List ℕ → List ℕ
first_from [] = []
first_from (byte ∷ rest) = if is_blank byte then first_from rest else byte ∷ rest

-- a list of objects, of texts, or of nothing
abbrev pub behind_bracket : List ℕ → Begun
behind_bracket [] = Lines
behind_bracket (byte ∷ rest) = if byte == 0x7B || (byte == 0x22 || byte == 0x5D) then OtherJson else Lines

-- an XML declaration, or the name of the element that a tool's report is
abbrev pub begins_xml : List ℕ → Bool
begins_xml rest = starts_with nat_eq rest (codes "?xml") || (starts_with nat_eq rest (codes "checkstyle") || (starts_with nat_eq rest (codes "results") || (starts_with nat_eq rest (codes "pmd") || starts_with nat_eq rest (codes "jslint"))))

abbrev pub behind_angle : List ℕ → Begun
behind_angle rest = if begins_xml rest then Xml else Lines

abbrev pub begun_with : ℕ → List ℕ → Begun
begun_with byte rest = if byte == 0x7B then Object else if byte == 0x5B then behind_bracket (first_from rest) else if byte == 0x3C then behind_angle rest else Lines

abbrev pub begun_at : List ℕ → Begun
begun_at [] = Lines
begun_at (byte ∷ rest) = begun_with byte rest

unfoldable pub begins_as : List ℕ → Begun
begins_as bytes = begun_at (first_from (behind_mark bytes))

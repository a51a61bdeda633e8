-- Those so far.
use Rattle.std.proofs.Common.{◌≡◌, filter, map, string_bytes, take}
use Rattle.sarif.specs.Reading.{is_some_text}
use Rattle.sarif.specs.Views.{lent_texts}
use Rattle.sarif.proofs.reading.some_texts.Given as goal

abbrev pub invariant-loop-text : goal.invariant-loop-text
invariant-loop-text l = lent_texts l.some.items ≡ filter is_some_text (map string_bytes (take l.text-index l.texts))

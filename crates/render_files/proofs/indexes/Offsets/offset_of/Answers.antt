-- An index that is found, or made and kept, is that of the file's source.
use Rattle.std.proofs.Common.{◌∙◌}
use Rattle.render_files.proofs.KeptIndexes.{found_index, more_indexes}
use Rattle.render_files.proofs.indexes.Offsets.offset_of.Goals as goal

pub offset_in-requires-clause-indexed : goal.offset_in-requires-clause-indexed
offset_in-requires-clause-indexed c =
    found_index _ c.self.inside.indexes c.args.file c.in-Some.index.now _ c.self.invariant c.in-Some.ensures.value (c.as_str-source.ensures.value ∙ c.source.ensures.text)

pub invariant_of-self-2 : goal.invariant_of-self-2
invariant_of-self-2 c =
    more_indexes _ c.self.inside.indexes c.insert.new.self c.args.file c.in_ok-index.index _ c.self.invariant c.in_ok-insert.ensures.updates c.in_ok-index.ensures (c.as_str-source.ensures.value ∙ c.source.ensures.text)

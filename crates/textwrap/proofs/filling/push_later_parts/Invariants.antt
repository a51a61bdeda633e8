use Rattle.std.proofs.Common.{◌≡◌, ◌++◌, string_bytes, drop, map}
use Rattle.std.specs.List.{flat_map}
use Rattle.textwrap.specs.Filled.{later_part}
use Rattle.textwrap.proofs.filling.push_later_parts.Given as goal

-- the parts that are left come next
abbrev pub invariant-loop-part : goal.invariant-loop-part
invariant-loop-part l =
    string_bytes l.out ++ flat_map (later_part l.options.width l.options.subsequent_indent.now) (map (λ part. part.now) (drop l.part-index l.parts))
    ≡ string_bytes l.initial.out ++ flat_map (later_part l.options.width l.options.subsequent_indent.now) (map (λ part. part.now) l.parts)

use Rattle.std.proofs.Common.{◌≡◌, ◌++◌, map, drop, string_bytes}
use Rattle.changed_rows.specs.Names.{parts_text}
use Rattle.changed_rows.proofs.names.push_parts.Given as goal

-- the parts that are left come next
abbrev pub invariant-loop-part : goal.invariant-loop-part
invariant-loop-part l =
    string_bytes l.text ++ parts_text (map (λ part. part.now) (drop l.part-index l.parts)) ≡ string_bytes l.initial.text ++ parts_text (map (λ part. part.now) l.parts)

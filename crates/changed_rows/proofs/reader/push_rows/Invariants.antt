use Rattle.std.proofs.Common.{◌≡◌, ◌++◌, ◌+◌, ◌≤◌, map, drop}
use Rattle.changed_rows.specs.Rows.{rows_told}
use Rattle.changed_rows.proofs.reader.push_rows.Given as goal

-- the rows of the lines that are left come next
abbrev pub invariant-loop-line : goal.invariant-loop-line
invariant-loop-line l = record {
  told : l.rows.items ++ rows_told l.all l.file l.row (map (λ line. line.now) (drop l.line-index l.lines))
      ≡ l.initial.rows.items ++ rows_told l.all l.file l.start (map (λ line. line.now) l.lines);
  fits : l.row ≤ l.start + l.line-index;
}

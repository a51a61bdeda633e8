-- The pieces of the lines beside, and what was given of the names.
use Rattle.std.proofs.Common.{rules, map}
use Rattle.std.proofs.lemmas.Result.{IfOk-weaker}
use Rattle.found_reports.specs.Listed.{held_in}
use Rattle.tool_lines.specs.Lines.{piece_parts}
use Rattle.line_reports.specs.Pieces.{read_parts}
use Rattle.girzohal_run.proofs.values.find_beside.Goals as goal

pub returns-clause-found : goal.returns-clause-found
returns-clause-found g c =
    IfOk-weaker c.find_said.result _ _
    (λ it finds. record {
      pieces = map piece_parts c.in_ok-pieces.pieces.items;
      are = search rules;
      given = held_in c.in_ok-sources.sources.entries.items;
      told_so = search rules;
      reads = map read_parts c.in_ok-reads.reads.items;
      reads_are = search rules;
      finds = search rules;
    }) c.find_said.ensures.found

use Rattle.std.proofs.Common.{◌≡◌, map, subst}
use Rattle.std.specs.Prelude.{IfOk}
use Rattle.line_shapes.specs.Shape.{shape_parts}
use Rattle.line_shapes.specs.Tools.{shapes_of, tools}
use Rattle.line_shapes.proofs.tools.tool_shapes.Goals as goal

pub returns : goal.returns
unfolding tools
returns c = subst (λ name. IfOk c.shapes_named.result (λ shapes. map shape_parts shapes.items ≡ shapes_of name)) c.as_bytes.ensures.value c.shapes_named.ensures

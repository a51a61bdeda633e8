use Rattle.std.proofs.Common.{◌≡◌, ◌++◌, string_bytes, drop}
use Rattle.oxc_handlers.specs.Gutters.{gutter_from}
use Rattle.oxc_handlers.proofs.gutter.render_line_gutter.Given as goal

abbrev pub invariant-loop-bar : goal.invariant-loop-bar
invariant-loop-bar l = record {
  place : l.place ≡ l.bar-index;
  ahead : string_bytes l.out ++ gutter_from l.setting l.place (drop l.bar-index l.bars) ≡ string_bytes l.initial.out ++ gutter_from l.setting 0 l.bars;
}

use Rattle.std.proofs.Common.{◌≡◌, ◌++◌, string_bytes, drop}
use Rattle.oxc_handlers.specs.Gutters.{below_from}
use Rattle.oxc_handlers.proofs.gutter.render_highlight_gutter.Given as goal

abbrev pub invariant-loop-bar : goal.invariant-loop-bar
invariant-loop-bar l = record {
  place : l.place ≡ l.bar-index;
  ahead : string_bytes l.out ++ below_from l.setting l.mode l.place (drop l.bar-index l.bars) ≡ string_bytes l.initial.out ++ below_from l.setting l.mode 0 l.bars;
}

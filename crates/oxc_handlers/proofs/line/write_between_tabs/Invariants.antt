use Rattle.std.proofs.Common.{◌≡◌, ◌+◌, ◌*◌, ◌≤◌, ◌++◌, length, string_bytes}
use denote.Text.{Utf8}
use denote.Shadow.{shadow}
use Rattle.oxc_handlers.specs.Texts.{IsAsciiWithoutEscapes}
use Rattle.oxc_handlers.proofs.TabsLemmas.{bytes_from}
use Rattle.oxc_handlers.proofs.line.write_between_tabs.Given as goal

-- what is left is drawn next, from the column that is reached, and there is room for it
abbrev pub invariant-loop-at : goal.invariant-loop-at
invariant-loop-at l = record {
  text : shadow (Utf8 l.rest);
  ascii : IsAsciiWithoutEscapes l.rest;
  drawn : string_bytes l.out ++ bytes_from l.tabs l.column l.rest ≡ string_bytes l.initial.out ++ bytes_from l.tabs 0 l.text;
  room : l.column + 17 * length l.rest ≤ 17 * length l.text;
}

abbrev pub decreases-loop-at : goal.decreases-loop-at
decreases-loop-at l = length l.rest

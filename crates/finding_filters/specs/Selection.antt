-- Which findings were asked for.
use Rattle.std.specs.Prelude.{ℕ, ◌==◌, ◌&&◌, ◌||◌, not, nat_le, Bool, true, List, length, Option, Some, None}
use Rattle.std.specs.List.{list_any}
use Rattle.std.specs.Str.{chars}
use Rattle.oxc_protocol.specs.declared.protocol.Severity.{Severity}
use Rattle.oxc_protocol.specs.declared.protocol.Severity.TheVariants.{Advice, Warning, Error}
use Rattle.finding_filters.specs.Finding.{FindingParts}
use Rattle.finding_filters.specs.Patterns.{GlobParts, glob_takes, rule_takes}
use Rattle.finding_filters.specs.declared.selection.Selection.{Selection}
use Rattle.finding_filters.specs.declared.tokens.Token.{Token}

abbrev pub rank : Severity → ℕ
rank Advice = 1
rank Warning = 2
rank Error = 3

-- a severity is at or above the lowest one
abbrev pub reaches : Option Severity → Severity → Bool
reaches None severity = true
reaches (Some least) severity = nat_le (rank least) (rank severity)

abbrev pub any_glob : List GlobParts → List ℕ → Bool
any_glob globs file = list_any (λ glob. glob_takes glob (chars file)) globs

abbrev pub any_rule : List (List Token) → List ℕ → List ℕ → Bool
any_rule rules scope code = list_any (λ rule. rule_takes rule scope code) rules

-- a file was asked for, and not left out; what has no file passes
abbrev pub in_files : Selection → List ℕ → Bool
in_files selection file =
    length file == 0 || ((length selection.include.items == 0 || any_glob selection.include.items file) && not (any_glob selection.exclude.items file))

-- and so was its rule
abbrev pub in_rules : Selection → List ℕ → List ℕ → Bool
in_rules selection scope code =
    (length selection.select.items == 0 || any_rule selection.select.items scope code) && not (any_rule selection.ignore.items scope code)

-- a finding was asked for
unfoldable pub is_selected : Selection → FindingParts → Bool
is_selected selection it = reaches selection.least it.severity && in_files selection it.file && in_rules selection it.scope it.code

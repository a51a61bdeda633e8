-- What the map has of the name is its number.
use Rattle.std.proofs.Common.{Some, sym, subst}
use Rattle.line_reports.specs.Gathered.{IsNumber}
use Rattle.line_reports.proofs.NumberLemmas.{number_low, number_name}
use Rattle.json_reports.proofs.gathered.Gathered.number.Goals as goal

pub returns-in-Some : goal.returns-in-Some
returns-in-Some c =
    let files = c.args.self.now.found.files in
    let name = c.args.name.now in
    let found = Some c.in-Some.file.now in
    let number : IsNumber files name found = subst (IsNumber files name) (sym c.in-Some.ensures.value) (c.requires name) in
    record { number = number; file = number_low files name found number; named = number_name files name found number }

pub returns-in-None-clause-number : goal.returns-in-None-clause-number
returns-in-None-clause-number c = subst (IsNumber c.args.self.now.found.files c.args.name.now) (sym c.in-None.ensures.value) (c.requires c.args.name.now)

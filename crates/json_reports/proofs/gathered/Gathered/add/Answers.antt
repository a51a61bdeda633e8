-- The file comes behind the others, under its name.
use Rattle.std.proofs.Common.{◌∙◌, string_bytes}
use Rattle.found_reports.specs.Held.{held_of}
use Rattle.line_reports.proofs.NumberLemmas.{listed_behind}
use Rattle.json_reports.proofs.gathered.Gathered.add.Goals as goal

pub returns-clause-listed : goal.returns-clause-listed
returns-clause-listed c =
    let old = c.args.self.now in
    let added = c.in_ok-file.ensures in
    listed_behind old.numbers c.insert.new.self old.found c.add_file.new.self (record { name = string_bytes c.args.name; held = held_of c.held.result }) c.in_ok-key.key c.in_ok-file.file
    c.requires.listed c.requires.new added.added added.found added.number c.in_ok-insert.ensures.updates (c.in_ok-key.ensures.ok ∙ c.as_str-2.ensures.value)

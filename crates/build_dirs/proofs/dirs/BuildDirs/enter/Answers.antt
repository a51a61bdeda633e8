-- Both lists have one more.
use Rattle.std.proofs.Common.{refl, ap, map, ◌∙◌, List, ℕ}
use Rattle.std.specs.String.{string_bytes}
use Rattle.build_dirs.specs.Dirs.{appended}
use Rattle.build_dirs.proofs.DirLemmas.{entered_if, map_appended}
use Rattle.build_dirs.proofs.dirs.BuildDirs.enter.Goals as goal

pub returns-clause-entered : goal.returns-clause-entered
returns-clause-entered c =
    entered_if c.push_last-2.result c.args.self.now _ c.args.program.now (string_bytes c.args.path) c.args.level _ c.in_ok-program.ensures.ok refl refl c.push_last-2.ensures.ok
    (ap (map string_bytes) c.in_ok-push_last.ensures.ok ∙ map_appended string_bytes c.args.self.now.ever.items c.in_ok-clone.field-0
    ∙ ap (λ (p : List ℕ). appended (map string_bytes c.args.self.now.ever.items) p) c.in_ok-clone.ensures.cases)

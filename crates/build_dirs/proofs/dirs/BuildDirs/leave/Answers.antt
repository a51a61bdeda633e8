-- The last equal one is removed.
use Rattle.std.proofs.Common.{◌∙◌, refl, inr, sym, ap, map}
use Rattle.build_dirs.specs.Dirs.{DirsParts, dir_of, ever_of, opens_of}
use Rattle.build_dirs.proofs.DirLemmas.{left_last, left_none, map_remove}
use Rattle.build_dirs.proofs.dirs.BuildDirs.leave.Goals as goal

pub returns-in-Some-clause-left : goal.returns-in-Some-clause-left
returns-in-Some-clause-left c = record {
  ever = refl;
  opens = inr (c.in-Some.k, (c.in-Some.ensures, ap (map dir_of) c.remove-left.ensures.items ∙ map_remove c.args.self.now.open.items c.in-Some.k));
}

pub returns-in-Some-clause-parts : goal.returns-in-Some-clause-parts
returns-in-Some-clause-parts c =
    ap (λ ds. record { opens = ds; ever = ever_of c.args.self.now })
    (ap (map dir_of) c.remove-left.ensures.items ∙ map_remove c.args.self.now.open.items c.in-Some.k
    ∙ sym (left_last (opens_of c.args.self.now) c.args.program.now c.args.path.now c.args.level c.in-Some.k c.in-Some.ensures))

pub returns-in_default-clause-parts : goal.returns-in_default-clause-parts
returns-in_default-clause-parts c =
    ap (λ ds. record { opens = ds; ever = ever_of c.args.self.now })
    (sym (left_none (opens_of c.args.self.now) c.args.program.now c.args.path.now c.args.level c.in_default.ensures))

-- One directory after another, from the last.
use Rattle.std.proofs.Common.{◌-◌, ◌∙◌, ap, arith}
use Rattle.std.proofs.lemmas.List.{length-map, take_all}
use Rattle.build_dirs.specs.Dirs.{base_of, dir_of, opens_of}
use Rattle.build_dirs.proofs.DirLemmas.{base_end, base_found, base_goes}
use Rattle.build_dirs.proofs.dirs.BuildDirs.base.Goals as goal

pub loop-k-init : goal.loop-k-init
loop-k-init c =
    let size = c.len-k.ensures ∙ c.args.self.now.open.ok.0 in
    record {
      within = omega (arith, size);
      rest = ap (λ ds. base_of ds c.args.level) (take_all c.len-k.result (opens_of c.args.self.now) (omega (arith, size, length-map c.args.self.now.open.items dir_of)));
    }

pub returns-then-dir-level : goal.returns-then-dir-level
returns-then-dir-level c =
    base_found c.args.self.now.open.items c.args.level c.loop-k.k (c.loop-k.k - 1) c.index-dir.result.now c.as_str.result.now _ (omega arith) (omega (arith, c.loop-k.invariant.within)) c.index-dir.ensures
    c.if-dir-level.true c.as_str.ensures.value c.loop-k.invariant.rest

pub loop-k-preserved : goal.loop-k-preserved
loop-k-preserved c = record {
  within = omega (arith, c.loop-k.invariant.within);
  rest = base_goes c.args.self.now.open.items c.args.level c.loop-k.k (c.loop-k.k - 1) c.index-dir.result.now _ (omega arith) (omega (arith, c.loop-k.invariant.within)) c.index-dir.ensures c.if-dir-level.false
      c.loop-k.invariant.rest;
}

pub returns : goal.returns
returns c = base_end (opens_of c.args.self.now) c.args.level c.loop-k.k _ (omega arith) c.loop-k.invariant.rest

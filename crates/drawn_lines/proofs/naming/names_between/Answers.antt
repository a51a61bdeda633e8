-- One piece more is named, and in the end all are.
use Rattle.std.proofs.Common.{◌∙◌, Bor, ℕ, List, map, refl, sym, arith}
use Rattle.std.proofs.lemmas.Bool.Decides.{nat_tests}
use Rattle.build_dirs.specs.Dirs.{dirs_parts}
use Rattle.drawn_lines.proofs.NamedLemmas.{agrees_added, dirs_step, dirs_there, names_begun, names_done, names_step, tried_all, tried_begun, tried_no_more, tried_step}
use Rattle.drawn_lines.proofs.naming.names_between.Goals as goal

pub loop-rest-init : goal.loop-rest-init
loop-rest-init g c = record {
  names = λ given agrees. names_begun c.new-names.result.items _ c.new-names.ensures.items;
  tried = λ given agrees. tried_begun _ _ _;
  dirs = refl;
}

pub loop-rest-preserved : goal.loop-rest-preserved
loop-rest-preserved g c =
    let told = g.S.Store.told c.args.store.now in
    let dirs = dirs_parts c.loop-rest.dirs in
    let before = c.loop-rest.sources.entries.items in
    let now = c.name_of.new.sources.entries.items in
    record {
      names = λ given agrees.
          names_step c.args.root.now given dirs (dirs_parts c.turn.new.dirs) c.loop-rest.left.now c.front.result.now c.behind-left.result.now c.loop-rest.rest.now _
          c.loop-rest.names.items c.push.new.self.items c.in_ok-name.name _ c.in-len1-up.len_at_least c.front.ensures c.behind-left.ensures c.in_ok-turn.ensures c.in_ok-push.ensures.items
          (c.in_ok-name.ensures.name given agrees) (c.loop-rest.invariant.names given (agrees_added told before now _ given (c.in_ok-name.ensures.tried given agrees) agrees));
      tried = λ given agrees.
          tried_step told c.args.sources.now.entries.items before now c.args.root.now given dirs (dirs_parts c.turn.new.dirs) c.loop-rest.left.now c.front.result.now c.behind-left.result.now
          c.loop-rest.rest.now _ _ c.in-len1-up.len_at_least c.front.ensures c.behind-left.ensures c.in_ok-turn.ensures
          (c.loop-rest.invariant.tried given (agrees_added told before now _ given (c.in_ok-name.ensures.tried given agrees) agrees)) (c.in_ok-name.ensures.tried given agrees);
      dirs = dirs_step dirs (dirs_parts c.turn.new.dirs) _ c.loop-rest.left.now c.front.result.now c.behind-left.result.now c.loop-rest.rest.now _ c.in-len1-up.len_at_least c.front.ensures
          c.behind-left.ensures c.in_ok-turn.ensures c.loop-rest.invariant.dirs;
    }

pub returns-clause-names : goal.returns-clause-names
returns-clause-names g c = λ given agrees.
    names_done c.args.root.now given (dirs_parts c.loop-rest.dirs) (map (λ (line : Bor (List ℕ)). line.now) c.loop-rest.left.now) c.loop-rest.rest.now c.loop-rest.names.items _
    (grind (arith, nat_tests)) (c.loop-rest.invariant.names given agrees)

pub returns-clause-tried : goal.returns-clause-tried
returns-clause-tried g c = λ given agrees.
    tried_all (g.S.Store.told c.args.store.now) c.args.sources.now.entries.items c.loop-rest.sources.entries.items _ _
    (tried_no_more c.args.root.now given (dirs_parts c.loop-rest.dirs) (map (λ (line : Bor (List ℕ)). line.now) c.loop-rest.left.now) c.loop-rest.rest.now (grind (arith, nat_tests)))
    (c.loop-rest.invariant.tried given agrees)

pub returns-clause-dirs : goal.returns-clause-dirs
returns-clause-dirs g c =
    sym (dirs_there (dirs_parts c.loop-rest.dirs) (map (λ (line : Bor (List ℕ)). line.now) c.loop-rest.left.now) c.loop-rest.rest.now (grind (arith, nat_tests))) ∙ c.loop-rest.invariant.dirs

use Rattle.std.proofs.Common.{◌≡◌, ℕ, ◌+◌, ◌<◌, ◌≤◌, ◌∙◌, List, [], ◌∷◌, length, take, drop, sym, ap, ap₂, subst, arith}
use Rattle.std.proofs.lemmas.List.{length-append, length-drop, take-append-drop, drop-drop, take_rest}
use Rattle.lsp_server.specs.Ends.{shown, Ends, IsMessage, Read}
use Rattle.lsp_server.specs.Run.{Machine, after, bodies}
use Rattle.lsp_server.specs.declared.frames.End.{End}
use Rattle.lsp_server.proofs.Runs.{bodies-append}
use Rattle.editor_tests.proofs.callers.count_in.Goals as goal

-- the bodies that are read, and those to come
count_on : (old new : Machine) (bytes : List ℕ) (n : ℕ) (said : List (List ℕ)) → Read old bytes n new said
    → length (bodies old bytes) ≡ length said + length (bodies new (drop n bytes))
count_on old new bytes n said is =
    ap (λ xs. length (bodies old xs)) (sym (take-append-drop n bytes))
    ∙ (ap length (bodies-append old (take n bytes) (drop n bytes))
    ∙ (length-append (bodies old (take n bytes)) (bodies (after old (take n bytes)) (drop n bytes))
    ∙ ap₂ (λ (xs : List (List ℕ)) (m : Machine). length xs + length (bodies m (drop n bytes))) is.ends is.leads))

pub loop-used-preserved-in-Message : goal.loop-used-preserved-in-Message
loop-used-preserved-in-Message c =
    let bytes = c.args.bytes.now in
    let used = c.loop-used.used in
    let n = c.next-taken.result.used in
    let old = shown c.loop-used.frames in
    let new = shown c.next-taken.new.self in
    let is : Read old (drop used bytes) n new (c.in-Message.field-0.items ∷ []) =
    subst (λ (e : End). Ends e old (drop used bytes) n new) c.in-Message.is (rw take_rest at c.next-taken.ensures.ends) in
    let within : n ≤ length (drop used bytes) = rw take_rest at c.next-taken.ensures.within in
    let some : 0 < n = c.next-taken.ensures.message (subst IsMessage (sym c.in-Message.is) tt) in
    let read = count_on old new (drop used bytes) n (c.in-Message.field-0.items ∷ []) is in
    let rest = ap (λ xs. length (bodies new xs)) (drop-drop n used bytes) in
    record {
      within = omega (arith, within, length-drop used bytes, c.loop-used.invariant.within);
      few = omega (arith, some, c.loop-used.invariant.few);
      all = omega (arith, read, rest, c.loop-used.invariant.all);
    }

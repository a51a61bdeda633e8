-- A block is a note of the finding before it, or ends its run.
use Rattle.std.proofs.Common.{◌++◌, Bor, ℕ, List, map, replicate, true, false, sym, ap, ap₂, ◌∙◌, append_assoc}
use Rattle.std.proofs.lemmas.Bool.{and_parts}
use Rattle.std.proofs.lemmas.Result.{IfOk-weaker}
use Rattle.build_dirs.specs.Again.{Seen, seen_in}
use Rattle.tool_lines.specs.Lines.{piece_parts}
use Rattle.drawn_lines.specs.Again.{RunParts, Sign, begun_by, flags_from, run_parts, seen_from, sign_of, was_printed}
use Rattle.drawn_lines.proofs.AgainLemmas.{ended_flags, ended_seen, joined_flags, joined_seen}
use Rattle.drawn_lines.proofs.again.go_on.Goals as goal

pub returns-then-goes_on-clause-flags : goal.returns-then-goes_on-clause-flags
returns-then-goes_on-clause-flags c =
    let lines = map (λ (line : Bor (List ℕ)). line.now) c.args.lines.now in
    let s : Sign = sign_of lines (piece_parts c.args.piece.now) in
    let run : RunParts = run_parts c.args.run in
    let both = and_parts run.found s.joins (sym (c.goes_on.ensures lines) ∙ c.if-goes_on.true) in
    IfOk-weaker c.longer.result _ _
    (λ next is. λ more.
    ap (λ (r : RunParts). c.args.flags.now.items ++ flags_from (seen_in c.args.seen.now) r more) is
    ∙ ap (λ fs. c.args.flags.now.items ++ fs) (joined_flags (seen_in c.args.seen.now) run s more both.0 both.1))
    c.longer.ensures

pub returns-then-goes_on-clause-seen : goal.returns-then-goes_on-clause-seen
returns-then-goes_on-clause-seen c =
    let lines = map (λ (line : Bor (List ℕ)). line.now) c.args.lines.now in
    let s : Sign = sign_of lines (piece_parts c.args.piece.now) in
    let run : RunParts = run_parts c.args.run in
    let both = and_parts run.found s.joins (sym (c.goes_on.ensures lines) ∙ c.if-goes_on.true) in
    IfOk-weaker c.longer.result _ _
    (λ next is. λ more.
    ap (λ (r : RunParts). seen_from (seen_in c.args.seen.now) r more) is ∙ joined_seen (seen_in c.args.seen.now) run s more both.0 both.1)
    c.longer.ensures

pub returns-clause-flags : goal.returns-clause-flags
returns-clause-flags c =
    let lines = map (λ (line : Bor (List ℕ)). line.now) c.args.lines.now in
    let s : Sign = sign_of lines (piece_parts c.args.piece.now) in
    let run : RunParts = run_parts c.args.run in
    let old : Seen = seen_in c.args.seen.now in
    let first = replicate c.args.run.count (was_printed old run) in
    IfOk-weaker c.begun.result _ _
    (λ next is. λ more.
    ap (λ (r : RunParts). c.close.new.flags.items ++ flags_from (seen_in c.close.new.seen) r more) is
    ∙ ap₂ (λ fs (k : Seen). fs ++ flags_from k (begun_by s) more) c.in_ok-close.ensures.flags c.in_ok-close.ensures.seen
    ∙ append_assoc c.args.flags.now.items first _
    ∙ ap (λ fs. c.args.flags.now.items ++ fs) (sym (ended_flags old run s more (sym (c.goes_on.ensures lines) ∙ c.if-goes_on.false))))
    c.begun.ensures

pub returns-clause-seen : goal.returns-clause-seen
returns-clause-seen c =
    let lines = map (λ (line : Bor (List ℕ)). line.now) c.args.lines.now in
    let s : Sign = sign_of lines (piece_parts c.args.piece.now) in
    let run : RunParts = run_parts c.args.run in
    let old : Seen = seen_in c.args.seen.now in
    IfOk-weaker c.begun.result _ _
    (λ next is. λ more.
    ap (λ (r : RunParts). seen_from (seen_in c.close.new.seen) r more) is
    ∙ ap (λ (k : Seen). seen_from k (begun_by s) more) c.in_ok-close.ensures.seen
    ∙ sym (ended_seen old run s more (sym (c.goes_on.ensures lines) ∙ c.if-goes_on.false)))
    c.begun.ensures

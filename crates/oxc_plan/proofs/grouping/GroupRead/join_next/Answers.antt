use Rattle.std.proofs.Common.{◌≡◌, ◌+◌, ◌∙◌, ℕ, length, sym, subst, arith}
use Rattle.oxc_windows.specs.Breaks.{breaks_of}
use Rattle.oxc_windows.specs.Window.{window_at}
use Rattle.oxc_plan.specs.Groups.{largest_end, span_at}
use Rattle.oxc_plan.specs.Keeping.{KeepsRows}
use Rattle.oxc_plan.proofs.GroupsLemmas.{largest_end_more}
use Rattle.oxc_plan.proofs.grouping.GroupRead.join_next.Goals as goal

pub returns-then-end-self-clause-read : goal.returns-then-end-self-clause-read
returns-then-end-self-clause-read c =
    let is = c.requires.read in
    let places = c.args.self.now.places in
    record {
      start = is.start;
      end = omega (arith, largest_end_more c.args.spans.now places.start places.end (omega (arith, c.requires.some)) c.requires.more, is.end, c.if-end-self.true);
      ordered = is.ordered;
      inside = is.inside;
      contents = is.contents;
      text = is.text;
      measured = is.measured;
      numbered = is.numbered;
    }

pub returns-then-end-self-clause-keeps : goal.returns-then-end-self-clause-keeps
returns-then-end-self-clause-keeps c =
    let places = c.args.self.now.places in
    let source = c.args.scanner.now.input in
    let start = (span_at c.args.spans.now places.start).start in
    let same : largest_end c.args.spans.now places.start places.end ≡ largest_end c.args.spans.now places.start (places.end + 1) =
    omega (arith, largest_end_more c.args.spans.now places.start places.end (omega (arith, c.requires.some)) c.requires.more, c.requires.read.end, c.if-end-self.true) in
    subst (λ e. KeepsRows source c.args.scanner.now start (window_at (length source) (breaks_of source) 1 1 start e).end) same c.requires.keeps

pub returns-clause-read : goal.returns-clause-read
returns-clause-read c =
    let is = c.requires.read in
    let places = c.args.self.now.places in
    record {
      start = is.start;
      end = omega (arith, largest_end_more c.args.spans.now places.start places.end (omega (arith, c.requires.some)) c.requires.more, is.end, c.if-end-self.false);
      ordered = omega (arith, is.ordered, c.if-end-self.false);
      inside = (c.requires.within places.end (record { start = 0; end = 0 }) c.requires.more).1;
      contents = c.in_ok-self.ensures.exact;
      text = c.in_ok-self.ensures.text;
      measured = c.in_ok-self.ensures.measured;
      numbered = c.in_ok-self.ensures.numbered;
    }

pub returns-clause-keeps : goal.returns-clause-keeps
returns-clause-keeps c =
    let is = c.requires.read in
    let places = c.args.self.now.places in
    let source = c.args.scanner.now.input in
    let spans = c.args.spans.now in
    let end = (span_at spans places.end).end in
    let largest : end ≡ largest_end spans places.start (places.end + 1) =
    omega (arith, largest_end_more spans places.start places.end (omega (arith, c.requires.some)) c.requires.more, is.end, c.if-end-self.false) in
    subst (λ (e : ℕ). KeepsRows source c.read.new.scanner (span_at spans places.start).start (window_at (length source) (breaks_of source) 1 1 (span_at spans places.start).start e).end) largest
    (subst (λ (s : ℕ). KeepsRows source c.read.new.scanner s (window_at (length source) (breaks_of source) 1 1 s end).end) is.start c.in_ok-self.ensures.keeps)

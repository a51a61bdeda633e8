use Rattle.std.proofs.Common.{◌∙◌, length, ap, arith, rules, slice_range, subst, sym}
use Rattle.std.specs.Str.{IsUtf8}
use Rattle.oxc_windows.specs.Breaks.{breaks_of}
use Rattle.oxc_windows.specs.Valid.{breaks_valid}
use Rattle.oxc_windows.specs.Scan.{IsReadInRows}
use Rattle.oxc_windows.proofs.KeptLemmas.{keeps_of}
use Rattle.oxc_windows.proofs.ReadLemmas.{window_in}
use Rattle.oxc_windows.proofs.TextLemmas.{window_text}
use Rattle.oxc_windows.proofs.scanner.SpanScanner.read_span_counted.Goals as goal

pub contents_in-requires-clause-ordered : goal.contents_in-requires-clause-ordered
contents_in-requires-clause-ordered g c = (window_in (length c.self.inside.source.bytes.now) (breaks_of c.self.inside.source.bytes.now) c.self.inside.index.before c.self.inside.index.after c.args.span.start c.args.span.end c.in-Some.window (breaks_valid c.self.inside.source.bytes.now) c.requires (sym c.in-Some.is ∙ c.in_ok-window.ensures.window.value)).ordered

pub contents_in-requires-clause-within : goal.contents_in-requires-clause-within
contents_in-requires-clause-within g c = rw c.bytes.ensures (window_in (length c.self.inside.source.bytes.now) (breaks_of c.self.inside.source.bytes.now) c.self.inside.index.before c.self.inside.index.after c.args.span.start c.args.span.end c.in-Some.window (breaks_valid c.self.inside.source.bytes.now) c.requires (sym c.in-Some.is ∙ c.in_ok-window.ensures.window.value)).within

pub returns-clause-read : goal.returns-clause-read
returns-clause-read g c =
    let inside = c.self.inside in
    let input = inside.source.bytes.now in
    let window = c.in-Some.window in
    let facts = (window_in (length c.self.inside.source.bytes.now) (breaks_of c.self.inside.source.bytes.now) c.self.inside.index.before c.self.inside.index.after c.args.span.start c.args.span.end c.in-Some.window (breaks_valid c.self.inside.source.bytes.now) c.requires (sym c.in-Some.is ∙ c.in_ok-window.ensures.window.value)) in
    let line = ap (λ contents. contents.line) c.contents_in.ensures.exact in
    let count = ap (λ contents. contents.line_count) c.contents_in.ensures.exact in
    record {
      value = search rules;
      none = search rules;
      text = subst (λ scan. IsReadInRows scan → IsUtf8 c.contents_in.result.bytes) c.self.view_is
          (λ is.
          subst IsUtf8 (sym (ap (λ contents. contents.bytes) c.contents_in.ensures.exact ∙ ap (λ text. slice_range text window.begin window.end) c.bytes.ensures))
          (window_text input inside.index.before inside.index.after c.args.span.start c.args.span.end window is.text is.before is.after facts.ordered facts.exact));
      measured = search rules;
      numbered = (omega (arith, line, facts.line, c.self.inside.source.short), omega (arith, count, facts.count, c.self.inside.source.short));
      unchanged = search rules;
      refused = search rules;
      still = search rules;
      first = search rules;
      first_stays = search rules;
      kept = search rules;
      stay = search rules;
      held = λ first e le other f.
          keeps_of _ _ c.self.inside.index.before c.read.new.self.before c.in_ok-window.field-0 c.in-Some.window first other c.contents_in.result.span.end c.read.new.self.first _
          c.read.ensures.window.before c.in-Some.is (ap (λ contents. contents.span.end) c.contents_in.ensures.exact) e f (c.in_ok-window.ensures.rows.held first e le);
      left = search rules;
    }

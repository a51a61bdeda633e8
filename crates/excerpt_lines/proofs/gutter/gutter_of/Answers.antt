-- A line without a sign after its runs, or with a number of another form, has no gutter.
use Rattle.std.proofs.Common.{arith, ◌<◌, sym, ◌∙◌}
use Rattle.excerpt_lines.proofs.GutterLemmas.{AreRuns, no_sign, no_number}
use Rattle.excerpt_lines.proofs.gutter.gutter_of.Goals as goal

pub returns-in_default-clause-none : goal.returns-in_default-clause-none
returns-in_default-clause-none c =
    let runs : AreRuns c.args.line.now c.run_from-digits.result c.run_from-digits_end.result c.run_from-bar.result = record {
      lead = omega (arith, c.lead.ensures.value);
      blanks = rw (← c.lead.ensures.value) c.run_from-digits.ensures.each;
      blanks_end = c.run_from-digits.ensures.stops;
      digits_so = c.run_from-digits_end.ensures.from;
      digits_each = c.run_from-digits_end.ensures.each;
      digits_over = c.run_from-digits_end.ensures.stops;
      gap_so = c.run_from-bar.ensures.from;
      gap = c.run_from-bar.ensures.each;
      gap_end = c.run_from-bar.ensures.stops;
    } in
    no_sign _ _ _ _ runs c.in_default.ensures.none

pub returns-in_default-number_of-clause-none : goal.returns-in_default-number_of-clause-none
returns-in_default-number_of-clause-none c =
    let runs : AreRuns c.args.line.now c.run_from-digits.result c.run_from-digits_end.result c.run_from-bar.result = record {
      lead = omega (arith, c.lead.ensures.value);
      blanks = rw (← c.lead.ensures.value) c.run_from-digits.ensures.each;
      blanks_end = c.run_from-digits.ensures.stops;
      digits_so = c.run_from-digits_end.ensures.from;
      digits_each = c.run_from-digits_end.ensures.each;
      digits_over = c.run_from-digits_end.ensures.stops;
      gap_so = c.run_from-bar.ensures.from;
      gap = c.run_from-bar.ensures.each;
      gap_end = c.run_from-bar.ensures.stops;
    } in
    let some : c.run_from-digits.result < c.run_from-digits_end.result = omega arith in
    no_number _ _ _ _ runs some (sym c.number_of.ensures ∙ c.in_default-number_of.is)

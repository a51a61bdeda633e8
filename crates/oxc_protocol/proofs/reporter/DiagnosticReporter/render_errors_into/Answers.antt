use Rattle.std.proofs.Common.{rules, arith, refl}
use Rattle.std.specs.Fn.{CalledAt}
use denote.Param.Always.{mut_next}
use Rattle.oxc_protocol.proofs.RendersLemmas.{all_given, all_silent, ends, front_given, front_silent, on_err, stops}
use Rattle.oxc_protocol.proofs.reporter.DiagnosticReporter.render_errors_into.Goals as goal

pub returns-in_err-text-clause-front : goal.returns-in_err-text-clause-front
returns-in_err-text-clause-front g c = on_err _ (c.loop-error.invariant.4 _ (stops _ _ _ _ _ _))

pub loop-error-preserved-in-Some-2 : goal.loop-error-preserved-in-Some-2
loop-error-preserved-in-Some-2 g c =
    let given = rw c.in-Some-2.is at c.in_ok-text.ensures in
    let emitted : CalledAt g.F.FnMut c.loop-error.emit _ tt c.emit.new.self = record { shown = c.as_str.result; shows = c.as_str.ensures.value; called = c.emit.ensures } in (
      tt,
      tt,
      mut_next g.F.FnMut _ _ _ _ _ c.emit.ensures refl c.loop-error.invariant.2,
      λ t h run. c.loop-error.invariant.3 t h (all_given _ _ _ c.loop-error.error-iterator.rest.items c.next.new.self.rest.items c.in-Some.error c.loop-error.self c.render_error.new.self t c.loop-error.emit c.emit.new.self h _ (search rules) given emitted run),
      λ h run. c.loop-error.invariant.4 h (front_given _ _ _ c.loop-error.error-iterator.rest.items c.next.new.self.rest.items c.in-Some.error c.loop-error.self c.render_error.new.self c.loop-error.emit c.emit.new.self h _ (search rules) given emitted run),
    )

pub loop-error-preserved : goal.loop-error-preserved
loop-error-preserved g c =
    let silent = rw c.in_default.is at c.in_ok-text.ensures in (
      tt,
      tt,
      search rules,
      λ t h run. c.loop-error.invariant.3 t h (all_silent _ _ _ c.loop-error.error-iterator.rest.items c.next.new.self.rest.items c.in-Some.error c.loop-error.self c.render_error.new.self t c.loop-error.emit h (search rules) silent run),
      λ h run. c.loop-error.invariant.4 h (front_silent _ _ _ c.loop-error.error-iterator.rest.items c.next.new.self.rest.items c.in-Some.error c.loop-error.self c.render_error.new.self c.loop-error.emit h (search rules) silent run),
    )

pub returns-clause-all : goal.returns-clause-all
returns-clause-all g c = c.loop-error.invariant.3 _ _ (ends _ _ _ _ _ _ (omega (arith, c.loop-error.error-iterator.rest.ok, c.in-None.ensures)))

use Rattle.std.proofs.Common.{refl, sym, subst, ◌∙◌, rules, arith}
use denote.Param.Always.{mut_next}
use Rattle.oxc_protocol.specs.Reporters.{KeptAt}
use Rattle.oxc_protocol.proofs.RendersLemmas.{ends_until, keeps_front, kept_leads, on_err, silent_leads, until_refused}
use Rattle.oxc_protocol.proofs.reporter.DiagnosticReporter.render_errors_until_into.Goals as goal
use Rattle.oxc_protocol.proofs.reporter.DiagnosticReporter.render_errors_until_into.Goals.{in-Some-2+else-not-wanted, in_default}

pub returns-in_err-name-clause-front : goal.returns-in_err-name-clause-front
returns-in_err-name-clause-front g c = on_err _ (c.loop-error.invariant.4 _ (keeps_front _ _ _ _ _ _))

pub returns-in_err-text-clause-front : goal.returns-in_err-text-clause-front
returns-in_err-text-clause-front g c = on_err _ (c.loop-error.invariant.4 _ (keeps_front _ _ _ _ _ _))

pub returns-then-not-wanted-clause-until : goal.returns-then-not-wanted-clause-until
returns-then-not-wanted-clause-until g c =
    let given = rw c.in-Some-2.is at c.in_ok-text.ensures in
    let refused = rw c.if-not-wanted.true at c.keep-wanted.ensures in
    c.loop-error.invariant.3 _ _ (until_refused g.Self.DiagnosticReporter.renders (KeptAt (goal.F-step g)) _ c.loop-error.error-iterator.rest.items c.next.new.self.rest.items c.in-Some.error c.loop-error.self c.render_error.new.self c.loop-error.keep c.keep-wanted.new.self _ (search rules) given (record { shown_name = c.lent.result; shown = c.as_str.result; names = c.lent.ensures ∙ c.in_ok-name.ensures; shows = c.as_str.ensures.value; called = refused }))

pub loop-error-preserved-after-branch-3 : goal.loop-error-preserved-after-branch-3
loop-error-preserved-after-branch-3 g c =
    elim c.match-branch-3.branch [
      | in-Some-2+else-not-wanted w ↦
          let given = rw w.in-Some-2.is at c.in_ok-text.ensures in
          let kept = rw w.if-not-wanted.false at w.keep-wanted.ensures in
          let leads = kept_leads g.Self.DiagnosticReporter.renders (KeptAt (goal.F-step g)) _ c.loop-error.error-iterator.rest.items c.next.new.self.rest.items c.in-Some.error c.loop-error.self c.render_error.new.self c.loop-error.keep w.keep-wanted.new.self c.match-branch-3.keep _ (search rules) given (record { shown_name = w.lent.result; shown = w.as_str.result; names = w.lent.ensures ∙ c.in_ok-name.ensures; shows = w.as_str.ensures.value; called = kept }) w.keep-is in (
            tt,
            tt,
            subst (λ k. goal.F-IsAlwaysCallable g k) (sym w.keep-is) (mut_next g.F.FnMut _ _ _ _ _ w.keep-wanted.ensures refl c.loop-error.invariant.2),
            λ t h run. c.loop-error.invariant.3 t h (leads.until t h run),
            λ h run. c.loop-error.invariant.4 h (leads.front h run),
          )
      | in_default w ↦
          let silent = rw w.in_default.is at c.in_ok-text.ensures in
          let leads = silent_leads g.Self.DiagnosticReporter.renders (KeptAt (goal.F-step g)) _ c.loop-error.error-iterator.rest.items c.next.new.self.rest.items c.in-Some.error c.loop-error.self c.render_error.new.self c.loop-error.keep c.match-branch-3.keep (search rules) silent w.keep-is in (
            tt,
            tt,
            subst (λ k. goal.F-IsAlwaysCallable g k) (sym w.keep-is) c.loop-error.invariant.2,
            λ t h run. c.loop-error.invariant.3 t h (leads.until t h run),
            λ h run. c.loop-error.invariant.4 h (leads.front h run),
          )
    ]

pub loop-error-preserved : goal.loop-error-preserved
loop-error-preserved g c =
    elim c.match-branch-3.branch [
      | in-Some-2+else-not-wanted w ↦
          let given = rw w.in-Some-2.is at c.in_ok-text.ensures in
          let kept = rw w.if-not-wanted.false at w.keep-wanted.ensures in
          let leads = kept_leads g.Self.DiagnosticReporter.renders (KeptAt (goal.F-step g)) _ c.loop-error.error-iterator.rest.items c.next.new.self.rest.items c.in-Some.error c.loop-error.self c.render_error.new.self c.loop-error.keep w.keep-wanted.new.self c.match-branch-3.keep _ (search rules) given (record { shown_name = w.lent.result; shown = w.as_str.result; names = w.lent.ensures ∙ c.in_ok-name.ensures; shows = w.as_str.ensures.value; called = kept }) w.keep-is in (
            tt,
            tt,
            subst (λ k. goal.F-IsAlwaysCallable g k) (sym w.keep-is) (mut_next g.F.FnMut _ _ _ _ _ w.keep-wanted.ensures refl c.loop-error.invariant.2),
            λ t h run. c.loop-error.invariant.3 t h (leads.until t h run),
            λ h run. c.loop-error.invariant.4 h (leads.front h run),
          )
      | in_default w ↦
          let silent = rw w.in_default.is at c.in_ok-text.ensures in
          let leads = silent_leads g.Self.DiagnosticReporter.renders (KeptAt (goal.F-step g)) _ c.loop-error.error-iterator.rest.items c.next.new.self.rest.items c.in-Some.error c.loop-error.self c.render_error.new.self c.loop-error.keep c.match-branch-3.keep (search rules) silent w.keep-is in (
            tt,
            tt,
            subst (λ k. goal.F-IsAlwaysCallable g k) (sym w.keep-is) c.loop-error.invariant.2,
            λ t h run. c.loop-error.invariant.3 t h (leads.until t h run),
            λ h run. c.loop-error.invariant.4 h (leads.front h run),
          )
    ]

pub returns-clause-until : goal.returns-clause-until
returns-clause-until g c =
    c.loop-error.invariant.3 _ _ (ends_until g.Self.DiagnosticReporter.renders (KeptAt (goal.F-step g)) _ c.loop-error.error-iterator.rest.items c.loop-error.self c.loop-error.keep (omega (arith, c.loop-error.error-iterator.rest.ok, c.in-None.ensures)))

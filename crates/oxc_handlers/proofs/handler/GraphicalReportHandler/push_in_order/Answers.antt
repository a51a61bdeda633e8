use Rattle.std.proofs.Common.{◌≡◌, ◌<◌, ◌^◌, ◌∙◌, All, ap, arith, length, map, subst, sym}
use Rattle.oxc_plan.specs.Drawable.{IsDrawable}
use Rattle.oxc_plan.specs.Plan.{snippet_view}
use Rattle.oxc_protocol.specs.SourceViews.{ref_view, ref_views}
use Rattle.oxc_handlers.specs.Handler.{Handler}
use Rattle.oxc_handlers.specs.Report.{snippets_in, view_parts}
use Rattle.oxc_handlers.proofs.ReportLemmas.{known_snippets, no_snippets, same_bytes}
use Rattle.oxc_handlers.proofs.handler.GraphicalReportHandler.push_in_order.Goals as goal

pub push_planned-requires-clause-planned : goal.push_planned-requires-clause-planned
push_planned-requires-clause-planned c = no_snippets c.args.self.now.tab (view_parts c.args.view.now) (ap ref_views c.in_default.is)

pub push_planned-requires-2-clause-planned : goal.push_planned-requires-2-clause-planned
push_planned-requires-2-clause-planned c =
    subst (λ (h : Handler). map snippet_view c.deref.result.now ≡ snippets_in h.tab (view_parts c.args.view.now)) c.self.view_is
    (known_snippets c.self.inside.tabs (view_parts c.args.view.now) (ref_view c.in-Some._source) c.args.scanner.now.input (map snippet_view c.deref.result.now) (ap ref_views c.in-Some.is) c.requires.draw.source
    (ap (map snippet_view) c.deref.ensures.value ∙ c.in_ok-snippets.ensures.plan))

pub push_planned-requires-2-clause-drawable : goal.push_planned-requires-2-clause-drawable
push_planned-requires-2-clause-drawable c =
    let same = same_bytes (view_parts c.args.view.now) (ref_view c.in-Some._source) c.args.scanner.now.input (ap ref_views c.in-Some.is) c.requires.draw.source in
    let short : length c.args.scanner.now.input < 2 ^ 32 = omega (arith, c.in-Some._source.fits, ap length same) in (
      length c.args.scanner.now.input,
      short,
      subst (λ snippets. All (IsDrawable (length c.args.scanner.now.input) (length c.args.view.now.labels.now)) (map snippet_view snippets)) (sym c.deref.ensures.value) c.in_ok-snippets.ensures.drawable,
    )

use Rattle.std.proofs.Common.{◌≡◌, length, map}
use Rattle.line_shapes.specs.Place.{in_leads as place_in_leads}
use Rattle.line_shapes.proofs.place.in_leads.Given as goal

abbrev pub invariant-loop-leads : goal.invariant-loop-leads
invariant-loop-leads l = place_in_leads (map (λ lead. (lead.1.now, lead.2)) l.leads) l.line ≡ place_in_leads (map (λ lead. (lead.1.now, lead.2)) l.initial.leads) l.line

abbrev pub decreases-loop-leads : goal.decreases-loop-leads
decreases-loop-leads l = length l.leads

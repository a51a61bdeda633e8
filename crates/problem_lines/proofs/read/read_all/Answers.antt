use Rattle.std.proofs.Common.{◌≡◌, length, Some, None, option_map, map, subst, sym, ap, ◌∙◌, rules}
use Rattle.std.proofs.lemmas.List.{map_push, length-map}
use Rattle.std.proofs.lemmas.Bool.{eqb-true}
use Rattle.problem_lines.specs.Read.{IsRead}
use Rattle.oxc_protocol.specs.Info.{info_parts}
use Rattle.problem_lines.specs.Lines.{lines_of, AreRead, IsFirstOther}
use Rattle.problem_lines.proofs.ReadLemmas.{read_more, read_refused, read_end}
use Rattle.problem_lines.proofs.read.read_all.Goals as goal

pub returns-in-None-clause-cause : goal.returns-in-None-clause-cause
returns-in-None-clause-cause c =
    let count : c.len.result ≡ length c.loop-rest.infos.items = search rules in
    let none : IsRead c.first_line-parts.result.0.now None = subst (λ o. IsRead c.first_line-parts.result.0.now (option_map info_parts o)) c.in-None.is c.in_ok-info.ensures in
    subst (IsFirstOther (lines_of c.args.text.now)) (length-map c.loop-rest.infos.items info_parts ∙ sym count)
    (read_refused (map info_parts c.loop-rest.infos.items) c.loop-rest.rest.now c.first_line-parts.result.0.now c.first_line-parts.result.1.now c.args.text.now c.loop-rest.invariant.1 c.first_line-parts.ensures.lines none)

pub loop-rest-preserved : goal.loop-rest-preserved
loop-rest-preserved c =
    let some : IsRead c.first_line-parts.result.0.now (Some (info_parts c.in-Some.info)) = subst (λ o. IsRead c.first_line-parts.result.0.now (option_map info_parts o)) c.in-Some.is c.in_ok-info.ensures in (
      search rules,
      subst (λ items. AreRead items c.first_line-parts.result.1.now c.args.text.now) (sym (ap (map info_parts) c.in_ok-keep-in-Some.ensures ∙ map_push info_parts c.loop-rest.infos.items c.in-Some.info))
          (read_more (map info_parts c.loop-rest.infos.items) (info_parts c.in-Some.info) c.loop-rest.rest.now c.first_line-parts.result.0.now c.first_line-parts.result.1.now c.args.text.now c.loop-rest.invariant.1 c.first_line-parts.ensures.lines some.only),
    )

pub returns-clause-read : goal.returns-clause-read
returns-clause-read c =
    read_end (map info_parts c.loop-rest.infos.items) c.loop-rest.rest.now c.args.text.now c.loop-rest.invariant.1 (eqb-true (length c.loop-rest.rest.now) 0 (sym c.is_empty.ensures ∙ c.loop-rest-test.false))

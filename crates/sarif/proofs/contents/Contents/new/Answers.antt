-- One artifact more, before those that are there.
use Rattle.std.proofs.Common.{◌≡◌, ◌≤◌, ◌+◌, ◌-◌, ◌∷◌, ap, drop, length, map, subst, sym, ◌∙◌, arith}
use Rattle.std.proofs.lemmas.List.{drop_all, drop_more}
use Rattle.sarif_log.specs.Log.{artifact_view, names_view}
use Rattle.sarif.specs.Contents.{AreContents}
use Rattle.sarif.proofs.ContentsLemmas.{no_contents}
use Rattle.sarif.proofs.contents.Contents.new.Goals as goal

pub loop-at-init : goal.loop-at-init
loop-at-init c =
    let artifacts = c.args.names.now.artifacts.items in
    let all : c.len-at.result ≡ length artifacts = omega (arith, c.len-at.ensures, c.args.names.now.artifacts.ok.0) in (
      omega (arith, all),
      no_contents (names_view c.args.names.now) (map artifact_view (drop c.len-at.result artifacts)) c.new-by_name.result
          (ap (map artifact_view) (drop_all c.len-at.result artifacts (omega (arith, all)))) c.new-by_name.ensures.empty,
    )

pub loop-at-preserved : goal.loop-at-preserved
loop-at-preserved c =
    let names = c.args.names.now in
    let artifacts = names.artifacts.items in
    let at = c.loop-at.at - 1 in
    let artifact = c.index.result.now in
    let next : at + 1 ≡ c.loop-at.at = omega (arith, c.loop-at-test.true) in
    let within : at + 1 ≤ length artifacts = omega (arith, next, c.loop-at.invariant.0) in
    let before : AreContents (names_view names) (map artifact_view (drop (at + 1) artifacts)) c.loop-at.by_name =
    subst (λ n. AreContents (names_view names) (map artifact_view (drop n artifacts)) c.loop-at.by_name) (sym next) c.loop-at.invariant.1 in
    let here : drop at artifacts ≡ artifact ∷ drop (at + 1) artifacts =
    drop_more artifacts at artifact (omega (arith, within)) ∙ ap (λ it. it ∷ drop (at + 1) artifacts) (sym c.index.ensures) in (
      omega (arith, within),
      subst (λ those. AreContents (names_view names) (map artifact_view those) c.put_contents.new.by_name) (sym here)
          (c.in_ok-put_contents.ensures (map artifact_view (drop (at + 1) artifacts)) before),
    )

-- The map tells what the first artifact of a name has that has some.
use Rattle.std.proofs.Common.{ap, ◌∙◌}
use Rattle.sarif.specs.Seen.{borrowed}
use Rattle.sarif.specs.Texts.{contents_named}
use Rattle.sarif.proofs.contents.Contents.named.Goals as goal

pub returns-in-Some : goal.returns-in-Some
returns-in-Some c =
    ap borrowed c.in-Some.ensures.value ∙ c.self.invariant c.args.name.now ∙ ap (λ it. contents_named it c.args.name.now it.artifacts) c.self.view_is

pub returns-in-None : goal.returns-in-None
returns-in-None c =
    ap borrowed c.in-None.ensures.value ∙ c.self.invariant c.args.name.now ∙ ap (λ it. contents_named it c.args.name.now it.artifacts) c.self.view_is

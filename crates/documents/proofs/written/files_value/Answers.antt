-- One file more.
use Rattle.std.proofs.Common.{◌≡◌, [], arith, subst, sym}
use Rattle.std.proofs.lemmas.Grind.{common_steps}
use Rattle.std.proofs.lemmas.List.Elements.{All-more}
use Rattle.codespan.specs.Texts.{Fits, NamedText, text_of}
use Rattle.documents.proofs.written.files_value.Goals as goal

abbrev IsShort : NamedText → Type 0
IsShort file = Fits file.text

pub loop-index-preserved : goal.loop-index-preserved
loop-index-preserved c =
    let same : c.in-Some.file ≡ c.loop-index.index = grind (arith, common_steps) in
    record {
      values = grind (arith, common_steps);
      short = All-more IsShort c.args.files.now c.loop-index.index (record { name = []; text = [] }) (omega arith) c.loop-index.invariant.short
          (subst (λ n. Fits (text_of c.args.files.now n)) same c.in_ok-file_value.ensures.short);
    }

-- What a report of the arrays shows, part by part.
use Rattle.std.proofs.Common.{◌≡◌, ℕ, List, Option, Some, None, map, ap, ◌∙◌}
use Rattle.codespan.specs.Texts.{NamedText, text_of}
use Rattle.oxc_span.specs.Label.{Label}
use Rattle.oxc_protocol.specs.Parts.{Parts}
use Rattle.oxc_protocol.specs.Source.{SourceParts}
use Rattle.oxc_protocol.specs.declared.protocol.Severity.{Severity}
use Rattle.report_arrays.specs.declared.shapes.Label.{Label as Given}
use Rattle.report_arrays.specs.declared.shapes.Report.{Report}
use Rattle.report_arrays.specs.Labels.{labels_of}
use Rattle.render_files.specs.Shown.{placed, placed_labels}
use Rattle.report_arrays.specs.Values.{label, report}

-- parts without a url
abbrev pub parts_of : List ℕ → Option (List ℕ) → Severity → Option (List ℕ) → Option (List ℕ) → Option SourceParts → List Label → Parts
parts_of message code severity help note source labels = record {
  message = message;
  code = code;
  severity = Some severity;
  help = help;
  note = note;
  url = None;
  source = source;
  labels = labels;
}

pub same_parts : (m n : List ℕ) (c d : Option (List ℕ)) (s t : Severity) (h i o p : Option (List ℕ)) (x y : Option SourceParts) (l k : List Label)
    → m ≡ n → c ≡ d → s ≡ t → h ≡ i → o ≡ p → x ≡ y → l ≡ k → parts_of m c s h o x l ≡ parts_of n d t i p y k
same_parts m n c d s t h i o p x y l k em ec es eh eo ex el = cc

pub same_source : (shown : SourceParts) (bytes other name known : List ℕ) → shown ≡ record { bytes = bytes; name = Some name } → bytes ≡ other → name ≡ known
    → Some shown ≡ Some (record { bytes = other; name = Some known })
same_source shown bytes other name known e eb en = cc

-- the labels that were placed are those of the report
pub same_labels : (files : List NamedText) (texts : List ℕ) (all : List Given) (it : Report) (source : List ℕ) (given : List Given) (made : List Label)
    → source ≡ text_of files it.file → given ≡ labels_of all it → made ≡ map (placed source) (map (label texts) given)
    → made ≡ placed_labels files (report texts all it)
unfolding placed_labels report
same_labels files texts all it source given made here named is =
    is ∙ ap (λ s. map (placed s) (map (label texts) given)) here ∙ ap (λ l. map (placed (text_of files it.file)) (map (label texts) l)) named

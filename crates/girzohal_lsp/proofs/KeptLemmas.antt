-- What is kept beside a log, by the log's form.
use Rattle.std.proofs.Common.{◌≡◌, ℕ, List, All, false, sym, subst}
use Rattle.std.specs.Borrow.{Bor}
use Rattle.std.specs.List.{filter_map, list_any}
use Rattle.oxc_protocol.specs.Parts.{OxcParts}
use Rattle.source_store.specs.Matching.{is_named, means_file}
use Rattle.source_store.specs.Named.{path_in}
use Rattle.source_store.specs.declared.named.Spelling.TheVariants.{Uri}
use Rattle.girzohal_lsp.specs.Blocks.{BlockParts}
use Rattle.girzohal_lsp.specs.Found.{Shows, ShowsLines, tool_name}
use Rattle.girzohal_lsp.specs.Kept.{KeepsLines, KeepsParts}
use Rattle.girzohal_lsp.specs.declared.log.LogFile.{LogFile}
use Rattle.girzohal_lsp.specs.declared.log.LogFile.TheVariants.{Lines}
use Rattle.girzohal_lsp.specs.declared.words.Asked.{Asked}
use Rattle.girzohal_lsp.proofs.BlockLemmas.{all_missed}

-- what is found is that of a tool's lines, where the log is these
pub lines_shown : (asked : Asked) (file : LogFile) (bytes : Bor (List ℕ)) (names paths : List (List ℕ)) (blocks : List BlockParts) (path text : List ℕ) (shown : List OxcParts) → file ≡ Lines bytes
    → KeepsParts asked file names paths blocks → (KeepsLines (tool_name asked.tool) bytes.now names blocks → ShowsLines asked bytes.now path text shown) → Shows asked file path text shown
lines_shown asked file bytes names paths blocks path text shown is parts found =
    subst (λ (f : LogFile). Shows asked f path text shown) (sym is) (found (subst (λ (f : LogFile). KeepsParts asked f names paths blocks) is parts))

-- none of a log's names means the file, if none of its paths does
pub log_missed : (path : List ℕ) (names paths : List (List ℕ)) → paths ≡ filter_map (path_in Uri) names → list_any (is_named path) paths ≡ false → All (λ name. means_file Uri path name ≡ false) names
log_missed path names paths are none = all_missed Uri path names (subst (λ (ps : List (List ℕ)). list_any (is_named path) ps ≡ false) are none)

-- One file more, whose text is short.
use Rattle.std.proofs.Common.{◌≡◌, ◌-◌, ◌++◌, All, List, drop, take, length, map, subst, ◌∙◌}
use Rattle.found_reports.specs.Kept.{IsShort}
use Rattle.found_reports.specs.declared.sources.Source.{Source}
use Rattle.girzohal_run.specs.Owned.{source_view}
use Rattle.girzohal_run.proofs.ListedLemmas.{first_holds, first_listed, rest_holds, split_first}
use Rattle.girzohal_run.proofs.owned.append_files.Goals as goal

pub append_file-requires : goal.append_file-requires
append_file-requires c =
    let files = c.loop-files.files.now in
    let file = c.file-item.result in
    let split = split_first files file c.in-len1-up.len_at_least c.file-item.is in
    first_holds IsShort source_view file (take (length files - 1) (drop 1 files)) (subst (λ (xs : List Source). All IsShort (map source_view xs)) split c.loop-files.invariant.short)

pub loop-files-preserved : goal.loop-files-preserved
loop-files-preserved c =
    let files = c.loop-files.files.now in
    let file = c.file-item.result in
    let rest = take (length files - 1) (drop 1 files) in
    let split = split_first files file c.in-len1-up.len_at_least c.file-item.is in
    let all = c.args.found.now.files ++ map source_view c.args.files.now in
    record {
      short = rest_holds IsShort source_view file rest (subst (λ (xs : List Source). All IsShort (map source_view xs)) split c.loop-files.invariant.short);
      files = first_listed source_view file rest c.loop-files.found.files c.append_file.new.found.files all c.in_ok-append_file.ensures.files
          (subst (λ (xs : List Source). c.loop-files.found.files ++ map source_view xs ≡ all) split c.loop-files.invariant.files);
      found = c.in_ok-append_file.ensures.found ∙ c.loop-files.invariant.found;
    }

-- Each field is what the arguments say of it.
use Rattle.std.proofs.Common.{rules, ◌≡◌, ◌∙◌, None, Some, ap, codes, is_some, map, refl, unwrap_or}
use Rattle.std.specs.Option.{option_copied}
use Rattle.finding_filters.specs.declared.changed.FilterMode.TheVariants as filter
use Rattle.finding_summaries.specs.declared.counted.Level.TheVariants as level
use Rattle.girzohal_options.specs.declared.OutputForm.TheVariants as to
use Rattle.girzohal_options.specs.Given.{form_with}
use Rattle.girzohal_options.specs.Lists.{output_parts}
use Rattle.girzohal_options.specs.Reads.{has_flag, prints_with, theme_with}
use Rattle.girzohal_options.specs.Said.{said}
use Rattle.girzohal_options.proofs.GivenLemmas.{given_alone, given_by}
use Rattle.girzohal_options.proofs.reading.asked.Goals as goal

pub returns : goal.returns
returns c =
    let all = map said c.args.items.now in
    let given = c.args.taken.given in
    let by : given ≡ given_by all = c.requires.given ∙ given_alone all in
    let lists = c.in_ok-lists.ensures in
    let texts = c.in_ok-texts.ensures in
    let asked_to : c.unwrap_or.result ≡ unwrap_or given.to to.Drawing = search rules in
    let asked_prints : c.prints_with.result ≡ prints_with (is_some given.to) (map output_parts c.in_ok-lists.lists.outputs.items) = search rules in
    let asked_theme : c.theme_in.result ≡ theme_with (has_flag (codes "--ascii") all) given.color = search rules in
    let asked_width : c.unwrap_or-2.result ≡ unwrap_or given.width None = search rules in
    let asked_tabs : c.unwrap_or-3.result ≡ unwrap_or given.tabs 4 = search rules in
    let asked_level : c.unwrap_or-4.result ≡ unwrap_or given.fail_on level.Error = search rules in
    let asked_filter : c.unwrap_or-5.result ≡ unwrap_or given.filter_mode filter.Added = search rules in
    let asked_row : c.unwrap_or-6.result ≡ unwrap_or given.max_row (Some 1000) = search rules in
    record {
      files_are = lists.files;
      root_is = texts.root ∙ ap (λ root. unwrap_or root (codes ".")) c.requires.root;
      anywhere_is = search rules;
      from_is = texts.from ∙ ap (λ g. form_with c.args.program g.from (option_copied c.args.taken.tool)) by ∙ ap (form_with c.args.program (given_by all).from) c.requires.tool;
      to_is = asked_to ∙ ap (λ g. unwrap_or g.to to.Drawing) by;
      prints_is = asked_prints ∙ ap (λ g. prints_with (is_some g.to) (map output_parts c.in_ok-lists.lists.outputs.items)) by ∙ ap (prints_with (is_some (given_by all).to)) lists.outputs;
      outputs_are = lists.outputs;
      theme_is = asked_theme ∙ ap (λ g. theme_with (has_flag (codes "--ascii") all) g.color) by;
      width_is = asked_width ∙ ap (λ g. unwrap_or g.width None) by;
      tabs_is = asked_tabs ∙ ap (λ g. unwrap_or g.tabs 4) by;
      tool_is = texts.tool ∙ c.requires.tool;
      shapes_are = c.requires.shapes;
      json_are = lists.json_shapes;
      json_file_is = texts.json_shapes ∙ c.requires.json;
      columns_are = ap (λ g. g.columns) by;
      first_is = ap (λ g. g.first_column) by;
      only_is = search rules;
      level_is = asked_level ∙ ap (λ g. unwrap_or g.fail_on level.Error) by;
      most_is = ap (λ g. g.max_findings) by;
      row_is = asked_row ∙ ap (λ g. unwrap_or g.max_row (Some 1000)) by;
      quiet_is = search rules;
      raw_is = search rules;
      changed_is = texts.changed ∙ c.requires.changed;
      filter_is = asked_filter ∙ ap (λ g. unwrap_or g.filter_mode filter.Added) by;
      strip_is = ap (λ g. g.strip) by;
      baseline_is = texts.baseline ∙ c.requires.baseline;
      include_is = lists.include;
      exclude_is = lists.exclude;
      select_is = lists.select;
      ignore_is = lists.ignore;
      severity_is = ap (λ g. g.severity) by;
      unique_is = ap (λ g. g.unique) by;
      no_rules = refl;
    }

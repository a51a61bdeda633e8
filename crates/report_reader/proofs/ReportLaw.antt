-- The drawing of a view in the plain theme is read back to what its plan says.
use Rattle.std.proofs.Common.{◌≡◌, ℕ, ◌<◌, ◌≤◌, ◌^◌, Bool, true, false, not, List, [], ◌∷◌, ◌++◌, length, map, nat_le, codes, All, Option, Some, None, IfSome, if◌then◌else◌, refl, sym, ap, subst, ◌∙◌, arith, zero, suc}
use Rattle.std.specs.List.{flat_map, list_all}
use Rattle.std.specs.Str.{IsAscii, IsUtf8}
use Rattle.std.proofs.lemmas.Str.{IsUtf8-append, IsUtf8-from_ascii}
use Rattle.std.proofs.lemmas.List.{append_assoc, append-nil}
use Rattle.std.proofs.lemmas.List.Elements.{All-head, All-tail}
use Rattle.std.specs.declared.ops.Range.{Range}
use Rattle.oxc_span.specs.Label.{Label, label_end}
use Rattle.oxc_windows.specs.Breaks.{breaks_of}
use Rattle.oxc_windows.specs.declared.window.Window.{Window}
use Rattle.oxc_plan.specs.Drawable.{IsDrawable}
use Rattle.oxc_plan.specs.Groups.{group_window, groups_in}
use Rattle.oxc_plan.specs.Plan.{Ordered, SnippetView, in_order, row_plans_of, snippet_of, snippets_of, spans_of}
use Rattle.oxc_plan.proofs.DrawableLemmas.{snippets_drawable}
use Rattle.oxc_protocol.specs.Parts.{Parts}
use Rattle.oxc_protocol.specs.Source.{SourceParts}
use Rattle.oxc_handlers.specs.Refusals.{IsFaultless}
use Rattle.oxc_handlers.specs.Report.{Plan, code_part, drawn, drawn_snippets, footer, help_of, note_of, plan_of, snippets_in, title_of}
use Rattle.oxc_handlers.specs.Snippet.{drawn_snippet}
use Rattle.oxc_handlers.specs.Theme.{none_theme}
use Rattle.oxc_handlers.proofs.ReportLemmas.{no_label_snippets}
use Rattle.report_reader.specs.ReadsBack.{IsLine, IsOneRowSnippet, IsReadable, ReadsBack}
use Rattle.report_reader.specs.SeenOf.{seen_head, seen_of, seen_snippet}
use Rattle.report_reader.specs.Seen.{Snippet, bare, dashes}
use Rattle.report_reader.specs.Shown as seen
use Rattle.report_reader.specs.Shown.{ended, shown}
use Rattle.report_reader.specs.Title.{without_last_spaces}
use Rattle.report_reader.specs.WellFormed.{is_snippet, is_well_formed, HasHeadSizes, HasRowSizes, HasSizes}
use Rattle.report_reader.proofs.BytesLemmas.{both}
use Rattle.report_reader.proofs.PlainTheme.{newline}
use Rattle.report_reader.proofs.RowsRead.{AreRowsRead, rows_read}
use Rattle.report_reader.proofs.SeenWell.{snippet_well}
use Rattle.report_reader.proofs.ShownLemmas.{ended_append}
use Rattle.report_reader.proofs.SnippetLaw.{snippet_shown}
use Rattle.report_reader.proofs.TitleLaw.{title_is, title_line_is, ends_well}

-- a snippet whose drawing is what is shown of what is seen in it
pub record IsSnippetRead (tab : ℕ) (labels : List Ordered) (name : Option (List ℕ)) (snippet : SnippetView) : Type 0 where
  pub shown : drawn_snippet none_theme tab labels name snippet ≡ ended (seen.snippet_lines (seen_snippet tab labels name snippet))
  pub well : is_snippet (seen_snippet tab labels name snippet) ≡ true
  pub head : HasHeadSizes (seen_snippet tab labels name snippet).head
  pub rows : HasRowSizes (seen_snippet tab labels name snippet).rows

abbrev AreSnippetsRead : ℕ → List Ordered → Option (List ℕ) → List SnippetView → Type 0
AreSnippetsRead tab labels name [] = 0 ≤ 0
AreSnippetsRead tab labels name (s ∷ more) = IsSnippetRead tab labels name s × AreSnippetsRead tab labels name more

head_by : (two : Bool) (line column : ℕ) → line < 2 ^ 64 → column < 2 ^ 64 → HasHeadSizes (if two then bare line column else dashes)
head_by true line column small less = (small, less)
head_by false line column small less = omega arith

head_sizes : (name : Option (List ℕ)) (line column rows : ℕ) → line < 2 ^ 64 → column < 2 ^ 64 → HasHeadSizes (seen_head name line column rows)
head_sizes (Some name) line column rows small less = (small, less)
head_sizes None line column rows small less = head_by (nat_le 2 rows) line column small less

rows_of_snippet : (tab : ℕ) (source : List ℕ) (labels : List Ordered) (group : Range ℕ) (count : ℕ) → tab ≤ 16 → length source < 2 ^ 32 → All (λ l. IfSome l.text IsLine) labels
    → IsDrawable (length source) count (snippet_of tab source labels group) → IsOneRowSnippet (snippet_of tab source labels group)
    → AreRowsRead tab labels 0 (snippet_of tab source labels group).rows
unfolding snippet_of row_plans_of
rows_of_snippet tab source labels group count most short lines drawable one =
    let window : Window = group_window (length source) (breaks_of source) (spans_of labels) group in
    rows_read tab labels (length source) count (snippet_of tab source labels group).gutter window.line window.begin _ most short lines one.gutter drawable.rows one.marks

snippet_read : (tab : ℕ) (source : List ℕ) (labels : List Ordered) (name : Option (List ℕ)) (group : Range ℕ) (count : ℕ) → tab ≤ 16 → length source < 2 ^ 32
    → All (λ l. IfSome l.text IsLine) labels → IfSome name IsLine
    → IsDrawable (length source) count (snippet_of tab source labels group) → IsOneRowSnippet (snippet_of tab source labels group)
    → IsSnippetRead tab labels name (snippet_of tab source labels group)
snippet_read tab source labels name group count most short lines file drawable one =
    let snippet : SnippetView = snippet_of tab source labels group in
    let read : AreRowsRead tab labels 0 snippet.rows = rows_of_snippet tab source labels group count most short lines drawable one in
    record {
      shown = snippet_shown tab labels name snippet one.gutter read.readable;
      well = snippet_well tab labels name snippet (omega (arith, drawable.line.0)) (omega (arith, drawable.column.0)) file read.readable read.ascend;
      head = head_sizes name snippet.head_line snippet.head_column (length snippet.rows) (omega (arith, drawable.line.1, short)) (omega (arith, drawable.column.1, short));
      rows = read.sizes;
    }

groups_read : (tab : ℕ) (source : List ℕ) (labels : List Ordered) (name : Option (List ℕ)) (count : ℕ) (groups : List (Range ℕ)) → tab ≤ 16 → length source < 2 ^ 32
    → All (λ l. IfSome l.text IsLine) labels → IfSome name IsLine
    → All (IsDrawable (length source) count) (map (snippet_of tab source labels) groups) → All IsOneRowSnippet (map (snippet_of tab source labels) groups)
    → AreSnippetsRead tab labels name (map (snippet_of tab source labels) groups)
groups_read tab source labels name count [] most short lines file drawable one = omega arith
groups_read tab source labels name count (group ∷ more) most short lines file drawable one =
    let rest : List SnippetView = map (snippet_of tab source labels) more in (
      snippet_read tab source labels name group count most short lines file
          (All-head (IsDrawable (length source) count) (snippet_of tab source labels group) rest drawable) (All-head IsOneRowSnippet (snippet_of tab source labels group) rest one),
      groups_read tab source labels name count more most short lines file
          (All-tail (IsDrawable (length source) count) (snippet_of tab source labels group) rest drawable) (All-tail IsOneRowSnippet (snippet_of tab source labels group) rest one),
    )

labels_read : (tab : ℕ) (source : List ℕ) (labels : List Label) (name : Option (List ℕ)) → tab ≤ 16 → length source < 2 ^ 32 → IsUtf8 source → All (λ l. label_end l ≤ length source) labels
    → All (λ l. IfSome l.text IsLine) (in_order labels) → IfSome name IsLine → All IsOneRowSnippet (snippets_of tab source labels)
    → AreSnippetsRead tab (in_order labels) name (snippets_of tab source labels)
unfolding snippets_of
labels_read tab source labels name most short utf8 within lines file one =
    groups_read tab source (in_order labels) name (length labels) (groups_in source labels) most short lines file (snippets_drawable tab source labels utf8 within) one

-- what is asked of a view beside that it can be read back: what every view has
pub record IsView (tab : ℕ) (parts : Parts) : Type 0 where
  pub tab_most : tab ≤ 16
  pub title : IsUtf8 (plan_of tab parts).title
  pub short : IfSome parts.source (λ source. length source.bytes < 2 ^ 32)

colon_ascii : IsAscii (codes ": ")
colon_ascii zero = omega arith
colon_ascii (suc zero) = omega arith
colon_ascii (suc (suc at)) = omega arith

code_text : (message : List ℕ) (code : Option (List ℕ)) → IsUtf8 message → IfSome code IsUtf8 → IsUtf8 (code_part code ++ message)
code_text message None text codes = text
code_text message (Some code) text is = IsUtf8-append (code ++ codes ": ") message (IsUtf8-append code (codes ": ") is (IsUtf8-from_ascii (codes ": ") colon_ascii)) text

pub title_is_text : (tab : ℕ) (parts : Parts) → IsUtf8 parts.message → IfSome parts.code IsUtf8 → IsUtf8 (plan_of tab parts).title
unfolding plan_of title_of
title_is_text tab parts message code = code_text parts.message parts.code message code

by_source : (tab : ℕ) (parts : Parts) (name : Option (List ℕ)) (source : Option SourceParts) → parts.source ≡ source → IsView tab parts → IsFaultless parts → 0 < length parts.labels
    → All (λ l. IfSome l.text IsLine) (in_order parts.labels) → IfSome name IsLine → All IsOneRowSnippet (snippets_in tab parts)
    → AreSnippetsRead tab (in_order parts.labels) name (snippets_in tab parts)
unfolding snippets_in
by_source tab parts name None there view faultless some lines file one = rw there (omega arith)
by_source tab parts name (Some source) there view faultless some lines file one =
    let short : length source.bytes < 2 ^ 32 = (rw there at view.short) in
    let within : All (λ l. label_end l ≤ length source.bytes) parts.labels = (rw there at faultless.within) in
    let utf8 : IsUtf8 source.bytes = (rw there at faultless.text some) in
    let rows : All IsOneRowSnippet (snippets_of tab source.bytes parts.labels) = (rw there at one) in
    rw there (labels_read tab source.bytes parts.labels name view.tab_most short utf8 within lines file rows)

by_labels : (tab : ℕ) (parts : Parts) (name : Option (List ℕ)) (count : ℕ) → length parts.labels ≡ count → IsView tab parts → IsFaultless parts
    → All (λ l. IfSome l.text IsLine) (in_order parts.labels) → IfSome name IsLine → All IsOneRowSnippet (snippets_in tab parts)
    → AreSnippetsRead tab (in_order parts.labels) name (snippets_in tab parts)
by_labels tab parts name zero none view faultless lines file one =
    subst (AreSnippetsRead tab (in_order parts.labels) name) (no_label_snippets tab parts none) (omega arith)
by_labels tab parts name (suc n) is view faultless lines file one = by_source tab parts name parts.source refl view faultless (omega (arith, is)) lines file one

-- from snippets to the report

snippets_shown : (tab : ℕ) (labels : List Ordered) (name : Option (List ℕ)) (snippets : List SnippetView) → AreSnippetsRead tab labels name snippets
    → flat_map (drawn_snippet none_theme tab labels name) snippets ≡ ended (flat_map seen.snippet_lines (map (seen_snippet tab labels name) snippets))
snippets_shown tab labels name [] read = refl
snippets_shown tab labels name (s ∷ more) (one, read) =
    ap (λ l. l ++ flat_map (drawn_snippet none_theme tab labels name) more) one.shown
    ∙ ap (λ l. ended (seen.snippet_lines (seen_snippet tab labels name s)) ++ l) (snippets_shown tab labels name more read)
    ∙ sym (ended_append (seen.snippet_lines (seen_snippet tab labels name s)) (flat_map seen.snippet_lines (map (seen_snippet tab labels name) more)))

snippets_well : (tab : ℕ) (labels : List Ordered) (name : Option (List ℕ)) (snippets : List SnippetView) → AreSnippetsRead tab labels name snippets
    → list_all is_snippet (map (seen_snippet tab labels name) snippets) ≡ true
snippets_well tab labels name [] read = refl
snippets_well tab labels name (s ∷ more) (one, read) = both _ _ one.well (snippets_well tab labels name more read)

snippets_sized : (tab : ℕ) (labels : List Ordered) (name : Option (List ℕ)) (snippets : List SnippetView) → AreSnippetsRead tab labels name snippets
    → HasSizes (map (seen_snippet tab labels name) snippets)
snippets_sized tab labels name [] read = omega arith
snippets_sized tab labels name (s ∷ more) (one, read) = (one.head, one.rows, snippets_sized tab labels name more read)

no_help : (width : ℕ) (plan : Plan) → plan.help ≡ None → help_of none_theme width plan ≡ []
unfolding help_of footer
no_help width plan none = rw none refl

no_note : (width : ℕ) (plan : Plan) → plan.note ≡ None → note_of none_theme width plan ≡ []
unfolding note_of footer
no_note width plan none = rw none refl

not_false : (b : Bool) → b ≡ false → not b ≡ true
not_false b is = rw is refl

plan_shown : (width : ℕ) (plan : Plan) → IsUtf8 plan.title → IsReadable width plan → AreSnippetsRead plan.tab plan.labels plan.name plan.snippets
    → shown (seen_of plan) ≡ drawn none_theme width plan
unfolding drawn drawn_snippets shown seen.report_lines seen_of
plan_shown width plan utf8 readable read =
    let snippets : List Snippet = map (seen_snippet plan.tab plan.labels plan.name) plan.snippets in
    let line : List ℕ = seen.title_line plan.severity (without_last_spaces plan.title) ++ 0x0A ∷ [] in
    sym (rw (newline, title_is width plan utf8 readable.title, no_help width plan readable.help, no_note width plan readable.note, snippets_shown plan.tab plan.labels plan.name plan.snippets read)
    (append-nil _ ∙ append-nil _ ∙ append_assoc (0x0A ∷ []) line (ended (flat_map seen.snippet_lines snippets))))

plan_well : (width : ℕ) (plan : Plan) → IsUtf8 plan.title → IsReadable width plan → AreSnippetsRead plan.tab plan.labels plan.name plan.snippets
    → is_well_formed (seen_of plan) ≡ true
unfolding is_well_formed seen_of
plan_well width plan utf8 readable read =
    both _ _ (both _ _ (title_line_is width plan utf8 readable.title) (not_false _ (ends_well plan.title))) (snippets_well plan.tab plan.labels plan.name plan.snippets read)

plan_sized : (plan : Plan) → AreSnippetsRead plan.tab plan.labels plan.name plan.snippets → HasSizes (seen_of plan).snippets
unfolding seen_of
plan_sized plan read = snippets_sized plan.tab plan.labels plan.name plan.snippets read

snippets_of_plan : (width tab : ℕ) (parts : Parts) → IsView tab parts → IsFaultless parts → IsReadable width (plan_of tab parts)
    → AreSnippetsRead (plan_of tab parts).tab (plan_of tab parts).labels (plan_of tab parts).name (plan_of tab parts).snippets
unfolding plan_of
snippets_of_plan width tab parts view faultless readable =
    by_labels tab parts (plan_of tab parts).name (length parts.labels) refl view faultless readable.texts readable.name readable.snippets

pub reads_back : (width tab : ℕ) (parts : Parts) → IsView tab parts → ReadsBack width tab parts
reads_back width tab parts view = λ faultless readable.
    let plan : Plan = plan_of tab parts in
    let read = snippets_of_plan width tab parts view faultless readable in
    ((plan_well width plan view.title readable read, plan_shown width plan view.title readable read), plan_sized plan read)

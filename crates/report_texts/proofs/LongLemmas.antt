-- Rows that are too long.
use Rattle.std.proofs.Common.{◌≡◌, ℕ, suc, ◌+◌, ◌-◌, ◌<◌, ◌≤◌, ◌&&◌, nat_lt, Bool, if◌then◌else◌, true, false, List, [], ◌∷◌, All, length, get_or, drop, Option, Some, None, refl, sym, ap, ap₂, subst, ◌∙◌, IfSome, arith}
use Rattle.std.specs.Option.{option_map_or, option_or}
use Rattle.std.specs.Str.{IsUtf8}
use Rattle.std.specs.declared.ops.Range.{Range}
use Rattle.std.proofs.lemmas.Bool.{and_left, and_right, le-ltb, lt-ltb}
use Rattle.std.proofs.lemmas.List.{drop_all, drop_more}
use Rattle.std.proofs.lemmas.List.Elements.{All-nil, All-cons, All-head}
use Rattle.base_lemmas.proofs.Choices.{option_or-none}
use Rattle.oxc_span.specs.Label.{Label, label_end}
use Rattle.oxc_span.specs.declared.span.Span.{Span}
use Rattle.oxc_windows.specs.Breaks.{breaks_of}
use Rattle.oxc_windows.specs.declared.breaks.LineBreak.{LineBreak}
use Rattle.oxc_windows.specs.Scan.{Contents, Scan, IsSameReader, contents_of}
use Rattle.oxc_plan.specs.Groups.{AreGroups, AreGroupsIn, group_end, group_window, groups_from, groups_in, groups_of, largest_end, span_at, window_round}
use Rattle.oxc_plan.specs.Order.{LieWithin, inserted, label_order, ordered, span_of, spans_in_order}
use Rattle.oxc_plan.proofs.GroupsLemmas.{largest_end_one, largest_end_reaches, largest_end_within}
use Rattle.oxc_plan.proofs.OrderLemmas.{spans_valid}
use Rattle.oxc_windows.specs.Window.{window_at}
use Rattle.oxc_plan.specs.Scanned.{CanGroup, CanPlan, ReadsRound}
use Rattle.oxc_handlers.specs.Scanners.{CanDraw}
use Rattle.oxc_protocol.specs.Parts.{Parts}
use Rattle.report_texts.specs.LongRows.{IsAmong, columns_in, fitted, is_long, long_among, long_from, long_in, long_note, long_row, start_of, without_rows}

-- ---- scanners that read on

pub round_still : (a b : Scan) → IsSameReader a b → ReadsRound a → ReadsRound b
round_still a b same round = record { before = same.before ∙ round.before; after = same.after ∙ round.after }

pub can_group : (scan : Scan) (labels : List Label) → CanPlan scan labels → CanGroup scan labels
can_group scan labels can = record { round = can.reads.round; within = can.within }

pub can_still : (a b : Scan) (parts : Parts) → IsSameReader a b → CanDraw a parts → CanDraw b parts
can_still a b parts same can = record {
  source = subst (λ s. IfSome parts.source (λ source. source.bytes ≡ s)) (sym same.input) can.source;
  labels = record {
    reads = record { round = round_still a b same can.labels.reads.round; text = subst IsUtf8 (sym same.input) can.labels.reads.text };
    within = subst (λ (s : List ℕ). All (λ label. label_end label ≤ length s) parts.labels) (sym same.input) can.labels.within;
  };
}

-- what has no labels can be drawn too
pub can_bare : (scan : Scan) (parts : Parts) (said : Option (List ℕ)) → CanDraw scan parts → CanDraw scan (record parts { labels = []; note = said })
can_bare scan parts said can = record {
  source = can.source;
  labels = record { reads = can.labels.reads; within = All-nil (λ (label : Label). label_end label ≤ length scan.input) };
}

-- ---- groups

groups_stand : (len : ℕ) (breaks : List LineBreak) (spans : List Span) (from : ℕ) (groups : List (Range ℕ)) → AreGroups len breaks spans from groups → All (IsAmong spans) groups
groups_stand len breaks spans from [] are = All-nil (IsAmong spans)
groups_stand len breaks spans from (group ∷ groups) are =
    All-cons (IsAmong spans) group groups (record { some = are.1.some; upto = are.1.within }) (groups_stand len breaks spans group.end groups are.2)

-- the spans of labels, and their groups
pub many_within : (scan : Scan) (source : List ℕ) (labels : List Label) (spans : List Span) → scan.input ≡ source → CanGroup scan labels → spans ≡ spans_in_order labels
    → LieWithin (length source) spans
many_within scan source labels spans same can is = subst (λ (s : List ℕ). LieWithin (length s) spans) same (spans_valid (length scan.input) labels spans is can.within)

pub many_among : (source : List ℕ) (labels : List Label) (spans : List Span) (groups : List (Range ℕ)) → spans ≡ spans_in_order labels → AreGroupsIn source labels groups → All (IsAmong spans) groups
many_among source labels spans groups is are =
    subst (λ s. All (IsAmong s) groups) (sym is) (groups_stand (length source) (breaks_of source) (spans_in_order labels) 0 groups are)

pub many_long : (most : ℕ) (input source : List ℕ) (labels : List Label) (spans : List Span) (groups : List (Range ℕ)) → input ≡ source → spans ≡ spans_in_order labels
    → groups ≡ groups_in input labels → long_among most source spans groups ≡ long_row most source labels
unfolding long_row
many_long most input source labels spans groups same is are =
    ap₂ (long_among most source) is (are ∙ ap (λ s. groups_in s labels) same)

-- what a group spans together
pub joint_ordered : (len : ℕ) (spans : List Span) (group : Range ℕ) (span : Span) → LieWithin len spans → IsAmong spans group
    → span.start ≡ (span_at spans group.start).start → span.end ≡ largest_end spans group.start group.end → span.start ≤ span.end
joint_ordered len spans group span all among start end =
    omega (
      arith,
      start,
      end,
      largest_end_reaches spans group.start group.end group.start (omega arith) among.some among.upto,
      (all group.start (record { start = 0; end = 0 }) (omega (arith, among.some, among.upto))).0,
    )

pub joint_within : (len : ℕ) (spans : List Span) (group : Range ℕ) (span : Span) → LieWithin len spans → IsAmong spans group
    → span.end ≡ largest_end spans group.start group.end → span.end ≤ len
joint_within len spans group span all among end =
    omega (arith, end, largest_end_within spans group.start group.end len all (omega (arith, among.some)) among.upto)

pub joint_long : (most : ℕ) (source : List ℕ) (spans : List Span) (group : Range ℕ) (span : Span) → span.start ≡ (span_at spans group.start).start
    → span.end ≡ largest_end spans group.start group.end
    → long_in most source (window_round source span) ≡ long_in most source (group_window (length source) (breaks_of source) spans group)
joint_long most source spans group span start end =
    ap₂ (λ s e. long_in most source (window_at (length source) (breaks_of source) 1 1 s e)) start end

-- the first group has a long row, or those after it
pub here_long : (most : ℕ) (source : List ℕ) (spans : List Span) (group : Range ℕ) (groups : List (Range ℕ)) (row : ℕ)
    → Some row ≡ long_in most source (group_window (length source) (breaks_of source) spans group) → Some row ≡ long_among most source spans (group ∷ groups)
unfolding long_among
here_long most source spans group groups row is = ap (λ r. option_or r (long_among most source spans groups)) is

pub later_long : (most : ℕ) (source : List ℕ) (spans : List Span) (group : Range ℕ) (groups : List (Range ℕ))
    → None ≡ long_in most source (group_window (length source) (breaks_of source) spans group) → long_among most source spans groups ≡ long_among most source spans (group ∷ groups)
unfolding long_among
later_long most source spans group groups none = ap (λ r. option_or r (long_among most source spans groups)) none

-- the groups from a place on
drop_at : (groups : List (Range ℕ)) (at : ℕ) (d : Range ℕ) → at < length groups → get_or groups at d ∷ drop (at + 1) groups ≡ drop at groups
drop_at groups at d low = sym (drop_more groups at d low)

pub here_at : (most : ℕ) (source : List ℕ) (spans : List Span) (groups : List (Range ℕ)) (at : ℕ) (d : Range ℕ) (row : ℕ) → at < length groups
    → Some row ≡ long_in most source (group_window (length source) (breaks_of source) spans (get_or groups at d))
    → long_among most source spans (drop at groups) ≡ long_among most source spans groups → Some row ≡ long_among most source spans groups
here_at most source spans groups at d row low is before =
    here_long most source spans (get_or groups at d) (drop (at + 1) groups) row is ∙ ap (long_among most source spans) (drop_at groups at d low) ∙ before

pub later_at : (most : ℕ) (source : List ℕ) (spans : List Span) (groups : List (Range ℕ)) (at : ℕ) (d : Range ℕ) → at < length groups
    → None ≡ long_in most source (group_window (length source) (breaks_of source) spans (get_or groups at d))
    → long_among most source spans (drop at groups) ≡ long_among most source spans groups
    → long_among most source spans (drop (at + 1) groups) ≡ long_among most source spans groups
later_at most source spans groups at d low none before =
    later_long most source spans (get_or groups at d) (drop (at + 1) groups) none ∙ ap (long_among most source spans) (drop_at groups at d low) ∙ before

none_among : (most : ℕ) (source : List ℕ) (spans : List Span) → None ≡ long_among most source spans []
unfolding long_among
none_among most source spans = refl

pub end_at : (most : ℕ) (source : List ℕ) (spans : List Span) (groups : List (Range ℕ)) (at : ℕ) → length groups ≤ at
    → long_among most source spans (drop at groups) ≡ long_among most source spans groups → None ≡ long_among most source spans groups
end_at most source spans groups at past before =
    none_among most source spans ∙ ap (long_among most source spans) (sym (drop_all at groups past)) ∙ before

-- a list of one label
pub only_one : (labels : List Label) (label : Label) → 1 ≤ length labels → length labels < 2 → label ≡ get_or labels 0 label → label ∷ [] ≡ labels
only_one [] label some few is = absurd (omega (arith, some))
only_one (x ∷ []) label some few is = ap (λ l. l ∷ []) is
only_one (x ∷ y ∷ rest) label some few is = absurd (omega (arith, few))

-- one label is a group
pub one_within : (len : ℕ) (label : Label) (labels : List Label) → labels ≡ label ∷ [] → All (λ l. label_end l ≤ len) labels → label_end label ≤ len
one_within len label labels is all = All-head (λ (l : Label). label_end l ≤ len) label [] (subst (λ ls. All (λ (l : Label). label_end l ≤ len) ls) is all)

pub one_label : (most : ℕ) (source : List ℕ) (label : Label) → long_row most source (label ∷ []) ≡ long_in most source (window_round source (span_of label))
unfolding long_row long_among groups_of groups_from group_end spans_in_order label_order ordered inserted
one_label most source label =
    let span = span_of label in
    let end : largest_end (span ∷ []) 0 1 ≡ span.end = largest_end_one (span ∷ []) 0 (omega arith) in
    option_or-none (long_in most source (group_window (length source) (breaks_of source) (span ∷ []) (record { start = 0; end = 1 })))
    ∙ ap (λ e. long_in most source (window_at (length source) (breaks_of source) 1 1 span.start e)) end

-- ---- rows

long_step : (most : ℕ) (source : List ℕ) (end row last : ℕ) → row ≤ last
    → long_from most source end row (last + 1 - row) ≡ (if is_long most source end row then Some row else long_from most source end (row + 1) (last + 1 - (row + 1)))
unfolding long_from
long_step most source end row last upto =
    let one : last + 1 - row ≡ suc (last + 1 - (row + 1)) = omega (arith, upto) in
    ap (long_from most source end row) one

-- the first row is long, or those after it, or there is none
pub long_here : (most : ℕ) (source : List ℕ) (end row last : ℕ) → row ≤ last → start_of source row < end → most < columns_in source row
    → long_from most source end row (last + 1 - row) ≡ Some row
long_here most source end row last upto before many =
    long_step most source end row last upto
    ∙ ap₂ (λ a b. if a && b then Some row else long_from most source end (row + 1) (last + 1 - (row + 1)))
    (lt-ltb (start_of source row) end before) (lt-ltb most (columns_in source row) many)

isnt_long : (most : ℕ) (source : List ℕ) (end row last : ℕ) → row ≤ last → is_long most source end row ≡ false
    → long_from most source end row (last + 1 - row) ≡ long_from most source end (row + 1) (last + 1 - (row + 1))
isnt_long most source end row last upto isnt =
    long_step most source end row last upto ∙ ap (λ b. if b then Some row else long_from most source end (row + 1) (last + 1 - (row + 1))) isnt

pub long_past : (most : ℕ) (source : List ℕ) (end row last : ℕ) → row ≤ last → end ≤ start_of source row
    → long_from most source end row (last + 1 - row) ≡ long_from most source end (row + 1) (last + 1 - (row + 1))
long_past most source end row last upto past =
    isnt_long most source end row last upto (and_left (nat_lt (start_of source row) end) (nat_lt most (columns_in source row)) (le-ltb (start_of source row) end past))

pub long_fits : (most : ℕ) (source : List ℕ) (end row last : ℕ) → row ≤ last → columns_in source row ≤ most
    → long_from most source end row (last + 1 - row) ≡ long_from most source end (row + 1) (last + 1 - (row + 1))
long_fits most source end row last upto fits =
    isnt_long most source end row last upto
    (and_right (nat_lt (start_of source row) end) (nat_lt most (columns_in source row)) (le-ltb most (columns_in source row) fits))

pub long_end : (most : ℕ) (source : List ℕ) (end row last : ℕ) → last < row → long_from most source end row (last + 1 - row) ≡ None
unfolding long_from
long_end most source end row last past =
    let none : last + 1 - row ≡ 0 = omega (arith, past) in
    ap (long_from most source end row) none

-- what was read is the window round a span
pub long_contents : (most : ℕ) (source input : List ℕ) (span : Span) (contents : Contents) (row : Option ℕ) → input ≡ source → contents ≡ contents_of input (window_round input span)
    → row ≡ long_from most source contents.span.end contents.line (contents.line_count + 1 - contents.line) → row ≡ long_in most source (window_round source span)
long_contents most source input span contents row same is long =
    long ∙ ap (λ (c : Contents). long_from most source c.span.end c.line (c.line_count + 1 - c.line)) (is ∙ ap (λ s. contents_of s (window_round s span)) same)

-- ---- what is drawn

pub fitted_all : (limit : Option ℕ) (name source : List ℕ) (parts : Parts) → None ≡ limit → fitted limit name source parts ≡ parts
unfolding fitted
fitted_all limit name source parts is = ap (λ l. fitted l name source parts) (sym is)

pub fitted_long : (limit : Option ℕ) (most : ℕ) (name source : List ℕ) (parts : Parts) (row : ℕ) → Some most ≡ limit → Some row ≡ long_row most source parts.labels
    → fitted limit name source parts ≡ without_rows name source parts most row
unfolding fitted
fitted_long limit most name source parts row is long =
    ap (λ l. fitted l name source parts) (sym is) ∙ ap (λ r. option_map_or (without_rows name source parts most) r parts) (sym long)

-- a view without its labels, with that note
pub shortened : (name source : List ℕ) (parts short : Parts) (most row : ℕ) (note : List ℕ) → short ≡ record parts { labels = []; note = Some note }
    → note ≡ long_note name source parts.note parts.labels most row → short ≡ without_rows name source parts most row
shortened name source parts short most row note is noted = is ∙ ap (λ n. let p : Parts = record parts { labels = []; note = Some n } in p) noted

pub fitted_short : (limit : Option ℕ) (most : ℕ) (name source : List ℕ) (parts : Parts) → Some most ≡ limit → None ≡ long_row most source parts.labels → fitted limit name source parts ≡ parts
unfolding fitted
fitted_short limit most name source parts is none =
    ap (λ l. fitted l name source parts) (sym is) ∙ ap (λ r. option_map_or (without_rows name source parts most) r parts) (sym none)

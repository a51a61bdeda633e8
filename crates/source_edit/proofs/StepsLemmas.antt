-- How a step leads back.
use Rattle.std.proofs.Common.{◌≡◌, ℕ, ◌+◌, ◌-◌, ◌≤◌, List, [], ◌∷◌, ◌++◌, length, take, drop, map, reverse, get_or, slice_range, string_bytes, refl, sym, ap, subst, ◌∙◌, arith, ⊎_elim}
use Rattle.std.specs.Str.{IsUtf8, IsCharBoundary}
use Rattle.std.proofs.lemmas.Bool.{cases_lt}
use Rattle.std.proofs.lemmas.List.{take-append-drop, take-append-le, take_all, drop_at, length-append, length-take, length-drop, length-map, length-reverse, reverse-append, get_or_append_left, get_or-append-add}
use Rattle.std.proofs.lemmas.Str.{IsCharBoundary-start}
use Rattle.std.proofs.Math.Seq.{take-add}
use Rattle.source_location.specs.Breaks.{breaks_of}
use Rattle.source_location.specs.Rows.{line_starts}
use Rattle.source_location.specs.Index.{Fits}
use Rattle.source_edit.specs.Edits.{Change, Editing, edited}
use Rattle.source_edit.specs.Causes.{IsAcceptable}
use Rattle.source_edit.specs.Starts.{starts_between}
use Rattle.source_edit.specs.Steps.{backwards, LeadsBack, LeadBack, history_of}
use Rattle.source_edit.specs.Ready.{IsReady}
use Rattle.source_edit.specs.declared.edit_text.Step.{Step}
use Rattle.source_edit.proofs.StartsLemmas.{starts_before_place, split, mended, front_cut, back_cut, between_are, front_starts, near_starts, back_starts, edited_length, back_byte}

-- the edit that undoes another
abbrev pub undoing : List ℕ → Change → Change
undoing text change = record { start = change.start; end = change.start + length change.insert; insert = slice_range text change.start change.end }

pub removed_length : (text : List ℕ) (change : Change) → change.end ≤ length text → length (slice_range text change.start change.end) ≡ change.end - change.start
removed_length text change within = omega (arith, length-take (change.end - change.start) (drop change.start text), length-drop change.start text)

-- it does
pub restored : (text : List ℕ) (change : Change) → change.start ≤ change.end → change.end ≤ length text → edited (edited text change) (undoing text change) ≡ text
restored text change le within =
    let x = change.start in
    let front : length (take x text) ≡ x = omega (arith, length-take x text) in
    let both : length (take x text ++ change.insert) ≡ x + length change.insert = omega (arith, length-append (take x text) change.insert, front) in
    let whole : x + (change.end - x) ≡ change.end = omega arith in
    ap (λ l. (l ++ slice_range text x change.end) ++ drop (x + length change.insert) (edited text change))
    (take-append-le x (take x text ++ change.insert) (drop change.end text) (omega (arith, both)) ∙ take-append-le x (take x text) change.insert (omega (arith, front)) ∙ take_all x (take x text) (omega (arith, front)))
    ∙ ap (λ l. (take x text ++ slice_range text x change.end) ++ l) (drop_at (take x text ++ change.insert) (drop change.end text) (x + length change.insert) both)
    ∙ ap (λ l. l ++ drop change.end text) (sym (take-add x (change.end - x) text) ∙ ap (λ n. take n text) whole)
    ∙ take-append-drop change.end text

-- the inserted bytes lie between boundaries
pub end_boundary : (text : List ℕ) (change : Change) → change.start ≤ change.end → IsCharBoundary text change.end → IsCharBoundary (edited text change) (change.start + length change.insert)
end_boundary text change le end =
    let size = edited_length text change le end.0 in
    let zero : change.start + length change.insert + 0 ≡ change.start + length change.insert = omega arith in
    let here : change.end + 0 ≡ change.end = omega arith in
    let same : get_or (edited text change) (change.start + length change.insert) 0 ≡ get_or text change.end 0 =
    ap (λ k. get_or (edited text change) k 0) (sym zero) ∙ back_byte text change 0 (omega (arith, end.0)) ∙ ap (λ k. get_or text k 0) here in
    (omega (arith, size), λ inside high. omega (arith, same, end.1 (omega (arith, size, inside)) (omega (arith, same, high))))

pub start_boundary : (text : List ℕ) (change : Change) → change.start ≤ change.end → IsCharBoundary text change.end → IsUtf8 change.insert → IsCharBoundary (edited text change) change.start
start_boundary text change le end utf8 =
    ⊎_elim (λ some.
    let x = change.start in
    let front : length (take x text) ≡ x = omega (arith, length-take x text, end.0) in
    let place : x ≡ length (take x text) + 0 = omega (arith, front) in
    let size = edited_length text change le end.0 in
    let same : get_or (edited text change) x 0 ≡ get_or change.insert 0 0 =
    get_or_append_left (take x text ++ change.insert) (drop change.end text) 0 x (omega (arith, length-append (take x text) change.insert, front, some))
    ∙ ap (λ k. get_or (take x text ++ change.insert) k 0) place ∙ get_or-append-add (take x text) change.insert 0 0 in
    (omega (arith, size), λ inside high. omega (arith, same, (IsCharBoundary-start change.insert utf8).1 some (omega (arith, same, high)))))
    (λ none. let here : change.start + length change.insert ≡ change.start = omega (arith, none) in subst (IsCharBoundary (edited text change)) here (end_boundary text change le end))
    (cases_lt 0 (length change.insert))

-- so many row starts are left and made
starts_count : (text : List ℕ) (change : Change) → change.start ≤ change.end → change.end ≤ length text
    → length (line_starts (breaks_of (edited text change))) + length (starts_between text change.start change.end)
    ≡ length (line_starts (breaks_of text)) + length (starts_between (edited text change) change.start (change.start + length change.insert))
starts_count text change le within =
    let moved : ℕ → ℕ = λ start. start - (change.end - change.start) + length change.insert in
    let near = starts_between (edited text change) change.start (change.start + length change.insert) in
    let front = front_starts text change.start in
    let back = back_starts text change.end in
    let old = ap length (split text change.start change.end le within) in
    let gone = ap length (between_are text change.start change.end le within) in
    let new : length (line_starts (breaks_of (edited text change))) ≡ length (front ++ (near ++ map moved back)) =
    ap length (mended text change le within)
    ∙ ap (λ l. length (l ++ (near ++ map moved (drop (starts_before_place text (change.end + 1)) (line_starts (breaks_of text)))))) (front_cut text change.start change.end le within)
    ∙ ap (λ l. length (front ++ (near ++ map moved l))) (back_cut text change.start change.end le within) in
    omega (
      arith,
      old,
      gone,
      new,
      length-append front (near ++ map moved back),
      length-append near (map moved back),
      length-map back moved,
      length-append front (near_starts text change.start change.end ++ back),
      length-append (near_starts text change.start change.end) back,
    )

-- what was made ready leads back
pub same_step : (text_room starts_room : ℕ) (text : List ℕ) (change : Change) (starts : List ℕ) (step : Step) → IsReady text_room starts_room text change starts step → backwards step ≡ undoing text change
same_step text_room starts_room text change starts step ready = rw (ready.keeps.written, ready.keeps.removed) refl

pub step_back_is : (text_room starts_room : ℕ) (text : List ℕ) (change : Change) (starts : List ℕ) (step : Step) → IsAcceptable text change → IsReady text_room starts_room text change starts step
    → edited (edited text change) (backwards step) ≡ text
step_back_is text_room starts_room text change starts step ok ready =
    ap (edited (edited text change)) (same_step text_room starts_room text change starts step ready) ∙ restored text change ready.keeps.ordered ok.within

pub leads_back : (text_room starts_room : ℕ) (text : List ℕ) (change : Change) (starts : List ℕ) (step : Step) → IsAcceptable text change → Fits text → IsReady text_room starts_room text change starts step
    → IsCharBoundary (edited text change) change.start → IsCharBoundary (edited text change) (change.start + length change.insert)
    → LeadsBack text_room starts_room (edited text change) step
leads_back text_room starts_room text change starts step ok fits ready start end =
    let le = ready.keeps.ordered in
    let back = step_back_is text_room starts_room text change starts step ok ready in
    let size = edited_length text change le ok.within in
    let removed = ap length ready.keeps.removed ∙ removed_length text change ok.within in
    let first = ap (λ (range : ℕ × ℕ). range.0) ready.keeps.written in
    let last = ap (λ (range : ℕ × ℕ). range.1) ready.keeps.written in
    record {
      acceptable = record {
        within = omega (arith, size, last);
        start = subst (IsCharBoundary (edited text change)) (sym first) start;
        end = subst (IsCharBoundary (edited text change)) (sym last) end;
        fits = subst Fits (sym back) fits;
      };
      starts =
          let till : step.written.0 + length (string_bytes step.removed) ≡ change.end = omega (arith, first, removed) in
          ready.keeps.gone ∙ ap (λ l. starts_between l change.start change.end) (sym back) ∙ ap (λ k. starts_between (edited (edited text change) (backwards step)) k change.end) (sym first) ∙ ap (starts_between (edited (edited text change) (backwards step)) step.written.0) (sym till);
      text_fits = omega (arith, size, removed, ready.text_fits);
      starts_fit = omega (arith, starts_count text change le ok.within, ap length ready.near, ap length ready.keeps.gone, ready.starts_fit);
    }

-- more room does no harm
pub more_room : (text_room more starts_room further : ℕ) (text : List ℕ) (steps : List Step) → text_room ≤ more → starts_room ≤ further
    → LeadBack text_room starts_room text steps → LeadBack more further text steps
more_room text_room more starts_room further text [] a b known = known
more_room text_room more starts_room further text (step ∷ earlier) a b known = (
  record { acceptable = known.0.acceptable; starts = known.0.starts; text_fits = omega (arith, known.0.text_fits, a); starts_fit = omega (arith, known.0.starts_fit, b) },
  more_room text_room more starts_room further (edited text (backwards step)) earlier a b known.1,
)

-- one step more
last_first : (steps earlier : List Step) (step : Step) → steps ≡ earlier ++ step ∷ [] → reverse steps ≡ step ∷ reverse earlier
last_first steps earlier step e = ap reverse e ∙ reverse-append earlier (step ∷ [])

pub pushed_leads : (text_room starts_room : ℕ) (text before : List ℕ) (steps earlier : List Step) (step : Step) → steps ≡ earlier ++ step ∷ [] → edited text (backwards step) ≡ before
    → LeadsBack text_room starts_room text step → LeadBack text_room starts_room before (reverse earlier) → LeadBack text_room starts_room text (reverse steps)
pushed_leads text_room starts_room text before steps earlier step e back leads known =
    rw (last_first steps earlier step e) (leads, subst (λ l. LeadBack text_room starts_room l (reverse earlier)) (sym back) known)

pub pushed_history : (text before : List ℕ) (steps earlier : List Step) (step : Step) → steps ≡ earlier ++ step ∷ [] → edited text (backwards step) ≡ before
    → history_of text (reverse steps) ≡ history_of before (reverse earlier) ++ before ∷ []
pushed_history text before steps earlier step e back =
    ap (history_of text) (last_first steps earlier step e) ∙ ap (λ l. history_of l (reverse earlier) ++ l ∷ []) back

-- one step less
pub popped_leads : (text_room starts_room : ℕ) (text : List ℕ) (steps earlier : List Step) (step : Step) → steps ≡ earlier ++ step ∷ [] → LeadBack text_room starts_room text (reverse steps)
    → LeadsBack text_room starts_room text step × LeadBack text_room starts_room (edited text (backwards step)) (reverse earlier)
popped_leads text_room starts_room text steps earlier step e known = subst (LeadBack text_room starts_room text) (last_first steps earlier step e) known

pub popped_history : (text : List ℕ) (steps earlier : List Step) (step : Step) → steps ≡ earlier ++ step ∷ []
    → history_of text (reverse steps) ≡ history_of (edited text (backwards step)) (reverse earlier) ++ edited text (backwards step) ∷ []
popped_history text steps earlier step e = ap (history_of text) (last_first steps earlier step e)

history_length : (text : List ℕ) (steps : List Step) → length (history_of text steps) ≡ length steps
history_length text [] = refl
history_length text (step ∷ earlier) =
    omega (arith, length-append (history_of (edited text (backwards step)) earlier) (edited text (backwards step) ∷ []), history_length (edited text (backwards step)) earlier)

pub depth_is : (text : List ℕ) (steps : List Step) → length (history_of text (reverse steps)) ≡ length steps
depth_is text steps = history_length text (reverse steps) ∙ length-reverse steps

pub same_editing : (text other : List ℕ) (history further : List (List ℕ)) → text ≡ other → history ≡ further → let a : Editing = record { text = text; history = history } in let b : Editing = record { text = other; history = further } in a ≡ b
same_editing text other history further e f = λ i. record { text = e i; history = f i }

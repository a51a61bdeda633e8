-- Labels that move stand in the text after a change.
use Rattle.std.proofs.Common.{◌≡◌, ℕ, ◌+◌, ◌-◌, ◌^◌, ◌<◌, ◌≤◌, ◌==◌, ◌&&◌, not, Bool, true, false, cond, List, [], ◌∷◌, ◌++◌, append_assoc, append-nil, length, get_or, drop, Option, Some, None, option_map, refl, sym, ◌∙◌, ap, ap₂, subst, arith}
use Rattle.std.specs.List.{All, filter_map, cons_option}
use Rattle.std.specs.Option.{option_to_list}
use Rattle.std.specs.Str.{IsCharBoundary}
use Rattle.std.proofs.lemmas.List.{drop_all, drop_more}
use Rattle.std.proofs.lemmas.List.Elements.{All-nil, All-cons, All-head, All-tail}
use Rattle.oxc_span.specs.Label.{Label, label_end}
use Rattle.oxc_protocol.specs.Parts.{OxcParts}
use Rattle.found_reports.specs.Found.{StandsIn}
use Rattle.lsp_server.specs.declared.marks.Change.{Change}
use Rattle.lsp_server.specs.declared.marks.Mark.{Mark}
use Rattle.lsp_server.specs.Marks.{CutsNone, changed, moved_end, moved_mark, moved_start}
use Rattle.lsp_server.proofs.MarkLemmas.{keeps_marks, marks_in_order}
use Rattle.source_location.specs.Index.{Fits}
use Rattle.lsp_server.specs.Seen.{StandIn}
use Rattle.lsp_server.specs.Moved.{CanMove, CanMoveAll, head_goes, mark_of, moved_diagnostic, moved_label, placed}

-- ---- lists without what goes

cons_is : {B : Type 0} (o : Option B) (ys : List B) → cons_option o ys ≡ option_to_list o ++ ys
cons_is None ys = refl
cons_is (Some y) ys = refl

-- one element more
pub more_kept : {A B : Type 0} (f : A → Option B) (xs : List A) (i : ℕ) (x : A) (done more : List B)
    → i < length xs → x ≡ get_or xs i x → more ≡ done ++ option_to_list (f x)
    → done ++ filter_map f (drop i xs) ≡ filter_map f xs → more ++ filter_map f (drop (i + 1) xs) ≡ filter_map f xs
more_kept f xs i x done more within is pushed all =
    let rest = filter_map f (drop (i + 1) xs) in
    ap (λ l. l ++ rest) pushed ∙ append_assoc done (option_to_list (f x)) rest
    ∙ ap (λ l. done ++ l) (sym (cons_is (f x) rest))
    ∙ ap (λ l. done ++ filter_map f l) (sym (drop_more xs i x within ∙ ap (λ y. y ∷ drop (i + 1) xs) (sym is))) ∙ all

-- all elements
pub all_kept : {A B : Type 0} (f : A → Option B) (xs : List A) (i : ℕ) (done : List B) → length xs ≤ i
    → done ++ filter_map f (drop i xs) ≡ filter_map f xs → done ≡ filter_map f xs
all_kept f xs i done past all =
    sym (append-nil done) ∙ ap (λ l. done ++ filter_map f l) (sym (drop_all i xs past)) ∙ all

-- what holds of what is kept
module _ {A B : Type 0} (P : A → Type 0) (Q : B → Type 0) (f : A → Option B) (keeps : (x : A) (y : B) → P x → f x ≡ Some y → Q y) where
  cons_kept : (x : A) (o : Option B) (ys : List B) → P x → f x ≡ o → All Q ys → All Q (cons_option o ys)
  cons_kept x None ys p is rest = rest
  cons_kept x (Some y) ys p is rest = All-cons Q y ys (keeps x y p is) rest

  pub All-filter_map : (xs : List A) → All P xs → All Q (filter_map f xs)
  All-filter_map [] all = All-nil Q
  All-filter_map (x ∷ xs) all =
      cons_kept x (f x) (filter_map f xs) (All-head P x xs all) refl (All-filter_map xs (All-tail P x xs all))

-- ---- labels

-- a change between characters after which the text fits
pub record IsFitting (change : Change) (piece text : List ℕ) : Type 0 where
  pub cuts : CutsNone change piece text
  pub fits : Fits (changed change piece text)
  pub small : change.inserted < 2 ^ 32

can_move : (change : Change) (piece text : List ℕ) (label : Label) → IsFitting change piece text → StandsIn text label → CanMove change label
can_move change piece text label is stands =
    let kept = keeps_marks change piece text (mark_of label) is.cuts (omega arith) stands.start stands.end in
    record {
      ordered = is.cuts.is.ordered;
      inserted = is.small;
      fits = omega (arith, kept.end.0, is.fits);
    }

-- a mark that stays
mark_stays : (gone : Bool) (start end : ℕ) (mark : Mark) → cond gone None (Some (record { start = start; end = end })) ≡ Some mark
    → (mark.start ≡ start) × (mark.end ≡ end)
mark_stays true start end mark is = cc
mark_stays false start end mark is = (cc, cc)

-- its ends are in order, and in the range of 32 bits
pub mark_small : (change : Change) (label : Label) (mark : Mark) → CanMove change label → moved_mark change (mark_of label) ≡ Some mark
    → (mark.start ≤ mark.end) × (mark.end < 2 ^ 32)
mark_small change label mark can is =
    let start = moved_start change label.offset in
    let end = moved_end change (mark_of label) in
    let at = mark_stays ((start == end) && not (label.offset == label_end label)) start end mark is in
    let order : start ≤ end = marks_in_order change (mark_of label) can.ordered (omega arith) in
    (omega (arith, at.0, at.1, order), omega (arith, at.1, can.fits))

label_at : (label new : Label) (o : Option Mark) (start end : ℕ) → ((mark : Mark) → o ≡ Some mark → (mark.start ≡ start) × (mark.end ≡ end))
    → option_map (placed label) o ≡ Some new → (new.offset ≡ start) × (new.len ≡ end - start)
label_at label new None start end at is = cc
label_at label new (Some mark) start end at is =
    let ends = at mark refl in
    let same : placed label mark ≡ new = cc in
    (sym (ap (λ (l : Label). l.offset) same) ∙ ends.0, sym (ap (λ (l : Label). l.len) same) ∙ ap₂ (λ a b. a - b) ends.1 ends.0)

label_stands : (change : Change) (piece text : List ℕ) → CutsNone change piece text → (label new : Label) → StandsIn text label → moved_label change label ≡ Some new
    → StandsIn (changed change piece text) new
unfolding moved_label
label_stands change piece text cuts label new stands is =
    let start = moved_start change label.offset in
    let end = moved_end change (mark_of label) in
    let at = label_at label new (moved_mark change (mark_of label)) start end (λ mark e. mark_stays ((start == end) && not (label.offset == label_end label)) start end mark e) is in
    let kept = keeps_marks change piece text (mark_of label) cuts (omega arith) stands.start stands.end in
    let last : end ≡ label_end new = omega (arith, at.0, at.1, kept.order) in
    let ends = subst (IsCharBoundary (changed change piece text)) last kept.end in
    record {
      within = ends.0;
      start = subst (IsCharBoundary (changed change piece text)) (sym at.0) kept.start;
      end = ends;
    }

finding_at : (change : Change) (piece text : List ℕ) → CutsNone change piece text → (gone : Bool) (it new : OxcParts) → StandIn text it
    → cond gone None (Some (record it { labels = filter_map (moved_label change) it.labels })) ≡ Some new
    → StandIn (changed change piece text) new
finding_at change piece text cuts true it new stands is = cc
finding_at change piece text cuts false it new stands is =
    let same : filter_map (moved_label change) it.labels ≡ new.labels = cc in
    subst (All (StandsIn (changed change piece text))) same
    (All-filter_map (StandsIn text) (StandsIn (changed change piece text)) (moved_label change) (label_stands change piece text cuts) it.labels stands)

-- findings whose labels stand in the text stand in the text after the change
pub found_stand : (change : Change) (piece text : List ℕ) → CutsNone change piece text → (found : List OxcParts) → All (StandIn text) found
    → All (StandIn (changed change piece text)) (filter_map (moved_diagnostic change) found)
unfolding moved_diagnostic
found_stand change piece text cuts found stand =
    All-filter_map (StandIn text) (StandIn (changed change piece text)) (moved_diagnostic change)
    (λ it new stands is. finding_at change piece text cuts (head_goes change it.labels) it new stands is) found stand

-- and their labels can move
pub found_can_move : (change : Change) (piece text : List ℕ) → IsFitting change piece text → (found : List OxcParts) → All (StandIn text) found
    → All (CanMoveAll change) found
found_can_move change piece text is found stand k d lt =
    λ j e le. can_move change piece text (get_or (get_or found k d).labels j e) is (stand k d lt j e le)

-- A text around an offset that moves.
use Rattle.std.proofs.Common.{◌≡◌, ◌≢◌, refl, ℕ, ◌+◌, ◌-◌, ◌<◌, ◌≤◌, ⊎_elim, List, ◌++◌, length, take, drop, sym, ◌∙◌, ap, subst, append_assoc, arith, length-append}
use Rattle.std.proofs.lemmas.Grind.{common_steps}
use Rattle.std.proofs.lemmas.Bool.{cases_eq, cases_lt}
use Rattle.std.proofs.lemmas.Bool.Decides.{nat_tests}
use Rattle.std.proofs.lemmas.List.{take-append-le, take-take, drop-drop}
use Rattle.std.proofs.lemmas.Str.{IsUtf8-append, IsUtf8-drop, IsUtf8-take, IsCharBoundary-at_seam, IsCharBoundary-from_drop, IsCharBoundary-from_take}
use Rattle.std.proofs.Math.Seq.{drop-append-add}
use Rattle.std.specs.Str.{IsUtf8, IsCharBoundary}
use Rattle.lsp_server.specs.declared.marks.Change.{Change}
use Rattle.lsp_server.specs.declared.marks.Mark.{Mark}
use Rattle.lsp_server.specs.Marks.{moved_end, moved_offset, moved_start, changed, CutsNone, IsChangeOf, KeepsBoundaries, KeepsMark, KeepsMarks, MovesInOrder, MovesWithText}

stays : (change : Change) (offset : ℕ) → offset ≤ change.start → moved_offset change offset ≡ offset
stays change offset h = grind (arith, nat_tests)

goes : (change : Change) (offset : ℕ) → change.start < offset → offset < change.end → moved_offset change offset ≡ change.start
goes change offset h k = grind (arith, nat_tests)

shifts : (change : Change) (offset : ℕ) → change.start < offset → change.end ≤ offset → moved_offset change offset ≡ offset - (change.end - change.start) + change.inserted
shifts change offset h k = grind (arith, nat_tests)

length_front : (n : ℕ) (text : List ℕ) → n ≤ length text → length (take n text) ≡ n
length_front n text h = grind (arith, common_steps)

pub moves_with_text : MovesWithText
moves_with_text change piece text offset is within =
    let front = take change.start text in
    let back = drop change.end text in
    let len : length front ≡ change.start = length_front change.start text (omega (arith, is.ordered, is.within)) in
    record {
      before = λ h.
          ap (λ n. take n (changed change piece text)) (stays change offset h)
          ∙ (ap (λ t. take offset t) (append_assoc front piece back)
          ∙ (take-append-le offset front (piece ++ back) (omega arith)
          ∙ take-take offset change.start text h));
      behind = λ h k.
          let both : length (front ++ piece) ≡ length front + length piece = length-append front piece in
          let to : moved_offset change offset ≡ length (front ++ piece) + (offset - change.end) =
          shifts change offset h k ∙ (omega (arith, is.ordered, is.inserted)) in
          let same : change.end + (offset - change.end) ≡ offset = omega arith in
          ap (λ n. drop n (changed change piece text)) to
          ∙ (drop-append-add (front ++ piece) back (offset - change.end)
          ∙ (drop-drop (offset - change.end) change.end text
          ∙ ap (λ n. drop n text) same));
    }

-- the text after a change between characters is a text
pub changed_text : (change : Change) (piece text : List ℕ) → CutsNone change piece text → IsUtf8 (changed change piece text)
changed_text change piece text cuts =
    IsUtf8-append (take change.start text ++ piece) (drop change.end text)
    (IsUtf8-append (take change.start text) piece (IsUtf8-take text change.start cuts.whole cuts.start) cuts.new)
    (IsUtf8-drop text change.end cuts.whole cuts.end)

pub length-changed : (change : Change) (piece text : List ℕ) → IsChangeOf change piece text
    → length (changed change piece text) + (change.end - change.start) ≡ length text + change.inserted
length-changed change piece text is =
    let front = length_front change.start text (omega (arith, is.ordered, is.within)) in
    let back : length (drop change.end text) ≡ length text - change.end = grind (arith, common_steps) in
    omega (arith, is.ordered, is.within, is.inserted, front, back, length-append (take change.start text ++ piece) (drop change.end text), length-append (take change.start text) piece)

before_kept : (change : Change) (piece text : List ℕ) (offset : ℕ) → CutsNone change piece text → IsCharBoundary text offset → offset ≤ change.start
    → IsCharBoundary (changed change piece text) (moved_offset change offset)
before_kept change piece text offset cuts at before =
    let kept = (moves_with_text change piece text offset cuts.is at.0).before before in
    let whole = length-changed change piece text cuts.is in
    let inside : moved_offset change offset ≤ length (changed change piece text) =
    omega (arith, stays change offset before, whole, cuts.is.ordered, cuts.is.within) in
    IsCharBoundary-from_take (changed change piece text) (moved_offset change offset) (changed_text change piece text cuts) inside
    (subst IsUtf8 (sym kept) (IsUtf8-take text offset cuts.whole at))

behind_kept : (change : Change) (piece text : List ℕ) (offset : ℕ) → CutsNone change piece text → IsCharBoundary text offset → change.start < offset → change.end ≤ offset
    → IsCharBoundary (changed change piece text) (moved_offset change offset)
behind_kept change piece text offset cuts at start behind =
    let kept = (moves_with_text change piece text offset cuts.is at.0).behind start behind in
    let whole = length-changed change piece text cuts.is in
    let inside : moved_offset change offset ≤ length (changed change piece text) =
    omega (arith, shifts change offset start behind, whole, at.0, cuts.is.ordered, cuts.is.within) in
    IsCharBoundary-from_drop (changed change piece text) (moved_offset change offset) inside
    (subst IsUtf8 (sym kept) (IsUtf8-drop text offset cuts.whole at))

within_kept : (change : Change) (piece text : List ℕ) (offset : ℕ) → CutsNone change piece text → change.start < offset → offset < change.end
    → IsCharBoundary (changed change piece text) (moved_offset change offset)
within_kept change piece text offset cuts start inside =
    let front = take change.start text in
    let back = drop change.end text in
    let len : length front ≡ change.start = length_front change.start text (omega (arith, cuts.is.ordered, cuts.is.within)) in
    let to : length front ≡ moved_offset change offset = len ∙ sym (goes change offset start inside) in
    subst (IsCharBoundary (changed change piece text)) to
    (IsCharBoundary-at_seam (changed change piece text) front (piece ++ back) (append_assoc front piece back)
    (IsUtf8-append piece back cuts.new (IsUtf8-drop text change.end cuts.whole cuts.end)))

pub keeps_boundaries : KeepsBoundaries
keeps_boundaries change piece text offset cuts at =
    ⊎_elim
    (λ start. ⊎_elim
    (λ inside. within_kept change piece text offset cuts start inside)
    (λ behind. behind_kept change piece text offset cuts at start behind)
    (cases_lt offset change.end))
    (λ before. before_kept change piece text offset cuts at before)
    (cases_lt change.start offset)

pub moves_in_order : MovesInOrder
moves_in_order change a b ordered le = grind (arith, nat_tests)

-- ---- marks

-- behind what is inserted there is a boundary
inserted_end : (change : Change) (piece text : List ℕ) → CutsNone change piece text → change.start ≡ change.end
    → IsCharBoundary (changed change piece text) (change.start + change.inserted)
inserted_end change piece text cuts empty =
    let front = take change.start text in
    let back = drop change.end text in
    let len : length front ≡ change.start = length_front change.start text (omega (arith, cuts.is.ordered, cuts.is.within)) in
    let to : length (front ++ piece) ≡ change.start + change.inserted = omega (arith, len, length-append front piece, cuts.is.inserted) in
    subst (IsCharBoundary (changed change piece text)) to
    (IsCharBoundary-at_seam (changed change piece text) (front ++ piece) back refl
    (IsUtf8-drop text change.end cuts.whole cuts.end))

inserted_there : (change : Change) (offset : ℕ) → change.start ≡ change.end → offset ≡ change.start → moved_start change offset ≡ change.start + change.inserted
inserted_there change offset empty at = grind (arith, nat_tests)

replaced : (change : Change) (offset : ℕ) → change.start ≢ change.end → moved_start change offset ≡ moved_offset change offset
replaced change offset some = grind (arith, nat_tests)

elsewhere : (change : Change) (offset : ℕ) → offset ≢ change.start → moved_start change offset ≡ moved_offset change offset
elsewhere change offset apart = grind (arith, nat_tests)

start_kept : (change : Change) (piece text : List ℕ) (offset : ℕ) → CutsNone change piece text → IsCharBoundary text offset
    → IsCharBoundary (changed change piece text) (moved_start change offset)
start_kept change piece text offset cuts at =
    let kept = keeps_boundaries change piece text offset cuts at in
    let Kept : ℕ → Type 0 = IsCharBoundary (changed change piece text) in
    ⊎_elim
    (λ empty. ⊎_elim
    (λ there. subst Kept (sym (inserted_there change offset empty there)) (inserted_end change piece text cuts empty))
    (λ apart. subst Kept (sym (elsewhere change offset apart)) kept)
    (cases_eq offset change.start))
    (λ some. subst Kept (sym (replaced change offset some)) kept)
    (cases_eq change.start change.end)

empty_end : (change : Change) (mark : Mark) → mark.start ≡ mark.end → moved_end change mark ≡ moved_start change mark.start
empty_end change mark empty = grind (arith, nat_tests)

own_end : (change : Change) (mark : Mark) → mark.start ≢ mark.end → moved_end change mark ≡ moved_offset change mark.end
own_end change mark some = grind (arith, nat_tests)

pub marks_in_order : (change : Change) (mark : Mark) → change.start ≤ change.end → mark.start ≤ mark.end → moved_start change mark.start ≤ moved_end change mark
marks_in_order change mark ordered le = grind (arith, nat_tests)

pub keeps_marks : KeepsMarks
keeps_marks change piece text mark cuts le start end =
    let kept = keeps_boundaries change piece text mark.end cuts end in
    let begun = start_kept change piece text mark.start cuts start in
    let Kept : ℕ → Type 0 = IsCharBoundary (changed change piece text) in
    record {
      order = marks_in_order change mark cuts.is.ordered le;
      start = begun;
      end = ⊎_elim
          (λ empty. subst Kept (sym (empty_end change mark empty)) begun)
          (λ some. subst Kept (sym (own_end change mark some)) kept)
          (cases_eq mark.start mark.end);
    }

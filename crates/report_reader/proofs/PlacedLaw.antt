-- Where the marks of a row stand apart, each text hangs at its own mark, no label has two marks, and the cells can be counted.
use Rattle.std.proofs.Common.{◌≡◌, ℕ, ◌+◌, ◌<◌, ◌≤◌, ◌^◌, max, Bool, true, false, ◌⊎◌, inl, inr, List, [], ◌∷◌, ◌++◌, map, Option, Some, None, IfSome, is_some, if◌then◌else◌, eqb, refl, sym, ap, ◌∙◌, arith}
use Rattle.std.specs.List.{find, filter_map, cons_option}
use Rattle.std.specs.Option.{unwrap_or}
use Rattle.std.proofs.lemmas.List.{append_assoc}
use Rattle.std.proofs.lemmas.Bool.Decides.{nat_tests}
use Rattle.oxc_plan.specs.declared.hangs.Hang.{Hang}
use Rattle.oxc_plan.specs.declared.marks.LabelCells.{LabelCells}
use Rattle.oxc_plan.specs.declared.marks.MarkCells.{MarkCells}
use Rattle.oxc_plan.specs.Marks.{mark_end, placed_marks}
use Rattle.oxc_plan.specs.Plan.{Ordered}
use Rattle.oxc_handlers.specs.Hangs.{has_mark}
use Rattle.oxc_handlers.specs.Setting.{text_at, is_empty_at}
use Rattle.report_reader.specs.ReadsBack.{IsLine, StandApart}
use Rattle.report_reader.proofs.RowWords.{hang_at, hangs_of, AreApart, AreSized}

unequal : (a b : ℕ) → (a ≡ b → ⊥) → eqb a b ≡ false
unequal a b other = grind (arith, nat_tests, other)

-- the hang of a label, at the first of some labels that is like it
abbrev pub planned_hang : List Ordered → (ℕ → ℕ → Bool) → List ℕ → ℕ → Option Hang
planned_hang labels like places at =
    if is_some (text_at labels at) then Some (record { label = at; at = unwrap_or (find (λ other. like other at) places) at }) else None

module _ (labels : List Ordered) (like : ℕ → ℕ → Bool) (cells_of : ℕ → LabelCells) (bound : ℕ)
    (named : (at : ℕ) → (cells_of at).label ≡ at)
    (equal : (a b : ℕ) → like a b ≡ true → (cells_of a).start ≡ (cells_of b).start)
    (itself : (at : ℕ) → like at at ≡ true)
    (lines : (at : ℕ) → IfSome (text_at labels at) IsLine)
    (empty : (at : ℕ) → is_empty_at labels at ≡ true → (cells_of at).end ≡ (cells_of at).start + 1)
    (first : (at : ℕ) → (cells_of at).start ≤ bound)
    (last : (at : ℕ) → (cells_of at).end ≤ bound + 1)
    (small : bound < 2 ^ 62) where
  abbrev AreBelow : ℕ → List ℕ → Type 0
  AreBelow least [] = 0 ≤ 0
  AreBelow least (x ∷ more) = ((cells_of x).start < least) × AreBelow least more

  below_push : (least later at : ℕ) (places : List ℕ) → least ≤ later → (cells_of at).start < later → AreBelow least places → AreBelow later (places ++ at ∷ [])
  below_push least later at [] le lt below = (lt, omega arith)
  below_push least later at (x ∷ places) le lt (here, below) = (omega (arith, here, le), below_push least later at places le lt below)

  unlike : (x at : ℕ) → (cells_of x).start < (cells_of at).start → like x at ≡ false
  unlike x at lt =
      elim (like x at) as (λ v. like x at ≡ v → v ≡ false) [
        | true ↦ λ e. absurd (omega (arith, lt, equal x at e))
        | false ↦ λ e. refl
      ] refl

  own_place : (least at : ℕ) (before more : List ℕ) → least ≤ (cells_of at).start → AreBelow least before → find (λ other. like other at) (before ++ at ∷ more) ≡ Some at
  own_place least at [] more le below = rw (itself at) refl
  own_place least at (x ∷ before) more le (here, below) = rw (unlike x at (omega (arith, here, le))) (own_place least at before more le below)

  -- a label's first cell is its mark's
  first_cell : (before least : ℕ) (c : LabelCells) → (before < least) ⊎ (before ≡ 0) → least ≤ max c.start before → least ≤ c.start
  first_cell before least c (inl lt) le = omega (arith, lt, le)
  first_cell before least c (inr none) le = omega (arith, none, le)

  own_start : (before least : ℕ) (c : LabelCells) → (before < least) ⊎ (before ≡ 0) → least ≤ c.start → max c.start before ≡ c.start
  own_start before least c (inl lt) le = omega (arith, lt, le)
  own_start before least c (inr none) le = omega (arith, none, le)

  one_cell : (before : ℕ) (c : LabelCells) → c.end ≡ c.start + 1 → mark_end before c ≡ max c.start before + 1
  one_cell before c one = omega (arith, one)

  hang_by : (at : ℕ) (text : Option (List ℕ)) (rest : List Hang) → cons_option (if is_some text then Some (record { label = at; at = at }) else None) rest ≡ hang_at at text ++ rest
  hang_by at None rest = refl
  hang_by at (Some text) rest = refl

  hangs_own : (before least : ℕ) (done places : List ℕ) → (before < least) ⊎ (before ≡ 0) → AreBelow least done → StandApart least (placed_marks before (map cells_of places))
      → filter_map (planned_hang labels like (done ++ places)) places ≡ hangs_of labels (placed_marks before (map cells_of places))
  unfolding placed_marks
  hangs_own before least done [] at_first below apart = refl
  hangs_own before least done (at ∷ more) at_first below (here, apart) =
      let c : LabelCells = cells_of at in
      let start : least ≤ c.start = first_cell before least c at_first here in
      let own : find (λ other. like other at) (done ++ at ∷ more) ≡ Some at = own_place least at done more start below in
      let shift : (done ++ at ∷ []) ++ more ≡ done ++ at ∷ more = append_assoc done (at ∷ []) more in
      let rest : filter_map (planned_hang labels like (done ++ at ∷ more)) more ≡ hangs_of labels (placed_marks (mark_end before c) (map cells_of more)) =
      ap (λ l. filter_map (planned_hang labels like l) more) (sym shift)
      ∙ hangs_own (mark_end before c) (mark_end before c + 1) (done ++ at ∷ []) more (inl (omega arith)) (below_push least (mark_end before c + 1) at done (omega (arith, start)) (omega arith) below) apart in
      rw (own, rest, named at) (hang_by at (text_at labels at) (hangs_of labels (placed_marks (mark_end before c) (map cells_of more))))

  apart_starts : (at label : ℕ) → at ≡ label → (cells_of label).start < (cells_of at).start → ⊥
  apart_starts at label same lt = omega (arith, lt, ap (λ n. (cells_of n).start) same)

  -- no later mark is of the same label
  later_label : (before least label : ℕ) (places : List ℕ) → before < least → (cells_of label).start < least → StandApart least (placed_marks before (map cells_of places)) → has_mark label (placed_marks before (map cells_of places)) ≡ false
  unfolding placed_marks
  later_label before least label [] lt below apart = refl
  later_label before least label (at ∷ more) lt below (here, apart) =
      let start : least ≤ (cells_of at).start = first_cell before least (cells_of at) (inl lt) here in
      let other : eqb (cells_of at).label label ≡ false = unequal (cells_of at).label label (λ e. apart_starts at label (sym (named at) ∙ e) (omega (arith, start, below))) in
      rw other (later_label (mark_end before (cells_of at)) (mark_end before (cells_of at) + 1) label more (omega arith) (omega (arith, below, start)) apart)

  marks_own : (before least : ℕ) (places : List ℕ) → (before < least) ⊎ (before ≡ 0) → StandApart least (placed_marks before (map cells_of places)) → AreApart labels least (placed_marks before (map cells_of places))
  unfolding placed_marks
  marks_own before least [] at_first apart = omega arith
  marks_own before least (at ∷ more) at_first (here, apart) =
      let c : LabelCells = cells_of at in (
        record {
          start = here;
          end = omega arith;
          bar = refl;
          text = lines c.label;
          once = later_label (mark_end before c) (mark_end before c + 1) c.label more (omega arith) (omega (arith, ap (λ n. (cells_of n).start) (named at))) apart;
        },
        marks_own (mark_end before c) (mark_end before c + 1) more (inl (omega arith)) apart,
      )

  -- the cells of marks can be counted
  marks_sized : (before least : ℕ) (places : List ℕ) → (before < least) ⊎ (before ≡ 0) → StandApart least (placed_marks before (map cells_of places)) → AreSized labels (placed_marks before (map cells_of places))
  unfolding placed_marks
  marks_sized before least [] at_first apart = omega arith
  marks_sized before least (at ∷ more) at_first (here, apart) =
      let c : LabelCells = cells_of at in
      let start : least ≤ c.start = first_cell before least c at_first here in
      let own : max c.start before ≡ c.start = own_start before least c at_first start in (
        record {
          empty = λ is. one_cell before c (empty at (ap (is_empty_at labels) (sym (named at)) ∙ is));
          sum = omega (arith, own, first at, last at, small);
        },
        marks_sized (mark_end before c) (mark_end before c + 1) more (inl (omega arith)) apart,
      )

-- what is read of the marks of a row and of the texts that hang at them
pub record AreMarksRead (labels : List Ordered) (hangs : List Hang) (marks : List MarkCells) : Type 0 where
  pub hangs_at : hangs ≡ hangs_of labels marks
  pub apart : AreApart labels 0 marks
  pub sized : AreSized labels marks

pub marks_read : (labels : List Ordered) (like : ℕ → ℕ → Bool) (cells_of : ℕ → LabelCells) (bound : ℕ)
    → ((at : ℕ) → (cells_of at).label ≡ at)
    → ((a b : ℕ) → like a b ≡ true → (cells_of a).start ≡ (cells_of b).start)
    → ((at : ℕ) → like at at ≡ true)
    → ((at : ℕ) → IfSome (text_at labels at) IsLine)
    → ((at : ℕ) → is_empty_at labels at ≡ true → (cells_of at).end ≡ (cells_of at).start + 1)
    → ((at : ℕ) → (cells_of at).start ≤ bound)
    → ((at : ℕ) → (cells_of at).end ≤ bound + 1)
    → bound < 2 ^ 62
    → (places : List ℕ) → StandApart 0 (placed_marks 0 (map cells_of places))
    → AreMarksRead labels (filter_map (planned_hang labels like places) places) (placed_marks 0 (map cells_of places))
marks_read labels like cells_of bound named equal itself lines empty first last small places apart =
    record {
      hangs_at = hangs_own labels like cells_of bound named equal itself lines empty first last small 0 0 [] places (inr refl) (omega arith) apart;
      apart = marks_own labels like cells_of bound named equal itself lines empty first last small 0 0 places (inr refl) apart;
      sized = marks_sized labels like cells_of bound named equal itself lines empty first last small 0 0 places (inr refl) apart;
    }

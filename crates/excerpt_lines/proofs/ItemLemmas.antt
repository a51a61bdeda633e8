-- What it means that items cover a line.
use Rattle.std.proofs.Common.{◌≡◌, ℕ, zero, suc, ◌-◌, ◌<◌, ◌≤◌, inl, inr, List, [], ◌∷◌, length, min, slice_index, slice_index_or, true, false, refl, sym, ap, ◌∙◌, subst, append_assoc, append-nil, ◌++◌, arith, Any, All}
use Rattle.std.proofs.lemmas.Bool.{cases_lt}
use Rattle.std.proofs.lemmas.List.Elements.{All-nil, All-push}
use Rattle.excerpt_lines.specs.declared.tables.CharClass.TheVariants.{Blank, Ink}
use Rattle.excerpt_lines.specs.declared.items.Item.{Item}
use Rattle.excerpt_lines.specs.declared.items.Part.{Part}
use Rattle.excerpt_lines.specs.declared.items.Part.TheVariants.{Gutter, Row, Mark, Bar, Link, Hook, Text, Whole, Lead}
use Rattle.excerpt_lines.specs.declared.kinds.LineKind.{LineKind}
use Rattle.excerpt_lines.specs.declared.kinds.LineKind.TheVariants.{Empty, Place as PlaceLine, Note as NoteLine, Row as RowLine, Marks as MarksLine, Space as SpaceLine, Inserted, Loose, Frame, Plain}
use Rattle.excerpt_lines.specs.Tables.{is_in}
use Rattle.excerpt_lines.specs.Gutter.{text_at}
use Rattle.excerpt_lines.specs.Runs.{EachIn}
use Rattle.excerpt_lines.specs.Cells.{cell_at}
use Rattle.excerpt_lines.specs.Items.{AddsItems, AreDisjoint, Covers, InkIsKept, IsItem, IsNext, IsOver, IsPart, is_drawn}
use Rattle.excerpt_lines.specs.Lines.{AddsWhole, HasItems, IsFront, IsRead, is_front, is_row, is_whole}

any_more : (k : ℕ) (item : Item) (items : List Item) → Any (IsOver k) items → Any (IsOver k) (item ∷ items)
any_more k item items h = (suc h.0, h.1, omega (arith, h.2), h.3, h.4)

ink_from : (line : List ℕ) (begin : ℕ) (hung : List ℕ) (at : ℕ) (items : List Item) → Covers line begin hung at items
    → (k : ℕ) → at ≤ k → k < length line → is_in Blank (slice_index line k) ≡ false → Any (IsOver k) items
ink_from line begin hung at [] covers k from within ink = let so_is : is_in Blank (slice_index line k) ≡ true = covers k from within in cc
ink_from line begin hung at (item ∷ items) covers k from within ink =
    elim (cases_lt k item.start) [
      | inl before ↦ (let so_is : is_in Blank (slice_index line k) ≡ true = covers.0.gap k from before in cc)
      | inr start ↦ elim (cases_lt k item.end) [
        | inl inside ↦ (0, item, omega arith, refl, (start, inside))
        | inr past ↦ any_more k item items (ink_from line begin hung item.end items covers.1 k past within ink)
      ]
    ]

pub ink_is_kept : (line : List ℕ) (begin : ℕ) (hung : List ℕ) (items : List Item) → Covers line begin hung 0 items → InkIsKept line items
ink_is_kept line begin hung items covers = λ k within ink. ink_from line begin hung 0 items covers k (omega arith) within ink

low_from : (line : List ℕ) (begin : ℕ) (hung : List ℕ) (at : ℕ) (items : List Item) → Covers line begin hung at items
    → (j : ℕ) (d : Item) → j < length items → at ≤ (slice_index_or items j d).start
low_from line begin hung at [] covers j d within = absurd (omega arith)
low_from line begin hung at (item ∷ items) covers zero d within = covers.0.from
low_from line begin hung at (item ∷ items) covers (suc j) d within =
    omega (arith, covers.0.from, covers.0.part.some, low_from line begin hung item.end items covers.1 j d (omega arith))

apart : (line : List ℕ) (begin : ℕ) (hung : List ℕ) (at : ℕ) (items : List Item) → Covers line begin hung at items
    → (i j : ℕ) (d : Item) → i < j → j < length items → (slice_index_or items i d).end ≤ (slice_index_or items j d).start
apart line begin hung at [] covers i j d less within = absurd (omega arith)
apart line begin hung at (item ∷ items) covers zero zero d less within = absurd (omega arith)
apart line begin hung at (item ∷ items) covers zero (suc j) d less within = low_from line begin hung item.end items covers.1 j d (omega arith)
apart line begin hung at (item ∷ items) covers (suc i) zero d less within = absurd (omega arith)
apart line begin hung at (item ∷ items) covers (suc i) (suc j) d less within = apart line begin hung item.end items covers.1 i j d (omega arith) (omega arith)

pub disjoint : (line : List ℕ) (begin : ℕ) (hung : List ℕ) (at : ℕ) (items : List Item) → Covers line begin hung at items → AreDisjoint items
disjoint line begin hung at items covers = λ i j d less within. apart line begin hung at items covers i j d less within

-- the parts added so far, which the rest completes
pub record AddedSoFar (line hung : List ℕ) (at : ℕ) (old : List Item) (next : ℕ) (new : List Item) : Type 0 where
  pub more : List Item
  pub added : new ≡ old ++ more
  pub covers : (rest : List Item) → Covers line at hung next rest → Covers line at hung at (more ++ rest)
  pub parts : All (λ (item : Item). is_drawn item.part ≡ true) more

pub added_none : (line hung : List ℕ) (at : ℕ) (old : List Item) → AddedSoFar line hung at old at old
added_none line hung at old = record {
  more = [];
  added = sym (append-nil old);
  covers = λ rest h. h;
  parts = All-nil (λ (item : Item). is_drawn item.part ≡ true);
}

pub added_one : (line hung : List ℕ) (at : ℕ) (old : List Item) (next : ℕ) (so_far new : List Item) (item : Item) → AddedSoFar line hung at old next so_far
    → IsNext line at hung next item → is_drawn item.part ≡ true → new ≡ so_far ++ item ∷ [] → AddedSoFar line hung at old item.end new
added_one line hung at old next so_far new item so is drawn put = record {
  more = so.more ++ item ∷ [];
  added = put ∙ (ap (λ (xs : List Item). xs ++ item ∷ []) so.added ∙ append_assoc old so.more (item ∷ []));
  covers = λ rest h. rw append_assoc (so.covers (item ∷ rest) (is, h));
  parts = All-push (λ (i : Item). is_drawn i.part ≡ true) so.more item so.parts drawn;
}

pub added_all : (line hung : List ℕ) (at : ℕ) (old : List Item) (next : ℕ) (new : List Item) → AddedSoFar line hung at old next new → EachIn Blank line next (length line) → AddsItems line hung at old new
added_all line hung at old next new so blank = record {
  more = so.more;
  added = so.added;
  covers = subst (λ (items : List Item). Covers line at hung at items) (append-nil so.more) (so.covers [] blank);
  parts = so.parts;
}

front_is : (line : List ℕ) (text : ℕ) (hung : List ℕ) (part : Part) (start end : ℕ) → is_front part ≡ true → is_in Ink (slice_index line start) ≡ true → end ≡ text → IsPart line text hung part start end
front_is line text hung Gutter start end suits ink is = (ink, is)
front_is line text hung Row start end suits ink is = cc
front_is line text hung (Mark class) start end suits ink is = cc
front_is line text hung Bar start end suits ink is = cc
front_is line text hung Link start end suits ink is = cc
front_is line text hung (Hook rest) start end suits ink is = cc
front_is line text hung Text start end suits ink is = cc
front_is line text hung Whole start end suits ink is = cc
front_is line text hung Lead start end suits ink is = (ink, is)

front_part : (line : List ℕ) (text : ℕ) (hung : List ℕ) (part : Part) (item : Item) → is_front part ≡ true → is_in Ink (slice_index line item.start) ≡ true → item.part ≡ part → item.end ≡ text → IsPart line text hung item.part item.start item.end
front_part line text hung part item suits ink is end = subst (λ (p : Part). IsPart line text hung p item.start item.end) (sym is) (front_is line text hung part item.start item.end suits ink end)

wider : (line : List ℕ) (begin : ℕ) (hung : List ℕ) (at : ℕ) (items : List Item) → EachIn Blank line 0 at → Covers line begin hung at items → Covers line begin hung 0 items
wider line begin hung at [] blanks covers = λ k from within. elim (cases_lt k at) [
  | inl less ↦ blanks k from less
  | inr more ↦ covers k more within
]
wider line begin hung at (item ∷ items) blanks covers = (
  record {
    from = omega arith;
    gap = λ k from below. elim (cases_lt k at) [
      | inl less ↦ blanks k from less
      | inr more ↦ covers.0.gap k more below
    ];
    part = covers.0.part;
    cell_is = covers.0.cell_is;
    end_cell_is = covers.0.end_cell_is;
    few_cell = covers.0.few_cell;
    few = covers.0.few;
  },
  covers.1,
)

pub front_none : (line : List ℕ) (part : Part) (text start : ℕ) → text ≤ start → EachIn Blank line 0 start → IsFront line part text []
front_none line part text start past blanks = record {
  leads = λ hung rest h. wider line text hung text rest (λ k from below. blanks k from (omega arith)) h;
  parts = All-nil (λ (item : Item). item.part ≡ part);
}

pub front_one : (line : List ℕ) (part : Part) (text start : ℕ) (item : Item) → is_front part ≡ true → start < text → text ≤ length line → EachIn Blank line 0 start → is_in Ink (slice_index line start) ≡ true → IsItem line part start text item → IsFront line part text (item ∷ [])
front_one line part text start item suits less within blanks ink is = record {
  leads = λ hung rest h. (
    record {
      from = omega arith;
      gap = rw is.start_is blanks;
      part = record { some = omega (arith, is.start_is, is.end_is); within = omega (arith, is.end_is); is = front_part line text hung part item suits (rw is.start_is ink) is.part_is is.end_is };
      cell_is = is.cell_is ∙ ap (cell_at line) (sym is.start_is);
      end_cell_is = is.end_cell_is ∙ ap (cell_at line) (sym is.end_is);
      few_cell = omega (arith, is.few_cell, is.start_is);
      few = omega (arith, is.few, is.end_is);
    },
    rw is.end_is h,
  );
  parts = All-push (λ (i : Item). i.part ≡ part) [] item (All-nil (λ (i : Item). i.part ≡ part)) is.part_is;
}

pub added_whole : (line : List ℕ) (at start end : ℕ) (old new : List Item) (item : Item) → at ≤ start → start < end → end ≤ length line → EachIn Blank line at start → EachIn Blank line end (length line)
    → is_in Ink (slice_index line start) ≡ true → is_in Ink (slice_index line (end - 1)) ≡ true → IsItem line Whole start end item → new ≡ old ++ item ∷ [] → AddsWhole line at old new
added_whole line at start end old new item from less within before after first ink is put = record {
  more = item ∷ [];
  added = put;
  covers = λ hung. (
    record {
      from = omega (arith, is.start_is);
      gap = rw is.start_is before;
      part = record { some = omega (arith, is.start_is, is.end_is); within = omega (arith, is.end_is); is = rw (is.part_is, is.start_is, is.end_is) (first, ink, after) };
      cell_is = is.cell_is ∙ ap (cell_at line) (sym is.start_is);
      end_cell_is = is.end_cell_is ∙ ap (cell_at line) (sym is.end_is);
      few_cell = omega (arith, is.few_cell, is.start_is);
      few = omega (arith, is.few, is.end_is);
    },
    rw is.end_is after,
  );
  parts = All-push (λ (i : Item). is_whole i.part ≡ true) [] item (All-nil (λ (i : Item). is_whole i.part ≡ true)) (rw is.part_is refl);
}

pub added_nothing : (line : List ℕ) (at start end : ℕ) (old : List Item) → EachIn Blank line at start → end ≤ start → EachIn Blank line end (length line) → AddsWhole line at old old
added_nothing line at start end old before past after = record {
  more = [];
  added = sym (append-nil old);
  covers = λ hung k from within. elim (cases_lt k start) [
    | inl less ↦ before k from less
    | inr more ↦ after k (omega arith) within
  ];
  parts = All-nil (λ (i : Item). is_whole i.part ≡ true);
}

all_gutters : (items : List Item) → All (λ (item : Item). item.part ≡ Gutter) items → All (λ (item : Item). is_row item.part ≡ true) items
all_gutters items all = λ i d within. rw (all i d within) refl

-- a row without a text
pub row_alone : (line : List ℕ) (text : ℕ) (items : List Item) → IsFront line Gutter text items → length line ≤ text → (hung : List ℕ) → HasItems line hung text is_row items
row_alone line text items so past hung = record {
  covers = subst (λ (xs : List Item). Covers line text hung 0 xs) (append-nil items) (so.leads hung [] (λ k from within. absurd (omega arith)));
  parts = all_gutters items so.parts;
}

-- whatever the kind of a line, its items cover it
pub covered : (line hung : List ℕ) (kind : LineKind) (items : List Item) → IsRead line hung kind items → (text : ℕ) × Covers line text hung 0 items
covered line hung Empty items so = (0, so.covers)
covered line hung (PlaceLine p) items so = (0, so.covers)
covered line hung (NoteLine n) items so = (min n.text (length line), so.covers)
covered line hung (RowLine g) items so = (text_at line g.bar, so.covers)
covered line hung (MarksLine g) items so = (text_at line g.bar, so.covers)
covered line hung (SpaceLine g) items so = (text_at line g.bar, so.covers)
covered line hung (Inserted text) items so = (min text (length line), so.covers)
covered line hung Loose items so = (0, so.covers)
covered line hung Frame items so = (0, so.covers)
covered line hung Plain items so = (0, so.covers)

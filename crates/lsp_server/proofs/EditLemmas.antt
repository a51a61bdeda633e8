-- Changes of an open document.
use Rattle.std.proofs.Common.{◌≡◌, ℕ, ◌+◌, ◌-◌, ◌<◌, List, [], ◌∷◌, ◌++◌, append-nil, length, take, drop, get_or, length-append, string_bytes, Option, Some, None, refl, sym, ◌∙◌, ap, ap₂, subst, arith, inl, inr, ⊎_elim, IfSome}
use Rattle.std.proofs.lemmas.Bool.{cases_lt}
use Rattle.std.proofs.lemmas.List.{drop_all, drop_more}
use Rattle.std.proofs.lemmas.Str.{IsUtf8-string_bytes, IsCharBoundary-end, IsCharBoundary-start}
use Rattle.std.specs.List.{All, filter_map, replace_range}
use Rattle.std.specs.Str.{IsUtf8, IsCharBoundary}
use Rattle.source_location.specs.Breaks.{breaks_of}
use Rattle.source_location.specs.Index.{Fits}
use Rattle.text_places.specs.Places.{IsNearest}
use Rattle.text_places.specs.declared.encoding.Encoding.{Encoding}
use Rattle.text_places.specs.declared.place.Place.{Place}
use Rattle.client_text.specs.Changes.{AllChange, Changes, IsChanged, IsFault, IsFirstFault}
use Rattle.client_text.specs.Document.{Document}
use Rattle.client_text.specs.declared.change.Change.{Change}
use Rattle.client_text.specs.declared.change.Fault.{Fault}
use Rattle.client_text.proofs.ChangeLemmas.{AreMade, made_more}
use Rattle.oxc_protocol.specs.Parts.{OxcParts}
use Rattle.lsp_server.specs.Marks.{changed}
use Rattle.lsp_server.specs.declared.marks.Change.{Change as Moving}
use Rattle.lsp_server.proofs.MarkLemmas.{changed_text}
use Rattle.lsp_server.specs.Seen.{StandIn}
use Rattle.lsp_server.specs.Moved.{moved_diagnostic}
use Rattle.lsp_server.specs.Views.{IsSpareOf, OpenView, open_view}
use Rattle.lsp_server.specs.Edits.{Holds, IsWhere, MovesAll, MovesOne, moving}
use Rattle.lsp_server.proofs.MovedLemmas.{IsFitting, found_stand}

-- ---- where a change lies

-- there is one nearest boundary
one_nearest : (encoding : Encoding) (text : List ℕ) (place : Place) (a b : ℕ) → IsNearest encoding text place a → IsNearest encoding text place b → a ≡ b
one_nearest encoding text place a b first second =
    ⊎_elim
    (λ past. first.past past ∙ sym (second.past past))
    (λ within. omega (arith, second.largest within a (first.up_to within), first.largest within b (second.up_to within)))
    (cases_lt (length (breaks_of text)) place.line)

whole_replaced : (text insert : List ℕ) → replace_range text 0 (length text) insert ≡ insert
whole_replaced text insert = ap (λ l. insert ++ l) (drop_all (length text) text (omega arith)) ∙ append-nil insert

-- what a change that was made is
pub record IsMade (start end : ℕ) (change : Change) (old new : List ℕ) : Type 0 where
  pub fitting : IsFitting (moving start end change) (string_bytes change.text) old
  pub whole : new ≡ changed (moving start end change) (string_bytes change.text) old

made_of : (encoding : Encoding) (old new : List ℕ) (change : Change) (range : Option (Place × Place)) (start end : ℕ) → IsUtf8 old
    → IsWhere encoding old range start end → IsChanged encoding old range (string_bytes change.text) new
    → IsMade start end change old new
made_of encoding old new change None start end utf8 place (fits, is) =
    let insert = string_bytes change.text in
    let whole : new ≡ replace_range old start end insert =
    is ∙ sym (whole_replaced old insert) ∙ ap₂ (λ a b. replace_range old a b insert) (sym place.0) (sym place.1) in
    record {
      fitting = record {
        cuts = record {
          is = record { ordered = omega (arith, place.0); within = omega (arith, place.1); inserted = refl };
          whole = utf8;
          new = IsUtf8-string_bytes change.text;
          start = subst (IsCharBoundary old) (sym place.0) (IsCharBoundary-start old utf8);
          end = subst (IsCharBoundary old) (sym place.1) (IsCharBoundary-end old);
        };
        fits = subst Fits whole fits;
        small = omega (arith, fits, ap length is);
      };
      whole = whole;
    }
made_of encoding old new change (Some (from, to)) start end utf8 place made =
    let insert = string_bytes change.text in
    let first : made.first ≡ start = one_nearest encoding old from made.first start made.part.nearest_start place.start_nearest in
    let last : made.last ≡ end = one_nearest encoding old to made.last end made.part.nearest_end place.end_nearest in
    let whole : new ≡ replace_range old start end insert = made.is ∙ ap₂ (λ a b. replace_range old a b insert) first last in
    record {
      fitting = record {
        cuts = record {
          is = record { ordered = omega (arith, made.ordered, first, last); within = place.end_boundary.0; inserted = refl };
          whole = utf8;
          new = IsUtf8-string_bytes change.text;
          start = place.start_boundary;
          end = place.end_boundary;
        };
        fits = subst Fits whole made.fits;
        small = omega (
          arith,
          made.fits,
          ap length whole,
          length-append (take start old ++ insert) (drop end old),
          length-append (take start old) insert,
        );
      };
      whole = whole;
    }

-- ---- a change makes one text

part_same : (encoding : Encoding) (text : List ℕ) (range : Option (Place × Place)) (insert a b : List ℕ)
    → IsChanged encoding text range insert a → IsChanged encoding text range insert b → a ≡ b
part_same encoding text None insert a b first second = first.1 ∙ sym second.1
part_same encoding text (Some (from, to)) insert a b first second =
    let start = one_nearest encoding text from first.first second.first first.part.nearest_start second.part.nearest_start in
    let end = one_nearest encoding text to first.last second.last first.part.nearest_end second.part.nearest_end in
    first.is ∙ ap₂ (λ i j. replace_range text i j insert) start end ∙ sym second.is

pub changes_same : (encoding : Encoding) (text : List ℕ) (changes : List Change) (a b : List ℕ) → AllChange encoding text changes a → AllChange encoding text changes b → a ≡ b
changes_same encoding text [] a b first second = first ∙ sym second
changes_same encoding text (change ∷ changes) a b (next, made, later) (other, made_too, later_too) =
    let same = part_same encoding text change.range (string_bytes change.text) next other made made_too in
    changes_same encoding next changes a b later (subst (λ t. AllChange encoding t changes b) (sym same) later_too)

-- ---- one change

-- what the only change of a list makes
pub only_change : (encoding : Encoding) (old new : List ℕ) (change : Change) → AllChange encoding old (change ∷ []) new → Changes encoding old change new
only_change encoding old new change (next, made, last) = subst (λ (t : List ℕ). Changes encoding old change t) (sym last) made

-- why the only change of a list is refused
pub only_fault : (encoding : Encoding) (old : List ℕ) (change : Change) (number : ℕ) (fault : Fault) → IsFirstFault encoding old (change ∷ []) number fault → IsFault encoding old change fault
only_fault encoding old change number fault (inl first) = first.1
only_fault encoding old change number fault (inr later) = absurd later.4

pub made_one : (old new : Document) (change : Change) (start end : ℕ) → IsUtf8 old.text → AllChange old.encoding old.text (change ∷ []) new.text
    → IsWhere old.encoding old.text change.range start end
    → IsMade start end change old.text new.text
made_one old new change start end utf8 made place =
    made_of old.encoding old.text new.text change change.range start end utf8 place (only_change old.encoding old.text new.text change made)

-- the same change in other numbers
pub moving_is : (a b i start end : ℕ) (change : Change) → a ≡ start → b ≡ end → i ≡ length (string_bytes change.text)
    → moving start end change ≡ record { start = a; end = b; inserted = i }
moving_is a b i start end change p q r =
    ap {B = Moving} (λ n. record { start = n; end = end; inserted = length (string_bytes change.text) }) (sym p)
    ∙ ap {B = Moving} (λ n. record { start = a; end = n; inserted = length (string_bytes change.text) }) (sym q)
    ∙ ap {B = Moving} (λ n. record { start = a; end = b; inserted = n }) (sym r)

-- the findings stand in the new text
pub made_holds : (old new : Document) (change : Change) (start end : ℕ) (found moved : List OxcParts) → IsMade start end change old.text new.text → Holds old found
    → moved ≡ filter_map (moved_diagnostic (moving start end change)) found → Holds new moved
made_holds old new change start end found moved made holds is =
    let m = moving start end change in
    let piece = string_bytes change.text in
    record {
      text = subst IsUtf8 (sym made.whole) (changed_text m piece old.text made.fitting.cuts);
      stand = subst (λ (t : List ℕ). All (StandIn t) moved) (sym made.whole)
          (subst (All (StandIn (changed m piece old.text))) (sym is) (found_stand m piece old.text made.fitting.cuts found holds.stand));
    }

-- ---- the changes that are made, and those that are left

pub record AreMoved (before now : OpenView) (all rest : List Change) (number : ℕ) : Type 0 where
  pub more : (after : OpenView) → MovesAll now rest after → MovesAll before all after
  pub texts : AreMade before.client.encoding before.client.text now.client.text all rest number
  pub encoding : now.client.encoding ≡ before.client.encoding
  pub holds : Holds now.client now.found

-- the change that is made next
pub next_change : (before now : OpenView) (all : List Change) (number : ℕ) (change : Change) → AreMoved before now all (drop number all) number → number < length all → change ≡ get_or all number change
    → AreMoved before now all (change ∷ drop (number + 1) all) number
next_change before now all number change is h same =
    subst (λ l. AreMoved before now all l number) (drop_more all number change h ∙ ap (λ (c : Change). c ∷ drop (number + 1) all) (sym same)) is

pub moved_more : (before now next : OpenView) (all rest : List Change) (change : Change) (number : ℕ) → AreMoved before now all (change ∷ rest) number → MovesOne now change next → Holds next.client next.found
    → AreMoved before next all rest (number + 1)
moved_more before now next all rest change number is made holds = record {
  more = λ after later. is.more after (next, made, later);
  texts = made_more before.client.encoding before.client.text now.client.text next.client.text all rest change number is.texts
      (subst (λ (e : Encoding). Changes e now.client.text change next.client.text) is.encoding (only_change now.client.encoding now.client.text next.client.text change made.edited.made));
  encoding = made.edited.encoding ∙ is.encoding;
  holds = holds;
}

-- all are made
pub moved_all_made : (before now : OpenView) (all rest : List Change) (number : ℕ) → AreMoved before now all rest number → length rest ≡ 0 → MovesAll before all now
moved_all_made before now all [] number is none = is.more now refl
moved_all_made before now all (change ∷ rest) number is none = absurd (omega (arith, none))

-- the only element of a part of a list
pub one_of : {A : Type 0} (xs : List A) (i : ℕ) (x : A) → i < length xs → x ≡ get_or xs i x → take (i + 1 - i) (drop i xs) ≡ x ∷ []
one_of xs i x within is =
    let one : i + 1 - i ≡ 1 = omega arith in
    ap₂ (λ n l. take n l) one (drop_more xs i x within ∙ ap (λ y. y ∷ drop (i + 1) xs) (sym is))

-- ---- all changes

-- the text of a document whose changes are made, findings aside
pub moved_text : (old new : OpenView) (changes : List Change) → MovesAll old changes new
    → AllChange old.client.encoding old.client.text changes new.client.text × (new.client.encoding ≡ old.client.encoding)
moved_text old new [] is = (ap (λ (v : OpenView). v.client.text) is, ap (λ (v : OpenView). v.client.encoding) is)
moved_text old new (change ∷ changes) (next, made, later) =
    let rest = moved_text next new changes later in
    let one = only_change old.client.encoding old.client.text next.client.text change made.edited.made in
    let behind = subst (λ (e : Encoding). AllChange e next.client.text changes new.client.text) made.edited.encoding rest.0 in
    ((next.client.text, one, behind), rest.1 ∙ made.edited.encoding)

-- the same changes made in another document of the text
pub spare_of : (before copy next : Document) (found moved : List OxcParts) (changes : List Change) (it : Option Document) → copy.text ≡ before.text → copy.encoding ≡ before.encoding
    → MovesAll (open_view copy found) changes (open_view next moved)
    → IfSome it (λ d. AllChange before.encoding before.text changes d.text) → IfSome it (λ d. d.encoding ≡ before.encoding) → IfSome it (IsSpareOf next)
spare_of before copy next found moved changes None text encoding all made same = tt
spare_of before copy next found moved changes (Some it) text encoding all made same =
    let moves = moved_text (open_view copy found) (open_view next moved) changes all in
    let there = subst (λ t. AllChange before.encoding t changes next.text) text
    (subst (λ (e : Encoding). AllChange e copy.text changes next.text) encoding moves.0) in
    record {
      text = changes_same before.encoding before.text changes it.text next.text made there;
      encoding = same ∙ sym encoding ∙ sym moves.1;
    }

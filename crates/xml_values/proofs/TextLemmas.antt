-- One turn of reading a text.
use Rattle.std.proofs.Common.{◌≡◌, ◌∙◌, ℕ, zero, suc, ◌+◌, ◌-◌, ◌<◌, ◌≤◌, List, ◌++◌, Bool, Option, Some, None, option_and_then, ap, ap₂, arith, codes, refl, sym}
use Rattle.std.specs.Char.{encode_utf8}
use Rattle.xml_values.specs.declared.marks.Class.TheVariants.{Until}
use Rattle.xml_values.specs.Marks.{after_first, run, past, parted}
use Rattle.xml_values.specs.Text.{from_reference, referred, meaning, plain, read_after}

front : Bool → List ℕ → List ℕ → List ℕ
front a out text = out ++ plain a (run (Until 0x26) text)

on : ℕ → Bool → List ℕ → List ℕ → ℕ → Option (List ℕ)
on n a out more code = read_after n a (out ++ encode_utf8 code) more

read_turn : (n : ℕ) (a : Bool) (out text : List ℕ) → 0 < n → read_after n a out text ≡ from_reference (read_after (n - 1) a) (front a out text) (after_first (past (Until 0x26) text))
unfolding read_after front
read_turn zero a out text h = absurd (omega arith)
read_turn (suc n) a out text h =
    let same : n ≡ suc n - 1 = omega arith in
    ap (λ k. from_reference (read_after k a) (out ++ plain a (run (Until 0x26) text)) (after_first (past (Until 0x26) text))) same

pub text_spent : (len turn : ℕ) (a : Bool) (out text : List ℕ) → len + 1 ≤ turn → read_after (len + 1 - turn) a out text ≡ None
unfolding read_after
text_spent len turn a out text h =
    let none : len + 1 - turn ≡ 0 = omega arith in
    ap (λ k. read_after k a out text) none

pub text_end : (n : ℕ) (a : Bool) (out text later : List ℕ) → 0 < n → after_first (past (Until 0x26) text) ≡ None → later ≡ out ++ plain a (run (Until 0x26) text) → read_after n a out text ≡ Some later
unfolding front
text_end n a out text later h none is =
    read_turn n a out text h ∙ ap (from_reference (read_after (n - 1) a) (front a out text)) none ∙ ap Some (sym is)

at_reference : (n : ℕ) (a : Bool) (out text from : List ℕ) → 0 < n → after_first (past (Until 0x26) text) ≡ Some from
    → read_after n a out text ≡ referred (read_after (n - 1) a) (front a out text) (parted (codes ";") from)
at_reference n a out text from h some = read_turn n a out text h ∙ ap (from_reference (read_after (n - 1) a) (front a out text)) some

pub text_open : (n : ℕ) (a : Bool) (out text from : List ℕ) → 0 < n → after_first (past (Until 0x26) text) ≡ Some from → parted (codes ";") from ≡ None → read_after n a out text ≡ None
text_open n a out text from h some none = at_reference n a out text from h some ∙ ap (referred (read_after (n - 1) a) (front a out text)) none

known : (n : ℕ) (a : Bool) (out text from name more : List ℕ) → 0 < n → after_first (past (Until 0x26) text) ≡ Some from → parted (codes ";") from ≡ Some (name, more)
    → read_after n a out text ≡ option_and_then (on (n - 1) a (front a out text) more) (meaning name)
unfolding on
known n a out text from name more h some is = at_reference n a out text from h some ∙ ap (referred (read_after (n - 1) a) (front a out text)) is

pub text_unknown : (n : ℕ) (a : Bool) (out text from name more : List ℕ) → 0 < n → after_first (past (Until 0x26) text) ≡ Some from → parted (codes ";") from ≡ Some (name, more) → meaning name ≡ None
    → read_after n a out text ≡ None
text_unknown n a out text from name more h some is none = known n a out text from name more h some is ∙ ap (option_and_then (on (n - 1) a (front a out text) more)) none

pub text_turn : (len turn : ℕ) (a : Bool) (out text from name more later : List ℕ) (code : ℕ) → turn < len + 1 → after_first (past (Until 0x26) text) ≡ Some from → parted (codes ";") from ≡ Some (name, more) → meaning name ≡ Some code
    → later ≡ (out ++ plain a (run (Until 0x26) text)) ++ encode_utf8 code → read_after (len + 1 - turn) a out text ≡ read_after (len + 1 - (turn + 1)) a later more
unfolding on front
text_turn len turn a out text from name more later code h some is means pushed =
    let less : len + 1 - turn - 1 ≡ len + 1 - (turn + 1) = omega arith in
    known (len + 1 - turn) a out text from name more (omega arith) some is
    ∙ ap (option_and_then (on (len + 1 - turn - 1) a (front a out text) more)) means
    ∙ ap₂ (λ k l. read_after k a l more) less (sym pushed)

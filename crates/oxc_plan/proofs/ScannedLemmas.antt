-- What holds of a scanner holds of it after each read.
use Rattle.std.proofs.Common.{◌≡◌, ℕ, ◌-◌, ◌<◌, ◌≤◌, ◌∙◌, List, Option, Some, None, length, get_or, refl, sym, ap, subst, arith}
use Rattle.std.specs.Option.{unwrap_or}
use Rattle.std.specs.Str.{IsUtf8}
use Rattle.std.proofs.lemmas.Bool.{le-ltb}
use Rattle.std.proofs.lemmas.List.{get_or-take, length-take, take_all}
use Rattle.oxc_windows.specs.Breaks.{breaks_of}
use Rattle.oxc_windows.specs.Kept.{AllStay, AreKept, AreKeptUpTo, first_after}
use Rattle.oxc_windows.specs.Scan.{IsSameReader, KeepsUpTo, Scan}
use Rattle.oxc_windows.specs.Window.{first_row}
use Rattle.oxc_windows.proofs.KeptLemmas.{all_stay_on}
use Rattle.oxc_windows.proofs.TotalLemmas.{same_then}
use Rattle.oxc_plan.specs.Keeping.{KeepsRows, ReadsOn}
use Rattle.oxc_plan.specs.Scanned.{ReadsRound, ReadsTextRound}

pub round_after : (a b : Scan) → ReadsOn a b → ReadsRound a → ReadsRound b
round_after a b on round = record { before = on.same.before ∙ round.before; after = on.same.after ∙ round.after }

pub text_round_after : (a b : Scan) → ReadsOn a b → ReadsTextRound a → ReadsTextRound b
text_round_after a b on reads = record { round = round_after a b on reads.round; text = subst IsUtf8 (sym on.same.input) reads.text }

-- lists of which the one is the first part of the other
fewer : (old new : List ℕ) → AllStay old new → length old ≤ length new
fewer old new stay = omega (arith, ap length stay, length-take (length old) new)

there : (old new : List ℕ) (i d : ℕ) → AllStay old new → i < length old → get_or new i d ≡ get_or old i d
there old new i d stay lt = sym (get_or-take (length old) new i d lt) ∙ ap (λ l. get_or l i d) stay

-- a scanner reads on
pub on_self : (scan : Scan) → ReadsOn scan scan
on_self scan = record { same = record { input = refl; before = refl; after = refl }; first = λ f e. e; stay = take_all (length scan.kept) scan.kept (omega arith); rows = λ h. h }

pub on_then : (a b c : Scan) → ReadsOn a b → ReadsOn b c → ReadsOn a c
on_then a b c first then = record {
  same = same_then a b c first.same then.same;
  first = λ f e. then.first f (first.first f e);
  stay = all_stay_on a.kept b.kept c.kept first.stay then.stay;
  rows = λ h. then.rows (first.rows h);
}

pub on_read : (a b : Scan) → IsSameReader a b → ((f : ℕ) → a.first ≡ Some f → b.first ≡ Some f) → AllStay a.kept b.kept → AreKept (length a.input) (breaks_of a.input) a.before b.first b.kept → ReadsOn a b
on_read a b same first stay kept = record {
  same = same;
  first = first;
  stay = stay;
  rows = λ h. subst (λ before. AreKept (length b.input) (breaks_of b.input) before b.first b.kept) (sym same.before) (subst (λ input. AreKept (length input) (breaks_of input) a.before b.first b.kept) (sym same.input) kept);
}

-- what it kept it keeps
pub keeps_later : (source : List ℕ) (a b : Scan) (start stop : ℕ) → ReadsOn a b → KeepsRows source a start stop → KeepsRows source b start stop
keeps_later source a b start stop on keeps = record {
  first = keeps.first;
  set = on.first keeps.first keeps.set;
  rows = λ from row low high lt.
      let at = keeps.rows from row low high lt in
      let i = row - first_row (breaks_of source) 1 keeps.first in
      (omega (arith, at.0, fewer a.kept b.kept on.stay), there a.kept b.kept i (length source) on.stay at.0 ∙ at.1);
}

-- the first span read
pub first_is : (len : ℕ) (old : Option ℕ) (start end : ℕ) → end ≤ len → first_after len old start end ≡ Some (unwrap_or old start)
first_is len (Some first) start end le = refl
first_is len None start end le = rw (le-ltb len end le) refl

pub first_kept : (len : ℕ) (old : Option ℕ) (start end first : ℕ) → old ≡ Some first → first_after len old start end ≡ Some first
first_kept len old start end first e = ap (λ o. first_after len o start end) e

pub first_still : (old : Option ℕ) (first start : ℕ) → old ≡ Some first → Some (unwrap_or old start) ≡ Some first
first_still old first start e = ap (λ o. Some (unwrap_or o start)) e

pub keeps_read : (a b : Scan) (start stop : ℕ) → ReadsRound a → IsSameReader a b → b.first ≡ Some (unwrap_or a.first start)
    → ((first : ℕ) → b.first ≡ Some first → first ≤ start → KeepsUpTo b stop) → KeepsRows a.input b start stop
keeps_read a b start stop round same set held =
    let first = unwrap_or a.first start in
    record {
      first = first;
      set = set;
      rows = λ from.
          subst (λ before. AreKeptUpTo (length a.input) (breaks_of a.input) (first_row (breaks_of a.input) before first) b.kept stop) (same.before ∙ round.before)
          (subst (λ input. AreKeptUpTo (length input) (breaks_of input) (first_row (breaks_of input) b.before first) b.kept stop) same.input (held first set from first set));
    }

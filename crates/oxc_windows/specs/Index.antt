-- An index is one of a length and a list of breaks.
use Rattle.std.specs.Prelude.{◌≡◌, ℕ, ◌-◌, ◌≤◌, ◌==◌, nat_le, nat_lt, Bool, true, List, [], Option, Some, None, length, if◌then◌else◌, slice_index_or, ◌&&◌}
use Rattle.oxc_windows.specs.declared.breaks.LineBreak.{LineBreak}
use Rattle.oxc_windows.specs.declared.held.Rows.{Rows}
use Rattle.oxc_windows.specs.declared.index.WindowIndex.{WindowIndex}
use Rattle.oxc_windows.specs.Rows.{row_of}
use Rattle.oxc_windows.specs.Held.{AreRowsOf}

-- what contracts see of an index: the rows of context that it was made for, the start of the first span that had a window,
-- how many bytes it has not looked at since (0 before that span), and the row starts that it keeps
pub record IndexView : Type 0 where
  pub before : ℕ
  pub after : ℕ
  pub first : Option ℕ
  pub left : ℕ
  pub kept : List ℕ

abbrev pub left_of : Option ℕ → ℕ → ℕ → ℕ
left_of None len known = 0
left_of (Some first) len known = len - known

abbrev pub index_view : WindowIndex → IndexView
index_view index =
    record {
      before = index.before;
      after = index.after;
      first = index.first;
      left = left_of index.first index.len index.rows.known;
      kept = index.rows.starts.items;
    }

-- an index that has read nothing
abbrev pub new_index : ℕ → ℕ → IndexView
new_index before after = record { before = before; after = after; first = None; left = 0; kept = [] }

-- what an index holds from the first span on
pub record IsSeeded (len : ℕ) (breaks : List LineBreak) (before first size : ℕ) (rows : Rows) : Type 0 where
  pub held : AreRowsOf len breaks rows
  pub top : rows.top ≡ row_of breaks first - before
  pub reached : first ≤ rows.known
  pub whole : size ≡ len

abbrev pub HoldsRows : ℕ → List LineBreak → ℕ → ℕ → Rows → Option ℕ → Type 0
HoldsRows len breaks before whole rows None = rows.starts.items ≡ []
HoldsRows len breaks before whole rows (Some first) = IsSeeded len breaks before first whole rows

-- all that an index holds is true of a source of that length with these breaks. A new index is one of every source.
abbrev pub IsIndexOf : ℕ → List LineBreak → WindowIndex → Type 0
IsIndexOf len breaks index = HoldsRows len breaks index.before index.len index.rows index.first

-- a span whose window begins in the rows held or after them: the row `before` rows after the first held starts at the span's start or before
abbrev pub is_served : ℕ → ℕ → List ℕ → ℕ → Bool
is_served top before starts start = if top == 0 then true else (nat_lt before (length starts)) && nat_le (slice_index_or starts before 0) start

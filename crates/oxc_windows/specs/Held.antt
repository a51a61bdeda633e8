-- What an index holds of a list of breaks: those of consecutive rows, up to the place up to which breaks are known.
use Rattle.std.specs.Prelude.{◌≡◌, ℕ, ◌+◌, ◌<◌, ◌≤◌, List, ◌∷◌, ◌++◌, length, map, reverse, All, false, if◌then◌else◌}
use Rattle.oxc_windows.specs.declared.breaks.LineBreak.{LineBreak}
use Rattle.oxc_windows.specs.declared.held.Rows.{Rows}
use Rattle.oxc_windows.specs.Rows.{row_of, row_start, is_second_byte}

-- the list in three parts: the breaks above row `top`, those that are held, which end before the known place, and the rest
pub record Held (len : ℕ) (list : List LineBreak) (top known : ℕ) (starts : List ℕ) (kept : List LineBreak) : Type 0 where
  pub front : List LineBreak
  pub rest : List LineBreak
  pub begin : ℕ
  pub split : list ≡ front ++ (kept ++ rest)
  pub above : length front ≡ top
  pub begins : begin ≡ row_start len list top
  pub before : All (λ b. b.end < begin) front
  pub low : All (λ b. begin ≤ b.start) kept
  pub high : All (λ b. b.end < known) kept
  pub ahead : All (λ b. known ≤ b.start) rest
  pub ordered : begin ≤ known
  pub within : known ≤ len
  pub starts_are : starts ≡ begin ∷ map (λ b. b.end + 1) kept

-- the breaks that are held, by the starts of the rows and by where the break at the end of each row starts
pub record IsHeld (len : ℕ) (list : List LineBreak) (top known : ℕ) (starts heads : List ℕ) : Type 0 where
  pub kept : List LineBreak
  pub held : Held len list top known starts kept
  pub heads_are : heads ≡ map (λ b. b.start) kept

-- the rows are those of a source of that length with these breaks
abbrev pub AreRowsOf : ℕ → List LineBreak → Rows → Type 0
AreRowsOf len breaks rows = IsHeld len breaks rows.top rows.known rows.starts.items rows.heads.items

-- a walk back from the place `cut`, which stands at `at`: the breaks passed so far, last first, and those above
pub record Back (list : List LineBreak) (top cut at : ℕ) (taken : List LineBreak) : Type 0 where
  pub back : List LineBreak
  pub rest : List LineBreak
  pub split : list ≡ reverse back ++ (reverse taken ++ rest)
  pub above : length back ≡ top
  pub before : All (λ b. b.end < at) back
  pub low : All (λ b. at ≤ b.start) taken
  pub high : All (λ b. b.end < cut) taken
  pub ahead : All (λ b. cut ≤ b.start) rest
  pub ordered : at ≤ cut

-- the same, by what was noted of the breaks passed: the place after each, and where it starts
pub record IsBack (list : List LineBreak) (top cut at : ℕ) (starts heads : List ℕ) : Type 0 where
  pub taken : List LineBreak
  pub walk : Back list top cut at taken
  pub starts_are : starts ≡ map (λ b. b.end + 1) taken
  pub heads_are : heads ≡ map (λ b. b.start) taken

-- the place to which the breaks of a span that starts at `start` are counted: before its CRLF where it starts inside one
pub record IsCut (list : List LineBreak) (start cut : ℕ) : Type 0 where
  pub upto : cut ≤ start
  pub near : start ≤ cut + 1
  pub outside : is_second_byte list cut ≡ false
  pub same_row : row_of list start ≡ row_of list cut

-- how far a search up to a place may look: to the place, or past the LF of a CRLF that it lies in
abbrev pub past : List LineBreak → ℕ → ℕ
past list to = if is_second_byte list to then to + 1 else to
